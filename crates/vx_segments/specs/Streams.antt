-- A segment of a stream, as its units are read by themselves, and after those of the segments before it. Our own.
use Rattle.std.specs.Prelude.{◌≡◌, ◌≢◌, ℕ, true, List, [], ◌∷◌, ◌++◌, map, drop, slice_get, Some, None, option_map}
use Rattle.std.specs.List.{AllByRecursion, AllZip}
use Rattle.vx_annexb.specs.ByteStream.{IsStream, UnitPlace, unit_bytes}
use Rattle.vx_annexb.specs.NalUnit.{nal_unit_type}
use Rattle.vx_pic.specs.Bytes.{ArePictures, units_at}
use Rattle.vx_pic.specs.Parts.{Parts, parts_of}
use Rattle.vx_pic.specs.Readings.{Picture, Reading, pictures}
use Rattle.vx_pic.specs.Rules.{Readers}
use Rattle.vx_pic.specs.Streams.{all_read, read_on}
use Rattle.vx_pic.specs.Units.{class_of, end_unit}
use Rattle.vx_pic.specs.Written.{Rests}
use Rattle.vx_segments.specs.Alike.{IsReadAlike}

-- ---- a source

-- None of these units ends a sequence or the bitstream.
abbrev pub HaveNoEnd : List (List ℕ) → Type 0
HaveNoEnd units = AllByRecursion (λ u. class_of (nal_unit_type u) ≢ end_unit) units

-- As callers see them, each of these pictures is one of those, read alike.
abbrev pub PicturesAlike : List Picture → List Picture → Type 0
PicturesAlike ps qs = AllZip (λ p q. IsReadAlike (parts_of p) (parts_of q)) ps qs

-- The segments before end whole, without an end of sequence or messages after their last picture; the segment has no end of sequence; and
-- all its units are read, by themselves and after those before. Then its pictures come after those before, each read alike.
abbrev pub SegmentIsReadAlike : Type 0
SegmentIsReadAlike =
    (R : Readers) (first later : List (List ℕ)) (before own all : List Reading) → read_on R [] first ≡ all_read before → Rests before
    → HaveNoEnd later → read_on R [] later ≡ all_read own → read_on R [] (first ++ later) ≡ all_read all
    → (qs : List Picture) × (pictures all ≡ qs ++ pictures before) × PicturesAlike (pictures own) qs

-- If the segment ends so too, then both do: another segment may follow.
abbrev pub JoinedRests : Type 0
JoinedRests =
    (R : Readers) (first later : List (List ℕ)) (before own all : List Reading) → read_on R [] first ≡ all_read before → Rests before
    → HaveNoEnd later → read_on R [] later ≡ all_read own → read_on R [] (first ++ later) ≡ all_read all → Rests own → Rests all

-- Bytes that end well, one after the other, end well, and have the units of both.
abbrev pub BytesJoin : Type 0
BytesJoin =
    (b c : List ℕ) (us vs : List UnitPlace) → IsStream b true us None → IsStream c true vs None
    → (ws : List UnitPlace) × IsStream (b ++ c) true ws None
    × (map (unit_bytes (b ++ c)) ws ≡ map (unit_bytes b) us ++ map (unit_bytes c) vs)

-- ---- several sources

-- The pictures of these sources make these rounds, one of each source in each, and no more; the latest first.
abbrev pub MakeRounds : List (List Picture) → List (List Parts) → Type 0
MakeRounds sources [] = AllByRecursion (λ ps. ps ≡ []) sources
MakeRounds sources (round ∷ rounds) =
    (map (λ ps. option_map parts_of (slice_get ps 0)) sources ≡ map (λ q. Some q) round) × MakeRounds (map (drop 1) sources) rounds

-- For a source: its pictures in the segments before, in a segment as that is read by itself, and in both as the joined stream is read.
pub record CutStream : Type 0 where
  pub before : List Picture
  pub own : List Picture
  pub all : List Picture

-- The pictures of both are those before, and after them the segment's, each read alike.
abbrev pub IsJoined : CutStream → Type 0
IsJoined s = (qs : List Picture) × (s.all ≡ qs ++ s.before) × PicturesAlike s.own qs

-- It is so of bytes: b of the segments before, and c of the segment. After the last picture of b comes no end of sequence and no message,
-- and in c no sequence ends. No rule refuses either, or both, one after the other.
pub record IsCutStream (R : Readers) (b c : List ℕ) (s : CutStream) : Type 0 where
  pub before : ArePictures R b true s.before None
  pub own : ArePictures R c true s.own None
  pub all : ArePictures R (b ++ c) true s.all None
  pub rests : (places : List UnitPlace) → IsStream b true places None → Rests (read_on R [] (units_at b places)).before
  pub goes_on : (places : List UnitPlace) → IsStream c true places None → HaveNoEnd (units_at c places)

abbrev pub CutIsJoined : Type 0
CutIsJoined = (R : Readers) (b c : List ℕ) (s : CutStream) → IsCutStream R b c s → IsJoined s

-- Each picture of these rounds is read alike.
abbrev pub AreReadAlike : List (List Parts) → List (List Parts) → Type 0
AreReadAlike alone behind = AllZip (AllZip IsReadAlike) alone behind

-- So the rounds of the joined streams are those of the segments before, and after them the segment's, each picture read alike.
abbrev pub RoundsAreReadAlike : Type 0
RoundsAreReadAlike =
    (sources : List CutStream) (first alone : List (List Parts)) → AllByRecursion IsJoined sources
    → MakeRounds (map (λ s. s.before) sources) first → MakeRounds (map (λ s. s.own) sources) alone
    → (later : List (List Parts)) × AreReadAlike alone later × MakeRounds (map (λ s. s.all) sources) (later ++ first)
