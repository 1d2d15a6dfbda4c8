-- Merges of segments, one after another, and the merge of all. Rounds and plans have the latest first. Our own.
use Rattle.std.specs.Prelude.{◌≡◌, ◌⊎◌, ℕ, ◌+◌, ◌≤◌, true, List, [], ◌∷◌, ◌++◌, length, Option}
use Rattle.vx_bits.specs.declared.refusal.Refusal.{Refusal}
use Rattle.vx_bits.specs.declared.refusal.Refusal.TheVariants.{Limit}
use Rattle.vx_bits.specs.declared.rules.TheConstants.{LONG_SOURCE}
use Rattle.vx_annexb.specs.ByteStream.{source_limit}
use Rattle.vx_annexb.specs.Laws.{written}
use Rattle.vx_pic.specs.Parts.{Parts}
use Rattle.vx_pic.specs.Resident.{units_written}
use Rattle.vx_pic.specs.Units.{is_irap_or_gdr}
use Rattle.vx_pic.specs.Written.{Plan}
use Rattle.vx_frame.specs.declared.corner.Corner.{Corner}
use Rattle.vx_frame.specs.Rounds.{picture_at}
use Rattle.vx_merge.specs.Merging.{IsBarred, Passes}

-- ---- rounds

-- These rounds, from the first of a stream on, are written as these plans: each breaks no rule, and is written so after those before it,
-- within all limits.
abbrev pub AreWrittenInTurn : List Corner → Option ℕ → List (List Parts) → List Plan → Type 0
AreWrittenInTurn corners level [] [] = Unit {0}
AreWrittenInTurn corners level [] (p ∷ done) = ⊥
AreWrittenInTurn corners level (round ∷ rounds) [] = ⊥
AreWrittenInTurn corners level (round ∷ rounds) (p ∷ done) = Passes corners level round done p × AreWrittenInTurn corners level rounds done

-- The first of these rounds is of IRAP or GDR pictures, by the type of source 0's, which all have (M6): a receiver may begin there.
abbrev pub BeginAnew : List (List Parts) → Type 0
BeginAnew [] = Unit {0}
BeginAnew (round ∷ []) = is_irap_or_gdr (picture_at round 0).kind.nal_type ≡ true
BeginAnew (round ∷ before ∷ rounds) = BeginAnew (before ∷ rounds)

-- The bytes that are written as plans.
abbrev pub merge_of : List Plan → List ℕ
merge_of done = written (units_written done)

-- ---- laws

-- Later rounds are written after the first ones as they are by themselves, and the bytes of all are those of both, one after the other.
pub record AreOneMerge (corners : List Corner) (level : Option ℕ) (first later : List (List Parts)) (ps qs : List Plan) : Type 0 where
  pub merged : AreWrittenInTurn corners level (later ++ first) (qs ++ ps)
  pub bytes : merge_of (qs ++ ps) ≡ merge_of ps ++ merge_of qs

-- It is so if the later ones begin anew, and both have no more bytes than a stream may have.
abbrev pub SegmentsJoin : Type 0
SegmentsJoin =
    (corners : List Corner) (level : Option ℕ) (first later : List (List Parts)) (ps qs : List Plan) → BeginAnew later
    → AreWrittenInTurn corners level first ps → AreWrittenInTurn corners level later qs → length (merge_of ps) + length (merge_of qs) ≤ source_limit
    → AreOneMerge corners level first later ps qs

-- There is no other way to write all: they are written as each part is written by itself.
abbrev pub SegmentsSplit : Type 0
SegmentsSplit =
    (corners : List Corner) (level : Option ℕ) (first later : List (List Parts)) (all : List Plan) → BeginAnew later
    → AreWrittenInTurn corners level (later ++ first) all
    → (ps : List Plan) × (qs : List Plan) × (all ≡ qs ++ ps) × AreWrittenInTurn corners level first ps × AreWrittenInTurn corners level later qs

-- A round is barred after all for what it is barred for after the later ones only; and for nothing else, except that all have too many
-- bytes.
abbrev pub BarredAlike : Type 0
BarredAlike =
    (corners : List Corner) (level : Option ℕ) (round : List Parts) (later : List (List Parts)) (ps qs : List Plan) (r : Refusal)
    → BeginAnew (round ∷ later) → AreWrittenInTurn corners level later qs
    → (IsBarred corners level round qs r → IsBarred corners level round (qs ++ ps) r)
    × (IsBarred corners level round (qs ++ ps) r → IsBarred corners level round qs r ⊎ (r ≡ Limit LONG_SOURCE))
