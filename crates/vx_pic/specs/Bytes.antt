-- The pictures of bytes (H.266 Annex B), and where and why the bytes are refused. All contracts on the pictures of a source rely on
-- it.
use Rattle.std.specs.Prelude.{◌≡◌, ℕ, nat_le, Bool, true, false, List, [], length, map, take, Option, Some, option_map}
use Rattle.std.specs.Option.{option_or}
use Rattle.vx_bits.specs.declared.refusal.Refusal.{Refusal}
use Rattle.vx_bits.specs.declared.refusal.Refusal.TheVariants.{Limit}
use Rattle.vx_bits.specs.declared.rules.TheConstants.{LONG_SOURCE}
use Rattle.vx_annexb.specs.ByteStream.{UnitPlace, unit_bytes, IsStream, source_limit}
use Rattle.vx_pic.specs.Readings.{Reading, Picture, pictures}
use Rattle.vx_pic.specs.Rules.{Readers}
use Rattle.vx_pic.specs.Streams.{StreamReading, read_on, lacks_slice}

-- The first rule that is broken, and how many units come before (our own).
pub record Ending : Type 0 where
  pub units : ℕ
  pub refusal : Refusal

-- After all units of bytes: more bytes than a source may have, or a picture that lacks a slice (our own).
abbrev pub end_refusal : Bool → List Reading → Option Refusal
end_refusal true before = lacks_slice before
end_refusal false before = Some (Limit LONG_SOURCE)

-- A refused unit comes before what the bytes after it are refused for, and that before their end (our own).
abbrev pub first_refusal : Bool → Option Refusal → StreamReading → Option Refusal
first_refusal all framing o = option_or o.refusal (option_or framing (end_refusal all o.before))

-- That of bytes, if a rule is broken (our own).
abbrev pub ending_by : Bool → Option Refusal → StreamReading → Option Ending
ending_by all framing o = option_map (λ r. record { units = length o.before; refusal = r }) (first_refusal all framing o)

-- The bytes of the units at these places (our own).
abbrev pub units_at : List ℕ → List UnitPlace → List (List ℕ)
units_at b places = map (unit_bytes b) places

-- The pictures of bytes, the latest first, and how these end. `all` says that the bytes are all there are (Annex B, 7.4.2.4).
pub record ArePictures (R : Readers) (b : List ℕ) (all : Bool) (ps : List Picture) (ending : Option Ending) : Type 0 where
  pub places : List UnitPlace
  pub framing : Option Refusal
  pub stream : IsStream b all places framing
  pub done : ps ≡ pictures (read_on R [] (units_at b places)).before
  pub ends : ending ≡ ending_by all framing (read_on R [] (units_at b places))

-- Those of a source. If it has more bytes than the limit, the units whose end is seen within the limit count (our own).
abbrev pub AreSourcePictures : Readers → List ℕ → List Picture → Option Ending → Type 0
AreSourcePictures R b ps ending = ArePictures R (take source_limit b) (nat_le (length b) source_limit) ps ending

-- The pictures that are seen in bytes, however the bytes continue (our own).
abbrev pub AreSeenPictures : Readers → List ℕ → List Picture → Type 0
AreSeenPictures R b ps = (ending : Option Ending) × ArePictures R b false ps ending
