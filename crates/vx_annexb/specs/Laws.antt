-- Statements of the laws on byte streams and on escaping. Crates that write streams rely on them.
use Rattle.std.specs.Prelude.{◌≡◌, ℕ, ◌+◌, ◌*◌, ◌<◌, ◌≤◌, Bool, true, false, List, [], ◌∷◌}
use Rattle.std.specs.Prelude.{◌++◌, All, Option, Some, None, drop, flat_map, length, map, replicate, take}
use Rattle.vx_bits.specs.declared.refusal.Refusal.{Refusal}
use Rattle.vx_bits.specs.declared.refusal.Refusal.TheVariants.{Framing}
use Rattle.vx_bits.specs.Codes.{EndsInNoZero}
use Rattle.vx_bits.specs.declared.rules.TheConstants.{NOT_A_START_CODE}
use Rattle.vx_annexb.specs.Places.{IsFirstFrom, IsMark}
use Rattle.vx_annexb.specs.Emulation.{BreaksRule, unescaped_to, unescaped, IsEscaped}
use Rattle.vx_annexb.specs.ByteStream.{UnitPlace, unit_bytes, IsUnit, SeesNoMore, IsSound, FollowsFrom, IsStream, long_start_code}

-- The bytes determine the units and the ending.
abbrev pub StreamIsUnique : Type 0
StreamIsUnique =
    (b : List ℕ) (all : Bool) (us vs : List UnitPlace) (r t : Option Refusal)
    → IsStream b all us r → IsStream b all vs t → (us ≡ vs) × (r ≡ t)

-- Every list of bytes has units and an ending.
abbrev pub StreamExists : Type 0
StreamExists = (b : List ℕ) (all : Bool) → (us : List UnitPlace) × (r : Option Refusal) × IsStream b all us r

-- Units whose end is seen remain however the bytes go on, and so does a refusal.
abbrev pub StreamGoesOn : Type 0
StreamGoesOn =
    (b more : List ℕ) (all : Bool) (us vs : List UnitPlace) (r t : Option Refusal) → IsStream b false us r → IsStream (b ++ more) all vs t
    → ((later : List UnitPlace) × (vs ≡ us ++ later)) × ((refusal : Refusal) → r ≡ Some refusal → (vs ≡ us) × (t ≡ Some refusal))

-- However the bytes go on, units whose end is seen follow one another, with the same bytes.
abbrev pub SeenStays : Type 0
SeenStays =
    (g more : List ℕ) (all : Bool) (p : ℕ) (us : List UnitPlace) → FollowsFrom g false p us
    → FollowsFrom (g ++ more) all p us × (map (unit_bytes (g ++ more)) us ≡ map (unit_bytes g) us)

-- If no further unit's end is seen in the bytes g, then the next unit ends at most two bytes before they do.
abbrev pub LaterUnseen : Type 0
LaterUnseen =
    (g more : List ℕ) (all : Bool) (p : ℕ) (u : UnitPlace) → SeesNoMore g false p → IsUnit (g ++ more) all p u → length g < u.end + 3

-- A NAL unit and the zeros after it.
pub record Part : Type 0 where
  pub unit : List ℕ
  pub zeros : ℕ

-- start_code_prefix_one_3bytes, the unit, and zeros (B.2.1).
abbrev pub part_bytes : Part → List ℕ
part_bytes p = 0 ∷ 0 ∷ 1 ∷ (p.unit ++ replicate p.zeros 0)

-- A byte stream: zeros, then the parts.
abbrev pub annex_b : ℕ → List Part → List ℕ
annex_b zeros parts = replicate zeros 0 ++ flat_map part_bytes parts

-- The places of the units of parts, if the first part is at place p.
abbrev pub places_from : ℕ → List Part → List UnitPlace
places_from p [] = []
places_from p (q ∷ qs) = record { start = p + 3; end = p + 3 + length q.unit } ∷ places_from (p + 3 + length q.unit + q.zeros) qs

-- The units of parts.
abbrev pub units_of : List Part → List (List ℕ)
units_of parts = map (λ q. q.unit) parts

-- A unit that can stand in a byte stream: it doesn't end in 00, and no rule refuses it.
pub record CanStand (unit : List ℕ) : Type 0 where
  pub last : EndsInNoZero unit
  pub sound : IsSound unit

-- A unit contains no 00 00 00 and no 00 00 01 (7.4.2.1).
abbrev pub HoldsNoCode : List ℕ → Type 0
HoldsNoCode unit = (k : ℕ) → ¬ IsMark 1 unit k

-- Units that follow one another can stand in a byte stream, and contain no start code.
abbrev pub UnitsCanStand : Type 0
UnitsCanStand =
    (b : List ℕ) (all : Bool) (p : ℕ) (us : List UnitPlace) → FollowsFrom b all p us
    → All (λ u. CanStand (unit_bytes b u) × HoldsNoCode (unit_bytes b u)) us

-- Bytes that no rule refuses are the byte stream of their units.
abbrev pub StreamIsAnnexB : Type 0
StreamIsAnnexB =
    (b : List ℕ) (us : List UnitPlace) → IsStream b true us None
    → (zeros : ℕ) × (parts : List Part) × (b ≡ annex_b zeros parts) × (us ≡ places_from zeros parts) × All CanStand (units_of parts)

-- The byte stream of units that can stand in one has these units, and no refusal.
abbrev pub AnnexBIsStream : Type 0
AnnexBIsStream =
    (zeros : ℕ) (parts : List Part) → All CanStand (units_of parts)
    → IsStream (annex_b zeros parts) true (places_from zeros parts) None
    × (map (unit_bytes (annex_b zeros parts)) (places_from zeros parts) ≡ units_of parts)

-- Units as `write_unit` writes them, one after another (B.2.1).
abbrev pub written : List (List ℕ) → List ℕ
written units = flat_map (λ unit. long_start_code ++ unit) units

-- What is written is the byte stream of its units.
abbrev pub WrittenIsAnnexB : Type 0
WrittenIsAnnexB =
    (units : List (List ℕ))
    → (zeros : ℕ) × (parts : List Part) × (written units ≡ annex_b zeros parts) × (units_of parts ≡ units)

-- Units that can stand in a byte stream are found again in what is written, with no refusal.
abbrev pub WrittenIsStream : Type 0
WrittenIsStream =
    (units : List (List ℕ)) → All CanStand units
    → (places : List UnitPlace) × IsStream (written units) true places None × (map (unit_bytes (written units)) places ≡ units)

-- The bytes determine their escaped form.
abbrev pub EscapedIsUnique : Type 0
EscapedIsUnique = (r n m : List ℕ) → IsEscaped r n → IsEscaped r m → n ≡ m

-- Bytes that don't end in 00 have an escaped form.
abbrev pub EscapedExists : Type 0
EscapedExists = (r : List ℕ) → EndsInNoZero r → (n : List ℕ) × IsEscaped r n

-- The escaped forms of bytes that don't end in 00 and of any others, one after the other, are that of both.
abbrev pub EscapedJoins : Type 0
EscapedJoins = (h p m q : List ℕ) → EndsInNoZero h → IsEscaped h m → IsEscaped p q → IsEscaped (h ++ p) (m ++ q)

-- If the first k bytes don't end in 00, then the place after them splits the escaped form into theirs and that of the rest.
abbrev pub EscapedSplits : Type 0
EscapedSplits =
    (r n : List ℕ) (k place : ℕ) → IsEscaped r n → length (unescaped_to n place) ≡ k → EndsInNoZero (take k r)
    → IsEscaped (take k r) (take place n) × IsEscaped (drop k r) (drop place n)

-- After the escaped form of bytes that don't end in 00, what follows is unescaped independently. The place after that form is
-- the first that has as many bytes before it that are no emulation bytes.
abbrev pub UnescapedJoins : Type 0
UnescapedJoins =
    (h m q : List ℕ) → EndsInNoZero h → IsEscaped h m
    → (unescaped (m ++ q) ≡ h ++ unescaped q) × IsFirstFrom (λ place. length (unescaped_to (m ++ q) place) ≡ length h) 0 (length m)

-- Escaping adds at most one byte for every two.
abbrev pub EscapedIsShort : Type 0
EscapedIsShort = (r n : List ℕ) → IsEscaped r n → 2 * length n ≤ 3 * length r

-- unescape undoes escape, and escape undoes unescape.
abbrev pub EscapedIsInverse : Type 0
EscapedIsInverse =
    ((r n : List ℕ) → IsEscaped r n → unescaped n ≡ r)
    × ((n m : List ℕ) → ((k : ℕ) → ¬ BreaksRule n k) → EndsInNoZero n → IsEscaped (unescaped n) m → m ≡ n)

-- If a byte at place p is no start code, then the units before it are those of the first p bytes, and no rule refuses these.
abbrev pub StrayEndsStream : Type 0
StrayEndsStream =
    (b : List ℕ) (all : Bool) (us : List UnitPlace) (p : ℕ)
    → IsStream b all us (Some (Framing NOT_A_START_CODE p)) → IsStream (take p b) true us None
