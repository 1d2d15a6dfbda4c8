-- The byte stream of H.266 Annex B, by places in a list of bytes. All readers of streams rely on it. `all` says that the bytes
-- are all there are. With it the definitions are those of B.2, where a zero_byte is a zero like any other; whether a unit must
-- have one (B.2.2) is not checked. Without it a unit counts once its end is seen, however the bytes go on.
use Rattle.std.specs.Prelude.{◌≡◌, ◌≢◌, ℕ, ◌+◌, ◌-◌, ◌^◌, ◌<◌, ◌≤◌, ◌⊎◌, Bool}
use Rattle.std.specs.Prelude.{IsTrue, List, [], ◌∷◌, Option, Some, None, length, slice_index, slice_range}
use Rattle.vx_bits.specs.declared.refusal.Refusal.{Refusal}
use Rattle.vx_bits.specs.declared.refusal.Refusal.TheVariants.{Framing, Limit}
use Rattle.vx_bits.specs.declared.rules.TheConstants.{NOT_A_START_CODE, BAD_EMULATION, BAD_HEADER, LONG_UNIT}
use Rattle.vx_bits.specs.Limits.{unit_limit}
use Rattle.vx_annexb.specs.NalUnit.{HasHeader}
use Rattle.vx_annexb.specs.Places.{AreZeros, IsMark, IsFirstFrom}
use Rattle.vx_annexb.specs.Emulation.{BreaksRule}

-- The start code prefix 00 00 01, after zeros from place p on, ends just before place s (B.2.1).
pub record StartsAt (b : List ℕ) (p s : ℕ) : Type 0 where
  pub prefix : p + 3 ≤ s
  pub within : s ≤ length b
  pub zeros : AreZeros b p (s - 1)
  pub one : slice_index b (s - 1) ≡ 1

-- A unit can't go on at place e: there is 00 00 00 or 00 00 01, or only zeros follow up to the end of all bytes (B.3).
abbrev pub CanEnd : List ℕ → Bool → ℕ → Type 0
CanEnd b all e = IsMark 1 b e ⊎ (IsTrue all × AreZeros b e (length b))

-- The place where a unit begins, and the place after its last byte (our own).
pub record UnitPlace : Type 0 where
  pub start : ℕ
  pub end : ℕ

-- The bytes of a unit (our own).
abbrev pub unit_bytes : List ℕ → UnitPlace → List ℕ
unit_bytes b u = slice_range b u.start u.end

-- The next NAL unit after place p (B.2.2, B.3).
pub record IsUnit (b : List ℕ) (all : Bool) (p : ℕ) (u : UnitPlace) : Type 0 where
  pub starts : StartsAt b p u.start
  pub ends : IsFirstFrom (CanEnd b all) u.start u.end

-- Neither a unit's end nor a stray byte is seen after place p (B.2.1).
abbrev pub SeesNoMore : List ℕ → Bool → ℕ → Type 0
SeesNoMore b all p = AreZeros b p (length b) ⊎ ((s : ℕ) × StartsAt b p s × ((k : ℕ) → s ≤ k → ¬ CanEnd b all k))

-- After place p, the first byte that isn't 0 is at place q, and is not the 01 of a start code (B.2.1).
pub record IsStray (b : List ℕ) (p q : ℕ) : Type 0 where
  pub zeros : AreZeros b p q
  pub within : q < length b
  pub nonzero : slice_index b q ≢ 0
  pub no_code : slice_index b q ≡ 1 → q < p + 2

-- The greatest number of bytes of a source (our own limit).
unfoldable pub source_limit : ℕ
source_limit = 2 ^ 40

-- A unit that no rule refuses (7.3.1, 7.4.2.1; the limit is our own).
pub record IsSound (unit : List ℕ) : Type 0 where
  pub header : HasHeader unit
  pub emulation : (k : ℕ) → ¬ BreaksRule unit k
  pub size : length unit ≤ unit_limit

-- r refuses the unit whose first byte is at this place: its header can't be read, otherwise a byte violates emulation
-- prevention, otherwise it is too long (our own).
abbrev pub RefusesUnit : List ℕ → ℕ → Refusal → Type 0
RefusesUnit unit place r =
    ((¬ HasHeader unit) × (r ≡ Framing BAD_HEADER place))
    ⊎ ((HasHeader unit × ((k : ℕ) × IsFirstFrom (BreaksRule unit) 0 k × (r ≡ Framing BAD_EMULATION (place + k))))
    ⊎ (HasHeader unit × ((k : ℕ) → ¬ BreaksRule unit k) × (unit_limit < length unit) × (r ≡ Limit LONG_UNIT)))

-- r refuses what comes next after place p: a byte that is no start code, or a unit (our own).
abbrev pub RefusesNext : List ℕ → Bool → ℕ → Refusal → Type 0
RefusesNext b all p r =
    ((q : ℕ) × IsStray b p q × (r ≡ Framing NOT_A_START_CODE q))
    ⊎ ((u : UnitPlace) × IsUnit b all p u × RefusesUnit (unit_bytes b u) u.start r)

-- These units follow one another from place p on, and no rule refuses them (B.2.1).
abbrev pub FollowsFrom : List ℕ → Bool → ℕ → List UnitPlace → Type 0
FollowsFrom b all p [] = Unit {0}
FollowsFrom b all p (u ∷ us) = IsUnit b all p u × IsSound (unit_bytes b u) × FollowsFrom b all u.end us

-- The place after the last of these units (our own).
abbrev pub end_of : ℕ → List UnitPlace → ℕ
end_of p [] = p
end_of p (u ∷ us) = end_of u.end us

-- How the bytes end after their units: nothing more is seen, or there is a refusal (our own).
abbrev pub EndsWith : List ℕ → Bool → ℕ → Option Refusal → Type 0
EndsWith b all p None = SeesNoMore b all p
EndsWith b all p (Some r) = RefusesNext b all p r

-- The units of the bytes before the first refusal, and the ending after them (B.2.1).
pub record IsStream (b : List ℕ) (all : Bool) (units : List UnitPlace) (ending : Option Refusal) : Type 0 where
  pub follow : FollowsFrom b all 0 units
  pub behind : EndsWith b all (end_of 0 units) ending

-- zero_byte and start_code_prefix_one_3bytes, with which a writer begins each unit (B.2.1).
abbrev pub long_start_code : List ℕ
long_start_code = 0 ∷ 0 ∷ 0 ∷ 1 ∷ []
