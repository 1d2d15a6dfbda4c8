-- What is made of a round before any of it is written. Our own.
use Rattle.std.specs.Prelude.{◌≡◌, ℕ, ◌+◌, ◌-◌, ◌^◌, ◌<◌, ◌≤◌, min, nat_lt, Bool, List, [], ◌∷◌, ◌++◌, drop, length, map, sum_by, option_map, option_to_list, Option, Some}
use Rattle.std.specs.List.{AllByRecursion, AllZip}
use Rattle.vx_bits.specs.declared.refusal.Refusal.{Refusal}
use Rattle.vx_bits.specs.declared.rules.TheConstants as rules
use Rattle.vx_layout.specs.declared.numbers.Numbers.{Numbers}
use Rattle.vx_bits.specs.Limits.{unit_limit}
use Rattle.vx_annexb.specs.ByteStream.{source_limit}
use Rattle.vx_pic.specs.Parts.{Parts, SlicePart}
use Rattle.vx_pic.specs.Readings.{Begun}
use Rattle.vx_pic.specs.Resident.{history_of, kept_for}
use Rattle.vx_pic.specs.Rules.{picture_limit, unit_size}
use Rattle.vx_pic.specs.Written.{Plan, SetUnit, eos_units, planned_slices, units_of}
use Rattle.vx_write.specs.Slots.{AreLastOf, Sent}
use Rattle.vx_frame.specs.declared.corner.Corner.{Corner}
use Rattle.vx_frame.specs.Rounds.{picture_at}
use Rattle.vx_frame.specs.Rules.{of_limit}
use Rattle.vx_frame.specs.Verdict.{IsVerdict, Rule}
use Rattle.vx_merge.specs.declared.needed.RoundSets.{RoundSets}
use Rattle.vx_merge.specs.declared.output.RoundUnits.{RoundUnits}
use Rattle.vx_merge.specs.Headers.{HasMergedHeader, IsFront, sourced}
use Rattle.vx_bits.specs.Codes.{AreBytes}
use Rattle.vx_merge.specs.Written.{IsMerged}
use Rattle.vx_merge.specs.inner.Ready.{ids_in}

-- ---- units

-- The units of slices, each in two pieces, the second of which is its payload.
abbrev pub with_payloads : (fronts payloads : List (List ℕ)) → List (List ℕ)
with_payloads [] payloads = []
with_payloads (front ∷ fronts) [] = []
with_payloads (front ∷ fronts) (payload ∷ payloads) = (front ++ payload) ∷ with_payloads fronts payloads

abbrev pub slice_units : RoundUnits → List (List ℕ)
slice_units m = with_payloads (map (λ u. u.items) m.fronts.items) (map (λ b. b.now) m.payloads)

-- There are as many slices as payloads.
abbrev pub HasPayloads : RoundUnits → Type 0
HasPayloads m = length m.fronts.items ≡ length m.payloads

-- All units.
abbrev pub units_made : RoundUnits → List (List ℕ)
units_made m =
    eos_units m.after_eos
    ++ (map (λ u. u.items) m.sets.items
    ++ (option_to_list (option_map (λ u. u.items) m.sei) ++ (m.header.items ∷ slice_units m)))

-- The bytes of units, and this many more for each.
abbrev pub size_of : ℕ → List (List ℕ) → ℕ
size_of each units = sum_by (λ u. each + length u) units

-- The payloads of a picture's slices.
abbrev pub payload_of : SlicePart → List ℕ
payload_of s = drop s.payload s.unit

abbrev pub payloads_in : Parts → List (List ℕ)
payloads_in q = map payload_of q.slices

-- ---- limits

-- L1 to L3, by the units, the bytes of the picture header and of the slices, and the bytes of the stream
abbrev pub limits_by : List (List ℕ) → ℕ → ℕ → List Rule
limits_by units size total =
    of_limit rules.LONG_UNIT (¬ AllByRecursion (λ u. length u ≤ unit_limit) units)
    ∷ of_limit rules.LONG_PICTURE (picture_limit < size)
    ∷ of_limit rules.LONG_SOURCE (source_limit < total)
    ∷ []

-- A unit is too long.
abbrev pub is_long : List ℕ → Bool
is_long unit = nat_lt unit_limit (length unit)

-- A number, or the highest of 64 bits.
abbrev pub capped : ℕ → ℕ
capped n = min n (2 ^ 64 - 1)

-- The limits of what was made after this many bytes.
abbrev pub limits_on : RoundUnits → ℕ → List Rule
limits_on m bytes =
    limits_by (units_made m) (length m.header.items + size_of 0 (slice_units m)) (bytes + size_of 4 (units_made m))

-- The verdict by them, on any number of sources.
abbrev pub AreLimits : RoundUnits → ℕ → Option Refusal → Type 0
AreLimits m bytes answer = (n : ℕ) → 0 < n → IsVerdict n (limits_on m bytes) answer

-- ---- what is made

-- The unit of the picture header, and the units of the slices up to their payloads, under these sets and with this layout.
pub record AreHeaders (round : List Parts) (n : RoundSets) (frame : Numbers) (header_unit : List ℕ) (fronts : List (List ℕ)) : Type 0 where
  pub begun : Begun
  pub sps : begun.sps ≡ n.sps.now
  pub pps : begun.pps ≡ n.pps.now
  pub layout : begun.layout ≡ frame
  pub temporal_id : begun.temporal_id ≡ (picture_at round 0).kind.temporal_id
  pub unit : begun.unit ≡ Some header_unit
  pub header : HasMergedHeader round (ids_in n) begun
  pub slices : AllZip (λ x front. IsFront round (ids_in n) (picture_at round 0).kind.nal_type begun x.0 x.1 front) (sourced 0 round) fronts

-- What is made of a round after sets that were sent: a picture as it is to be written, and its units. These are the last sets then.
pub record AreRoundUnits (corners : List Corner) (level : Option ℕ) (round : List Parts) (history : List SetUnit) (m : RoundUnits) (slots : List Sent) : Type 0 where
  pub plan : Plan
  pub is : (done : List Plan) → history_of done ≡ history → AllByRecursion AreBytes (units_made m) → IsMerged corners level round done plan
  pub units : units_of plan ≡ units_made m
  pub size : unit_size plan.begun.unit + sum_by (λ s. length s.unit) (planned_slices plan) ≡ length m.header.items + size_of 0 (slice_units m)
  pub last : AreLastOf (kept_for plan.kind.nal_type history ++ plan.sent) slots
