-- The results of the searches for broken rules. Our own.
use Rattle.std.specs.Prelude.{◌≡◌, ℕ, ◌<◌, Bool, true, false, List, flat_map, slice_get, option_to_list, unwrap_or, Option, Some, None, Result, Ok, Err}
use Rattle.vx_bits.specs.declared.refusal.Refusal.{Refusal}
use Rattle.vx_bits.specs.declared.refusal.Refusal.TheVariants.{Limit, Merge}
use Rattle.vx_bits.specs.declared.rules.TheConstants as rules
use Rattle.vx_fit.specs.declared.placed.FitFault.{FitFault}
use Rattle.vx_fit.specs.declared.placed.FitFault.TheVariants.{TooLarge, Geometry, Order}
use Rattle.vx_fit.specs.Lowest.{IsLowest}
use Rattle.vx_pic.specs.Parts.{Parts}
use Rattle.vx_write.specs.declared.fault.WriteError.{WriteError}
use Rattle.vx_write.specs.declared.fault.WriteError.TheVariants as errors
use Rattle.vx_frame.specs.declared.told.Differing.{Differing}
use Rattle.vx_frame.specs.Rounds.{picture_at}
use Rattle.vx_frame.specs.Verdict.{Rule, IsVerdict}

-- The verdict by some rules.
pub record Finds (n : ℕ) (rules : List Rule) (answer : Option Refusal) : Type 0 where
  pub verdict : IsVerdict n rules answer

-- The result of making something as far as some rules allow: if none is broken, this is so of it; otherwise it is their verdict.
abbrev pub Tries : {A : Type 0} → ℕ → List Rule → (A → Type 0) → Result A WriteError → Type 0
Tries n rules P (Ok x) = Finds n rules None × P x
Tries n rules P (Err errors.Memory) = Unit {0}
Tries n rules P (Err errors.SinkFailed) = ⊥
Tries n rules P (Err (errors.Refused r)) = Finds n rules (Some r)
Tries n rules P (Err (errors.Stopped first)) = ⊥

-- The verdict by some rules; if none is broken, the result is nothing.
abbrev pub ChecksRules : ℕ → List Rule → Result (Unit {0}) WriteError → Type 0
ChecksRules n rules = Tries n rules (λ x. Unit {0})

-- The lowest source that breaks a rule, and the field in which it differs.
abbrev pub IsLowestField : ℕ → (ℕ → Type 0) → (ℕ → ℕ) → Option Differing → Type 0
IsLowestField n breaks field None = (k : ℕ) → k < n → ¬ breaks k
IsLowestField n breaks field (Some d) = IsLowest n breaks d.source × (d.field ≡ field d.source)

-- Whether source k breaks a rule, by the field in which it differs.
abbrev pub TellsAt : Type 0 → ℕ → Option ℕ → Type 0
TellsAt Breaks field None = ¬ Breaks
TellsAt Breaks field (Some told) = Breaks × (told ≡ field)

abbrev pub TellsField : (ℕ → Type 0) → (ℕ → ℕ) → ℕ → Option ℕ → Type 0
TellsField breaks field k answer = TellsAt (breaks k) (field k) answer

-- The headers of the first sources have the items of source 0's.
abbrev pub HaveSameItems : ℕ → List Parts → Type 0
HaveSameItems n round = (k : ℕ) → k < n → (picture_at round k).header.fields ≡ (picture_at round 0).header.fields

-- The refusal for a source, and for a field in it.
abbrev pub told_source : ℕ → Option ℕ → Option Refusal
told_source code None = None
told_source code (Some k) = Some (Merge code k 0)

abbrev pub told_field : ℕ → Option Differing → Option Refusal
told_field code None = None
told_field code (Some d) = Some (Merge code d.source d.field)

-- The refusal of regions that don't fit together.
abbrev pub fit_refusal : FitFault → Refusal
fit_refusal TooLarge = Limit rules.TOO_LARGE
fit_refusal (Geometry k) = Merge rules.GEOMETRY k 0
fit_refusal (Order k) = Merge rules.REGION_ORDER k 0

-- What one item of a list adds to what is collected of all.
abbrev pub piece_at : {A B : Type 0} → (A → List B) → List A → ℕ → List B
piece_at f xs i = flat_map f (option_to_list (slice_get xs i))

-- The first of the numbers below `count` for which a test says that it holds.
pub record IsFirstTold (count : ℕ) (Told : ℕ → Bool → Type 0) (answer : Option ℕ) : Type 0 where
  pub found : (k : ℕ) → answer ≡ Some k → (k < count) × Told k true
  pub lower : (k : ℕ) → k < unwrap_or answer count → Told k false
