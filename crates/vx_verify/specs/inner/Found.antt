-- The results of the searches for a difference. Our own.
use Rattle.std.specs.Prelude.{◌≡◌, ℕ, suc, ◌==◌, List, length, map, filter, slice_get, Option, Some, None}
use Rattle.vx_fit.specs.Lowest.{IsLowest}
use Rattle.vx_pic.specs.Parts.{Parts}
use Rattle.vx_pic.specs.Inputs.{Input}
use Rattle.vx_verify.specs.declared.spot.Spot.{Spot}
use Rattle.vx_verify.specs.declared.mismatch.Mismatch.{Mismatch}
use Rattle.vx_verify.specs.declared.inputs.Differing.{Differing}
use Rattle.vx_verify.specs.Verified.{DiffersAt, HasInputs, IsMismatch, IsVerified, input_check}

-- This holds of each entry of a list.
abbrev pub AllOf : {A : Type 0} → List A → (ℕ → A → Type 0) → Type 0
AllOf {A = A} xs Holds = (k : ℕ) (x : A) → slice_get xs k ≡ Some x → Holds k x

-- The lowest of n files that fails a check, or what holds if none does.
abbrev pub IsLowestFile : ℕ → (ℕ → Type 0) → Type 0 → Option ℕ → Type 0
IsLowestFile n fails Passed None = Passed
IsLowestFile n fails Passed (Some k) = IsLowest n fails k

-- The places of the slices of subpicture k among those of its picture.
abbrev pub ArePlaces : Parts → ℕ → List ℕ → Type 0
ArePlaces q k places = map (slice_get q.slices) places ≡ map Some (filter (λ s. s.header.subpic == k) q.slices)

-- Two lists of inputs are the same, or this is where they differ first.
abbrev pub TellsSlice : List Input → List Input → Option Differing → Type 0
TellsSlice xs ys None = xs ≡ ys
TellsSlice xs ys (Some d) = DiffersAt xs ys d.slice d.difference

-- The lowest source whose inputs differ, and its mismatch.
abbrev pub FindsInput : Parts → List Parts → Option Mismatch → Type 0
FindsInput finished round None = AllOf round (HasInputs finished)
FindsInput finished round (Some m) = (file : ℕ) × IsLowest (suc (length round)) (input_check finished round).fails file × (input_check finished round).tells file m

-- A round is verified, or this is its mismatch.
abbrev pub Finds : List Spot → Parts → List Parts → Option Mismatch → Type 0
Finds spots finished round None = IsVerified spots finished round
Finds spots finished round (Some m) = IsMismatch spots finished round m
