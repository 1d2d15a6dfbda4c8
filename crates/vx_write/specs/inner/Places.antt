-- The place of the set of a type and id among those that were sent. Our own.
use Rattle.std.specs.Prelude.{◌≡◌, ℕ, true, false, All, List, take, slice_get, Option, Some, None}
use Rattle.vx_pic.specs.Written.{Set}
use Rattle.vx_pic.specs.Resident.{same_slot}
use Rattle.vx_write.specs.Slots.{Sent}

-- None is of a set's type and id.
abbrev pub NoneIsOf : Set → List Sent → Type 0
NoneIsOf s slots = All (λ x. same_slot x.set s ≡ false) slots

-- The place of the one of a set's type and id.
abbrev pub IsPlace : Set → List Sent → Option ℕ → Type 0
IsPlace s slots None = NoneIsOf s slots
IsPlace s slots (Some i) = (x : Sent) × (slice_get slots i ≡ Some x) × (same_slot x.set s ≡ true) × NoneIsOf s (take i slots)
