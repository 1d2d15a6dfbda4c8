-- The units of the sets that a picture needs, set by set. Our own.
use Rattle.std.specs.Prelude.{◌≡◌, ℕ, not, false, List, ◌++◌, filter, map}
use Rattle.std.specs.List.{AllByRecursion}
use Rattle.vx_pic.specs.Written.{Set, SetUnit}
use Rattle.vx_pic.specs.Resident as resident
use Rattle.vx_pic.specs.Resident.{is_resident}
use Rattle.vx_write.specs.Units.{IsSetUnit}
use Rattle.vx_write.specs.Slots.{Sent, AreLastOf}

-- The needed sets that aren't resident after these, for a picture of this TemporalId.
abbrev pub unsent : ℕ → List SetUnit → List SetUnit → List SetUnit
unsent t before needed = filter (λ x. not (is_resident t before x)) needed

-- Of these sets, those that aren't resident after others are sent: these are their units, and these the last sets then.
pub record AreSent (t : ℕ) (before : List SetUnit) (sets : List Set) (slots : List Sent) (units : List (List ℕ)) : Type 0 where
  pub needed : List SetUnit
  pub of : map (λ x. x.set) needed ≡ sets
  pub made : units ≡ map (λ x. x.unit) (unsent t before needed)
  pub spelled : AllByRecursion (λ x. IsSetUnit t x.set x.unit) needed
  pub held : AreLastOf (before ++ unsent t before needed) slots

-- All are of other types or ids.
abbrev pub AreOthers : Set → List Set → Type 0
AreOthers s sets = AllByRecursion (λ x. resident.same_slot x s ≡ false) sets
