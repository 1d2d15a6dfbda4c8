-- Lists of sets, and of their units: no two sets have one type and id, and what is among them.
use Rattle.std.proofs.Common.{◌≡◌, ◌⊎◌, Bool, false, List, [], ◌∷◌, ◌++◌, map, inl, inr}
use Rattle.std.specs.Prelude.{filter}
use Rattle.std.specs.List.{AllByRecursion}
use Rattle.std.proofs.lemmas.Bool.{cases_Bool}
use Rattle.vx_pic.specs.Written.{Set, SetUnit}
use Rattle.vx_pic.specs.Resident.{HasSet, HaveOwnSlots, same_slot}

-- ---- types and ids

abbrev pub Others : Set → List Set → Type 0
Others x sets = AllByRecursion (λ y. same_slot x y ≡ false) sets

abbrev pub HaveOwn : List Set → Type 0
HaveOwn [] = Unit {0}
HaveOwn (x ∷ sets) = Others x sets × HaveOwn sets

pub others_joined : (x : Set) (sets more : List Set) → Others x sets → Others x more → Others x (sets ++ more)
others_joined x [] more first second = second
others_joined x (y ∷ sets) more first second = (first.0, others_joined x sets more first.1 second)

-- ---- units of sets

others_of : (x : Set) (units : List SetUnit) → Others x (map (λ u. u.set) units) → AllByRecursion (λ (y : SetUnit). same_slot x y.set ≡ false) units
others_of x [] all = tt
others_of x (u ∷ units) all = (all.0, others_of x units all.1)

pub own_units : (units : List SetUnit) → HaveOwn (map (λ u. u.set) units) → HaveOwnSlots units
own_units [] own = tt
own_units (u ∷ units) own = (others_of u.set units own.0, own_units units own.1)

abbrev pub IsAmong : List Set → Set → Type 0
IsAmong [] s = ⊥
IsAmong (x ∷ sets) s = (x ≡ s) ⊎ IsAmong sets s

pub has_set : (units : List SetUnit) (s : Set) → IsAmong (map (λ u. u.set) units) s → HasSet units s
has_set [] s is = is
has_set (u ∷ units) s (inl is) = inl is
has_set (u ∷ units) s (inr more) = inr (has_set units s more)

-- ---- what is among them

pub among_first : (xs ys : List Set) (s : Set) → IsAmong xs s → IsAmong (xs ++ ys) s
among_first [] ys s is = absurd is
among_first (x ∷ xs) ys s (inl same) = inl same
among_first (x ∷ xs) ys s (inr more) = inr (among_first xs ys s more)

pub among_second : (xs ys : List Set) (s : Set) → IsAmong ys s → IsAmong (xs ++ ys) s
among_second [] ys s is = is
among_second (x ∷ xs) ys s is = inr (among_second xs ys s is)

-- what holds of the sets holds of their units
pub units_hold : (Q : Set → Type 0) (units : List SetUnit) → AllByRecursion Q (map (λ u. u.set) units) → AllByRecursion (λ (u : SetUnit). Q u.set) units
units_hold Q [] all = tt
units_hold Q (u ∷ units) all = (all.0, units_hold Q units all.1)

-- what holds of each holds of those that pass a test
pub each_passing : {A : Type 0} (P : A → Type 0) (test : A → Bool) (xs : List A) → AllByRecursion P xs → AllByRecursion P (filter test xs)
each_passing P test [] all = tt
each_passing P test (x ∷ xs) all = elim (cases_Bool (test x)) [
  | inl on ↦ rw on (all.0, each_passing P test xs all.1)
  | inr off ↦ rw off (each_passing P test xs all.1)
]
