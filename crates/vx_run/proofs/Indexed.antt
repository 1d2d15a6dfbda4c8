-- Lists by their indices.
use Rattle.std.proofs.Common.{◌≡◌, ◌≢◌, ℕ, zero, suc, ◌<◌, ◌⊎◌, List, [], ◌∷◌, ◌++◌, ◌∙◌, Bool, Some, length, map, get_or, slice_get, slice_set, inl, inr, ap, refl, subst, arith}
use Rattle.std.specs.Prelude.{reverse}
use Rattle.std.proofs.lemmas.Bool.{cases_lt}
use Rattle.std.proofs.lemmas.List.{length-reverse, reverse-append}
use Rattle.std.proofs.lemmas.Option.{same_Some}

pub some_at : {A : Type 0} (xs : List A) (k : ℕ) → k < length xs → (x : A) × (slice_get xs k ≡ Some x)
some_at [] k within = absurd (omega arith)
some_at (x ∷ xs) zero within = (x, refl)
some_at (x ∷ xs) (suc k) within = some_at xs k (omega arith)

-- lists are the same where each two elements are
pub same_lists : {A : Type 0} (xs ys : List A) → length xs ≡ length ys → ((k : ℕ) (x y : A) → slice_get xs k ≡ Some x → slice_get ys k ≡ Some y → x ≡ y) → xs ≡ ys
same_lists [] [] same each = refl
same_lists [] (y ∷ ys) same each = absurd (omega (arith, same))
same_lists (x ∷ xs) [] same each = absurd (omega (arith, same))
same_lists {A = A} (x ∷ xs) (y ∷ ys) same each =
    ap (λ (z : A). z ∷ xs) (each zero x y refl refl) ∙ ap (λ (l : List A). y ∷ l) (same_lists xs ys (omega (arith, same)) (λ k. each (suc k)))

-- what stands in a mapped list is mapped
pub mapped_at : {A B : Type 0} (f : A → B) (xs : List A) (k : ℕ) (y : B) → slice_get (map f xs) k ≡ Some y → (x : A) × (slice_get xs k ≡ Some x) × (f x ≡ y)
mapped_at f [] k y at = absurd (cc)
mapped_at f (x ∷ xs) zero y at = (x, refl, same_Some (f x) y at)
mapped_at f (x ∷ xs) (suc k) y at = mapped_at f xs k y at

-- ---- what holds of each element

pub all_none : {A : Type 0} (P : ℕ → A → Type 0) (xs : List A) → xs ≡ [] → (k : ℕ) (x : A) → slice_get xs k ≡ Some x → P k x
all_none P [] none k x at = absurd (cc)
all_none P (y ∷ xs) none k x at = absurd (omega (arith, ap (λ l. length l) none))

push_at : {A : Type 0} (P : A → Type 0) (xs : List A) (y : A) → ((k : ℕ) (x : A) → slice_get xs k ≡ Some x → P x) → P y → (k : ℕ) (x : A) → slice_get (xs ++ y ∷ []) k ≡ Some x → P x
push_at P [] y all one zero x at = subst P (same_Some y x at) one
push_at P [] y all one (suc k) x at = absurd (cc)
push_at P (z ∷ xs) y all one zero x at = all zero x at
push_at P (z ∷ xs) y all one (suc k) x at = push_at P xs y (λ j. all (suc j)) one k x at

pub all_push : {A : Type 0} (P : A → Type 0) (xs ys : List A) (y : A) → ys ≡ xs ++ y ∷ [] → ((k : ℕ) (x : A) → slice_get xs k ≡ Some x → P x) → P y → (k : ℕ) (x : A) → slice_get ys k ≡ Some x → P x
all_push P xs ys y is all one k x at = push_at P xs y all one k x (subst (λ l. slice_get l k ≡ Some x) is at)

-- ---- an element that is set

pub set_there : {A : Type 0} (xs : List A) (k : ℕ) (x y : A) → slice_get (slice_set xs k x) k ≡ Some y → x ≡ y
set_there [] k x y at = absurd (cc)
set_there (z ∷ xs) zero x y at = same_Some x y at
set_there (z ∷ xs) (suc k) x y at = set_there xs k x y at

pub set_other : {A : Type 0} (xs : List A) (j k : ℕ) (x : A) → j ≢ k → slice_get (slice_set xs k x) j ≡ slice_get xs j
set_other [] j k x other = refl
set_other (y ∷ xs) zero zero x other = absurd (other refl)
set_other (y ∷ xs) zero (suc k) x other = refl
set_other (y ∷ xs) (suc j) zero x other = refl
set_other (y ∷ xs) (suc j) (suc k) x other = set_other xs j k x (λ same. other (ap suc same))

pub get_set_there : (xs : List Bool) (k : ℕ) (x d : Bool) → k < length xs → get_or (slice_set xs k x) k d ≡ x
get_set_there [] k x d within = absurd (omega arith)
get_set_there (y ∷ xs) zero x d within = refl
get_set_there (y ∷ xs) (suc k) x d within = get_set_there xs k x d (omega arith)

pub get_set_other : (xs : List Bool) (j k : ℕ) (x d : Bool) → j ≢ k → get_or (slice_set xs k x) j d ≡ get_or xs j d
get_set_other [] j k x d other = refl
get_set_other (y ∷ xs) zero zero x d other = absurd (other refl)
get_set_other (y ∷ xs) zero (suc k) x d other = refl
get_set_other (y ∷ xs) (suc j) zero x d other = refl
get_set_other (y ∷ xs) (suc j) (suc k) x d other = get_set_other xs j k x d (λ same. other (ap suc same))

-- whatever stands past the end
pub any_default : (xs : List Bool) (k : ℕ) (d e : Bool) → k < length xs → get_or xs k d ≡ get_or xs k e
any_default [] k d e within = absurd (omega arith)
any_default (x ∷ xs) zero d e within = refl
any_default (x ∷ xs) (suc k) d e within = any_default xs k d e (omega arith)

-- ---- elements that are chosen one by one

chosen : {Y : Type 0} (Q : ℕ → Y → Type 0) (x : Y) (ys : List Y) → Q zero x → ((j : ℕ) (y : Y) → slice_get ys j ≡ Some y → Q (suc j) y) → (j : ℕ) (y : Y) → slice_get (x ∷ ys) j ≡ Some y → Q j y
chosen Q x ys first rest zero y at = subst (λ z. Q zero z) (same_Some x y at) first
chosen Q x ys first rest (suc j) y at = rest j y at

pub choose : {Y : Type 0} (n : ℕ) (Q : ℕ → Y → Type 0) → ((j : ℕ) → j < n → (y : Y) × Q j y) → (ys : List Y) × (length ys ≡ n) × ((j : ℕ) (y : Y) → slice_get ys j ≡ Some y → Q j y)
choose zero Q each = ([], refl, λ j y at. absurd (cc))
choose {Y = Y} (suc n) Q each =
    let first = each zero (omega arith) in
    let rest = choose n (λ (j : ℕ) (y : Y). Q (suc j) y) (λ j within. each (suc j) (omega arith)) in
    (first.0 ∷ rest.0, omega (arith, rest.1), chosen Q first.0 rest.0 first.1 rest.2)

-- ---- reversed lists, whose first elements are the last ones

get_front : {A : Type 0} (xs ys : List A) (k : ℕ) → k < length xs → slice_get (xs ++ ys) k ≡ slice_get xs k
get_front [] ys k within = absurd (omega arith)
get_front (x ∷ xs) ys zero within = refl
get_front (x ∷ xs) ys (suc k) within = get_front xs ys k (omega arith)

get_last : {A : Type 0} (xs : List A) (x : A) → slice_get (xs ++ x ∷ []) (length xs) ≡ Some x
get_last [] x = refl
get_last (y ∷ xs) x = get_last xs x

pub earlier_stay : {A : Type 0} (later xs : List A) (k : ℕ) → k < length xs → slice_get (reverse (later ++ xs)) k ≡ slice_get (reverse xs) k
earlier_stay later xs k within =
    let fits : k < length (reverse xs) = omega (arith, length-reverse xs) in
    ap (λ l. slice_get l k) (reverse-append later xs) ∙ get_front (reverse xs) (reverse later) k fits

pub latest_at : {A : Type 0} (x : A) (xs : List A) (k : ℕ) → length xs ≡ k → slice_get (reverse (x ∷ xs)) k ≡ Some x
latest_at x xs k count =
    let place : k ≡ length (reverse xs) = omega (arith, length-reverse xs) in
    ap (λ l. slice_get l k) (reverse-append (x ∷ []) xs) ∙ ap (λ (i : ℕ). slice_get (reverse xs ++ x ∷ []) i) place ∙ get_last (reverse xs) x

-- ---- an index and another

pub where_is : (j k : ℕ) → (j < k) ⊎ ((j ≡ k) ⊎ (k < j))
where_is j k = elim (cases_lt j k) [
  | inl before ↦ inl before
  | inr behind ↦ elim (cases_lt k j) [ inl after ↦ inr (inr after) | inr not_ ↦ inr (inl (omega (arith, behind, not_))) ]
]
