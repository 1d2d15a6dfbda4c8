-- Pairs of two lists, place by place.
use Rattle.std.proofs.Common.{◌≡◌, ◌≢◌, ℕ, zero, suc, ◌+◌, ◌<◌, ◌≤◌, List, [], ◌∷◌, ◌++◌, ◌∙◌, Some, length, get_or, slice_get, slice_set, refl, ap, sym, subst, arith, inl, inr}
use Rattle.std.specs.Prelude.{drop}
use Rattle.std.specs.List.{AllZip}
use Rattle.std.proofs.lemmas.Bool.{cases_lt}
use Rattle.std.proofs.lemmas.List.{drop_at, get_or-set_other, get_or-set_same, length-append, length-drop, length-set}
use Rattle.std.proofs.lemmas.Option.{get_or_from_slice_get, same_Some, slice_get-get_or, slice_get_within}
use Rattle.vx_trial.specs.inner.Feeds.{Turned}

-- what holds of all pairs holds of each
pub zip_get : {A B : Type 0} (P : A → B → Type 0) (xs : List A) (ys : List B) → AllZip P xs ys
    → (j : ℕ) (x : A) (y : B) → slice_get xs j ≡ Some x → slice_get ys j ≡ Some y → P x y
zip_get P [] [] all j x y here there = absurd (cc)
zip_get P [] (b ∷ ys) all j x y here there = absurd all
zip_get P (a ∷ xs) [] all j x y here there = absurd all
zip_get P (a ∷ xs) (b ∷ ys) all zero x y here there = subst (λ z. P z y) (same_Some a x here) (subst (P a) (same_Some b y there) all.0)
zip_get P (a ∷ xs) (b ∷ ys) all (suc j) x y here there = zip_get P xs ys all.1 j x y here there

pub get_zip : {A B : Type 0} (P : A → B → Type 0) (xs : List A) (ys : List B) → length xs ≡ length ys
    → ((j : ℕ) (x : A) (y : B) → slice_get xs j ≡ Some x → slice_get ys j ≡ Some y → P x y) → AllZip P xs ys
get_zip P [] [] same each = tt
get_zip P [] (b ∷ ys) same each = absurd (omega (arith, same))
get_zip P (a ∷ xs) [] same each = absurd (omega (arith, same))
get_zip P (a ∷ xs) (b ∷ ys) same each = (each zero a b refl refl, get_zip P xs ys (omega (arith, same)) (λ j. each (suc j)))

-- ---- pairs that are turned one by one

pub none_turned : {A B : Type 0} (P Q : A → B → Type 0) (xs : List A) (ys : List B) → AllZip P xs ys → Turned P Q 0 xs ys
none_turned P Q xs ys all j x y here there = (λ low. absurd (omega (arith, low)), λ _. zip_get P xs ys all j x y here there)

pub one_turned : {A B : Type 0} (P Q : A → B → Type 0) (k : ℕ) (xs : List A) (ys : List B) (x : A) → Turned P Q k xs ys
    → ((y : B) → slice_get ys k ≡ Some y → Q x y) → Turned P Q (k + 1) (slice_set xs k x) ys
one_turned {A} P Q k xs ys x so_far here j z y at there =
    let set : List A = slice_set xs k x in
    let within : j < length xs = omega (arith, slice_get_within set j z at, length-set xs k x) in
    let is : get_or set j z ≡ z = get_or_from_slice_get set j z z at in
    let before : j ≢ k → (j < k → Q z y) × (k ≤ j → P z y) =
    λ other. so_far j z y (slice_get-get_or xs j z within ∙ ap (λ (w : A). Some w) (sym (get_or-set_other xs k j x z other) ∙ is)) there in
    elim (cases_lt j k) [
      | inl low ↦ (λ _. (before (λ same. absurd (omega (arith, low, same)))).0 low, λ high. absurd (omega (arith, low, high)))
      | inr high ↦ elim (cases_lt k j) [
        | inl past ↦ (λ low. absurd (omega (arith, past, low)), λ _. (before (λ same. absurd (omega (arith, past, same)))).1 high)
        | inr low ↦
            let same : j ≡ k = omega (arith, low, high) in
            let new : x ≡ z = sym (get_or-set_same xs k x z (omega (arith, within, same))) ∙ subst (λ (i : ℕ). get_or set i z ≡ z) same is in
            (λ _. subst (λ w. Q w y) new (here y (subst (λ i. slice_get ys i ≡ Some y) same there)), λ past. absurd (omega (arith, low, past)))
      ]
    ]

pub all_turned : {A B : Type 0} (P Q : A → B → Type 0) (k : ℕ) (xs : List A) (ys : List B) → Turned P Q k xs ys → length xs ≤ k → length xs ≡ length ys
    → AllZip Q xs ys
all_turned P Q k xs ys turned far same =
    get_zip Q xs ys same (λ j x y here there. (turned j x y here there).0 (omega (arith, slice_get_within xs j x here, far)))

-- ---- what stands before the last m

pub next_of : {A : Type 0} (m : ℕ) (ps later : List A) (p : A) → suc m ≤ length ps → ps ≡ later ++ p ∷ drop (suc m) ps → drop m ps ≡ p ∷ drop (suc m) ps
next_of {A} m ps later p within is =
    let many : length ps ≡ length later + suc (length (drop (suc m) ps)) = ap (λ (l : List A). length l) is ∙ length-append later (p ∷ drop (suc m) ps) in
    let size : length later ≡ m = omega (arith, many, within, length-drop (suc m) ps) in
    ap (λ (l : List A). drop m l) is ∙ drop_at later (p ∷ drop (suc m) ps) m size

-- ---- one pair behind others

pub zip_push : {A B : Type 0} (P : A → B → Type 0) (xs : List A) (ys : List B) (x : A) (y : B) → AllZip P xs ys → P x y
    → AllZip P (xs ++ x ∷ []) (ys ++ y ∷ [])
zip_push P [] [] x y all one = (one, tt)
zip_push P [] (b ∷ ys) x y all one = absurd all
zip_push P (a ∷ xs) [] x y all one = absurd all
zip_push P (a ∷ xs) (b ∷ ys) x y all one = (all.0, zip_push P xs ys x y all.1 one)

pub as_many : {A B : Type 0} (P : A → B → Type 0) (xs : List A) (ys : List B) → AllZip P xs ys → length xs ≡ length ys
as_many P [] [] all = refl
as_many P [] (y ∷ ys) all = absurd all
as_many P (x ∷ xs) [] all = absurd all
as_many P (x ∷ xs) (y ∷ ys) all = ap suc (as_many P xs ys all.1)
