-- How often a CTU lies in the slices of a subpicture.
use Rattle.std.proofs.Common.{◌≡◌, ℕ, suc, zero, ◌+◌, ◌<◌, ◌≤◌, Bool, true, false, cond, List, [], ◌∷◌, ◌++◌, length, get_or, count_by, filter, refl, ap, sym, ◌∙◌, subst, inl, inr, arith}
use Rattle.std.proofs.lemmas.Bool.{cases_Bool, both_ways, cond-true}
use Rattle.std.proofs.lemmas.List.{get_or_default}
use Rattle.std.proofs.lemmas.List.Elements.{All-cons, All-head, All-tail}
use Rattle.std.proofs.lemmas.List.Sums.{sum_by-cons, sum_by-append, length-filter, count_by-le-length}
use Rattle.std.specs.List.{All, Any, flat_map}
use Rattle.vx_layout.specs.declared.rect.Rect.{Rect}
use Rattle.vx_layout.specs.Rects.{holds, fits, CoversOnce, slices_of_subpicture, in_order}
use Rattle.vx_layout.proofs.Holding.{holds_tells, holds_from, fits_tells}

pub count_by-cons : {X : Type 0} (p : X → Bool) (x : X) (xs : List X) → count_by p (x ∷ xs) ≡ cond (p x) 1 0 + count_by p xs
count_by-cons p x xs = sum_by-cons (λ y. cond (p y) 1 0) x xs

pub count_by-append : {X : Type 0} (p : X → Bool) (xs ys : List X) → count_by p (xs ++ ys) ≡ count_by p xs + count_by p ys
count_by-append p xs ys = sum_by-append (λ y. cond (p y) 1 0) xs ys

-- where what passes q fails p, no p is left
pub count_by-filter_none : {X : Type 0} (p q : X → Bool) (xs : List X) → ((x : X) → q x ≡ true → p x ≡ false) → count_by p (filter q xs) ≡ 0
count_by-filter_none p q [] none = refl
count_by-filter_none p q (x ∷ xs) none =
    elim (cases_Bool (q x)) [
      | inl on ↦ rw on (rw (count_by-cons p x (filter q xs), none x on) (omega (arith, count_by-filter_none p q xs none)))
      | inr off ↦ rw off (count_by-filter_none p q xs none)
    ]

-- where what passes p passes q, each p is left
pub count_by-filter_all : {X : Type 0} (p q : X → Bool) (xs : List X) → All (λ x. p x ≡ true → q x ≡ true) xs → count_by p (filter q xs) ≡ count_by p xs
count_by-filter_all p q [] all = refl
count_by-filter_all {X} p q (x ∷ xs) all =
    let P : X → Type 0 = λ x. p x ≡ true → q x ≡ true in
    let rest : count_by p (filter q xs) ≡ count_by p xs = count_by-filter_all p q xs (All-tail P x xs all) in
    elim (cases_Bool (q x)) [
      | inl on ↦ rw on (rw (count_by-cons p x (filter q xs), count_by-cons p x xs, rest) refl)
      | inr off ↦
          let fails : p x ≡ false = elim (cases_Bool (p x)) [ inl on ↦ absurd (both_ways _ off (All-head P x xs all on)) | inr none ↦ none ] in
          rw off (rw (count_by-cons p x xs, fails) (omega (arith, rest)))
    ]

-- an element that passes counts
pub count_by-some : {X : Type 0} (p : X → Bool) (xs : List X) (i : ℕ) (d : X) → i < length xs → p (get_or xs i d) ≡ true → 1 ≤ count_by p xs
count_by-some p [] i d short on_it = absurd (omega arith)
count_by-some p (x ∷ xs) zero d short on_it = rw (count_by-cons p x xs, on_it) (omega arith)
count_by-some p (x ∷ xs) (suc i) d short on_it = omega (arith, count_by-cons p x xs, count_by-some p xs i d (omega arith) on_it)

-- where one passes, two that pass are one
pub same_place : {X : Type 0} (p : X → Bool) (xs : List X) (i j : ℕ) (d : X) → count_by p xs ≤ 1 → i < length xs → j < length xs → p (get_or xs i d) ≡ true → p (get_or xs j d) ≡ true → i ≡ j
same_place p [] i j d one k l a b = absurd (omega arith)
same_place p (x ∷ xs) zero zero d one k l a b = refl
same_place p (x ∷ xs) zero (suc j) d one k l a b =
    let first : cond {A = ℕ} (p x) 1 0 ≡ 1 = cond-true (p x) 1 0 a in
    absurd (omega (arith, count_by-cons p x xs, count_by-some p xs j d (omega arith) b))
same_place p (x ∷ xs) (suc i) zero d one k l a b =
    let first : cond {A = ℕ} (p x) 1 0 ≡ 1 = cond-true (p x) 1 0 b in
    absurd (omega (arith, count_by-cons p x xs, count_by-some p xs i d (omega arith) a))
same_place p (x ∷ xs) (suc i) (suc j) d one k l a b =
    let rest : i ≡ j = same_place p xs i j d (omega (arith, count_by-cons p x xs)) (omega arith) (omega arith) a b in
    omega arith

-- a slice that lies in the subpicture has no CTU outside it
pub holds-fits : (r s : Rect) (x y : ℕ) → fits r s ≡ true → holds r x y ≡ true → holds s x y ≡ true
holds-fits r s x y f h =
    let p = holds_tells r x y h in
    elim (fits_tells r s f) [
      | inl (inl e) ↦ absurd (omega (arith, p))
      | inl (inr e) ↦ absurd (omega (arith, p))
      | inr q ↦ holds_from s x y (omega (arith, p, q)) (omega (arith, p, q)) (omega (arith, p, q)) (omega (arith, p, q))
    ]

-- the slices of a subpicture hold none of the CTUs outside it
pub slices_of-outside : (slices : List Rect) (s : Rect) (x y : ℕ) → holds s x y ≡ false → count_by (λ r. holds r x y) (slices_of_subpicture slices s) ≡ 0
slices_of-outside slices s x y off =
    count_by-filter_none (λ r. holds r x y) (λ r. fits r s) slices
    (λ r f. elim (cases_Bool (holds r x y)) [ inl on ↦ absurd (both_ways _ off (holds-fits r s x y f on)) | inr none ↦ none ])

-- and all of those in it
pub slices_of-inside : (slices subpics : List Rect) (i : ℕ) (d : Rect) (x y : ℕ) → All (λ r. Any (λ s. fits r s ≡ true) subpics) slices → count_by (λ s. holds s x y) subpics ≡ 1 → i < length subpics → holds (get_or subpics i d) x y ≡ true →
    count_by (λ r. holds r x y) (slices_of_subpicture slices (get_or subpics i d)) ≡ count_by (λ r. holds r x y) slices
slices_of-inside slices subpics i d x y fit once short here =
    count_by-filter_all (λ r. holds r x y) (λ r. fits r (get_or subpics i d)) slices
    (λ k e low on.
    let other = fit k e low in
    let j : ℕ = other.0 in
    let t : Rect = other.1 in
    let at : get_or subpics j d ≡ t = get_or_default subpics j d t other.2 ∙ other.3 in
    let on_t : holds t x y ≡ true = holds-fits _ t x y other.4 on in
    let same : j ≡ i = same_place (λ s. holds s x y) subpics j i d (omega arith) other.2 short (subst (λ s. holds s x y ≡ true) (sym at) on_t) here in
    let is : t ≡ get_or subpics i d = sym at ∙ ap (λ n. get_or subpics n d) same in
    subst (λ s. fits (get_or slices k e) s ≡ true) is other.4)

-- each CTU of a picture lies in its subpicture's slices once, and in no other subpicture's
pub slices_of-once : (slices subpics : List Rect) (w h i : ℕ) (d : Rect) (x y : ℕ) → All (λ r. Any (λ s. fits r s ≡ true) subpics) slices → CoversOnce subpics w h → CoversOnce slices w h → i < length subpics → x < w → y < h →
    count_by (λ r. holds r x y) (slices_of_subpicture slices (get_or subpics i d)) ≡ cond (holds (get_or subpics i d) x y) 1 0
slices_of-once slices subpics w h i d x y fit cover_subpics cover_slices short v u =
    elim (cases_Bool (holds (get_or subpics i d) x y)) [
      | inl on ↦ rw on (slices_of-inside slices subpics i d x y fit (cover_subpics x y v u) short on ∙ cover_slices x y v u)
      | inr off ↦ rw off (slices_of-outside slices (get_or subpics i d) x y off)
    ]

-- a count over joined lists, where each list counts as one element does
pub count_by-flat_map : {X Y : Type 0} (p : Y → Bool) (q : X → Bool) (f : X → List Y) (xs : List X) → All (λ x. count_by p (f x) ≡ cond (q x) 1 0) xs → count_by p (flat_map f xs) ≡ count_by q xs
count_by-flat_map p q f [] each = refl
count_by-flat_map {X} p q f (x ∷ xs) each =
    let P : X → Type 0 = λ x. count_by p (f x) ≡ cond (q x) 1 0 in
    let first : count_by p (f x) ≡ cond {A = ℕ} (q x) 1 0 = All-head P x xs each in
    let rest : count_by p (flat_map f xs) ≡ count_by q xs = count_by-flat_map p q f xs (All-tail P x xs each) in
    count_by-append p (f x) (flat_map f xs) ∙ (omega (arith, first, rest, count_by-cons q x xs))

pub in_order-once : (slices subpics : List Rect) (w h : ℕ) → All (λ r. Any (λ s. fits r s ≡ true) subpics) slices → CoversOnce subpics w h → CoversOnce slices w h → CoversOnce (in_order slices subpics) w h
in_order-once slices subpics w h fit cover_subpics cover_slices = λ x y v u.
    count_by-flat_map (λ r. holds r x y) (λ s. holds s x y) (slices_of_subpicture slices) subpics
    (λ i d short. slices_of-once slices subpics w h i d x y fit cover_subpics cover_slices short v u)
    ∙ cover_subpics x y v u

-- where all slices lie in s, they are its slices
pub slices_all : (slices : List Rect) (s : Rect) → All (λ r. fits r s ≡ true) slices → slices_of_subpicture slices s ≡ slices
slices_all [] s fit = refl
slices_all (r ∷ rs) s fit =
    let P : Rect → Type 0 = λ r. fits r s ≡ true in
    rw (All-head P r rs fit) (ap (λ t. r ∷ t) (slices_all rs s (All-tail P r rs fit)))

-- what holds of each slice that lies in the subpicture holds of each of its slices
pub All-slices_of : (slices : List Rect) (s : Rect) (P : Rect → Type 0) → ((r : Rect) → fits r s ≡ true → P r) → All P (slices_of_subpicture slices s)
All-slices_of [] s P each = λ k d short. absurd (omega arith)
All-slices_of (r ∷ rs) s P each =
    elim (cases_Bool (fits r s)) [
      | inl on ↦ rw on (All-cons P r (slices_of_subpicture rs s) (each r on) (All-slices_of rs s P each))
      | inr off ↦ rw off (All-slices_of rs s P each)
    ]

pub length-slices_of-le : (slices : List Rect) (s : Rect) → length (slices_of_subpicture slices s) ≤ length slices
length-slices_of-le slices s = omega (arith, length-filter (λ r. fits r s) slices, count_by-le-length (λ r. fits r s) slices)
