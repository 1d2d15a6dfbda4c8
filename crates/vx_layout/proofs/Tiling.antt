-- Bounds that grow by a size at a time.
use Rattle.std.proofs.Common.{◌≡◌, ℕ, suc, ◌+◌, ◌-◌, ◌/◌, ◌%◌, ◌<◌, ◌≤◌, List, [], ◌∷◌, ◌++◌, length, get_or, sum, refl, ap, ◌∙◌, arith}
use Rattle.std.proofs.lemmas.Bool.{ne_eqb}
use Rattle.std.proofs.Math.Nat.{div-eq-sub-div, mod-eq-sub-mod, div-eq_of_lt, mod-eq_of_lt}
use Rattle.std.proofs.lemmas.List.Sums.{sum_by-cons}
use Rattle.vx_layout.specs.Bounds.{RisesAbove, Rises, last_after, last, repeated_sizes, sums_after}

pub RisesAbove-push : (a : ℕ) (bs : List ℕ) (n : ℕ) → RisesAbove a bs → last_after a bs < n → RisesAbove a (bs ++ n ∷ [])
RisesAbove-push a [] n s h = (h, tt)
RisesAbove-push a (b ∷ bs) n s h = (s.0, RisesAbove-push b bs n s.1 h)

-- a number above the last one may follow
pub Rises-push : (bs : List ℕ) (n : ℕ) → Rises bs → 0 < length bs → last bs < n → Rises (bs ++ n ∷ [])
Rises-push [] n s l h = absurd (omega arith)
Rises-push (a ∷ bs) n s l h = (s.0, RisesAbove-push a bs n s.1 h)

pub last_after-push : (a : ℕ) (bs : List ℕ) (n : ℕ) → last_after a (bs ++ n ∷ []) ≡ n
last_after-push a [] n = refl
last_after-push a (b ∷ bs) n = last_after-push b bs n

pub sums_after-append : (a : ℕ) (xs ys : List ℕ) → sums_after a (xs ++ ys) ≡ sums_after a xs ++ sums_after (a + sum xs) ys
sums_after-append a [] ys = ap (λ n. sums_after n ys) (omega arith)
sums_after-append a (x ∷ xs) ys =
    let e : (a + x) + sum xs ≡ a + sum (x ∷ xs) = omega (arith, sum_by-cons (λ x. x) x xs) in
    ap (λ t. (a + x) ∷ t) (sums_after-append (a + x) xs ys ∙ ap (λ n. sums_after (a + x) xs ++ sums_after n ys) e)

pub sums_after-append_first : (xs ys : List ℕ) → sums_after 0 (xs ++ ys) ≡ sums_after 0 xs ++ sums_after (sum xs) ys
sums_after-append_first xs ys = sums_after-append 0 xs ys ∙ ap (λ n. sums_after 0 xs ++ sums_after n ys) (omega arith)

pub sums_after-push : (a : ℕ) (xs : List ℕ) (x : ℕ) → sums_after a (xs ++ x ∷ []) ≡ sums_after a xs ++ (a + sum xs + x) ∷ []
sums_after-push a xs x = sums_after-append a xs (x ∷ [])

-- the sizes behind the explicit ones, where one more fits
pub repeated_sizes-more : (size left : ℕ) → 1 ≤ size → size ≤ left → repeated_sizes size left ≡ size ∷ repeated_sizes size (left - size)
repeated_sizes-more size left p q =
    let d : left / size ≡ suc ((left - size) / size) = omega (arith, div-eq-sub-div {m = size} {n = left} (omega arith) q) in
    rw (d, mod-eq-sub-mod {n = left} {m = size} q) refl

pub repeated_sizes-none : (size : ℕ) → 1 ≤ size → repeated_sizes size 0 ≡ []
repeated_sizes-none size p =
    let d : 0 / size ≡ 0 = div-eq_of_lt (omega arith) in
    let m : 0 % size ≡ 0 = mod-eq_of_lt (omega arith) in
    rw (d, m) refl

pub repeated_sizes-rest : (size left : ℕ) → 0 < left → left < size → repeated_sizes size left ≡ left ∷ []
repeated_sizes-rest size left p q =
    let d : left / size ≡ 0 = div-eq_of_lt q in
    let m : left % size ≡ left = mod-eq_of_lt q in
    rw (d, m, ne_eqb left 0 (omega arith)) refl

-- the last number, by its index
pub last_after-get_or : (a b : ℕ) (bs : List ℕ) → get_or (b ∷ bs) (length bs) 0 ≡ last_after a (b ∷ bs)
last_after-get_or a b [] = refl
last_after-get_or a b (c ∷ cs) = last_after-get_or b c cs

pub last-get_or : (bs : List ℕ) → 0 < length bs → get_or bs (length bs - 1) 0 ≡ last bs
last-get_or [] h = absurd (omega arith)
last-get_or (b ∷ bs) h =
    let e : length (b ∷ bs) - 1 ≡ length bs = omega arith in
    ap (λ i. get_or (b ∷ bs) i 0) e ∙ last_after-get_or 0 b bs
