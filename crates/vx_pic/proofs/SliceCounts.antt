-- The slices of a layout: each subpicture has one at least, and all of them together are as many as the layout's.
use Rattle.std.proofs.Common.{◌≡◌, ℕ, zero, suc, ◌+◌, ◌<◌, ◌≤◌, Bool, true, cond, List, [], ◌∷◌, length, get_or, take, count_by, refl, ap, inl, inr, arith, length-append}
use Rattle.std.proofs.lemmas.Bool.{cases_Bool}
use Rattle.std.proofs.lemmas.List.Elements.{All-head, All-tail}
use Rattle.std.proofs.lemmas.List.Sums.{count_by-le-length, length-filter}
use Rattle.std.specs.List.{All, Any}
use Rattle.vx_layout.specs.declared.numbers.Numbers.{Numbers}
use Rattle.vx_layout.specs.declared.rect.Rect.{Rect}
use Rattle.vx_layout.specs.Faults.{IsLayout, height, width}
use Rattle.vx_layout.specs.Layouts.{no_rect, slices_in, subpic_at}
use Rattle.vx_layout.specs.Rects.{CoversOnce, IsPart, fits, holds, in_order, slices_of_subpicture}
use Rattle.vx_layout.specs.Shapes.{HasCtu}
use Rattle.vx_layout.proofs.Counting.{count_by-cons, count_by-some, holds-fits, slices_of-once}
use Rattle.vx_layout.proofs.Holding.{holds_tells}
use Rattle.vx_layout.proofs.Owners.{corner_held}

-- ---- of each subpicture one at least

pub some_slice : (n : Numbers) (k : ℕ) → IsLayout n → k < length n.subpics → 0 < length (slices_in n k)
some_slice n k layout low =
    let s : Rect = subpic_at n k in
    let part : IsPart (width n) (height n) s = layout.subpics.parts k no_rect low in
    let once : count_by (λ r. holds r s.x s.y) (slices_in n k) ≡ cond (holds s s.x s.y) 1 0
    = slices_of-once n.slices n.subpics (width n) (height n) k no_rect s.x s.y layout.split layout.subpics.once layout.slices low (omega (arith, part.wide, part.across)) (omega (arith, part.high, part.down)) in
    let corner : cond {A = ℕ} (holds s s.x s.y) 1 0 ≡ 1 = ap (λ b. cond b 1 0) (corner_held s part.wide part.high) in
    omega (arith, once, corner, count_by-le-length (λ r. holds r s.x s.y) (slices_in n k))

-- ---- all together as many as the layout's

-- where what passes p passes q
count_le : {X : Type 0} (p q : X → Bool) (xs : List X) → ((x : X) → p x ≡ true → q x ≡ true) → count_by p xs ≤ count_by q xs
count_le p q [] too = omega arith
count_le p q (x ∷ xs) too =
    let rest = count_le p q xs too in
    elim (cases_Bool (p x)) [
      | inl on ↦
          let here : cond {A = ℕ} (p x) 1 0 ≡ 1 = ap (λ b. cond b 1 0) on in
          let there : cond {A = ℕ} (q x) 1 0 ≡ 1 = ap (λ b. cond b 1 0) (too x on) in
          omega (arith, count_by-cons p x xs, count_by-cons q x xs, here, there, rest)
      | inr off ↦
          let here : cond {A = ℕ} (p x) 1 0 ≡ 0 = ap (λ b. cond b 1 0) off in
          omega (arith, count_by-cons p x xs, count_by-cons q x xs, here, rest)
    ]

-- a slice that holds a CTU lies in one subpicture
in_one : (r : Rect) (subpics : List Rect) (w h : ℕ) → HasCtu r → Any (λ s. fits r s ≡ true) subpics → All (IsPart w h) subpics → CoversOnce subpics w h
    → count_by (λ s. fits r s) subpics ≡ 1
in_one r subpics w h some inside parts once =
    let s : Rect = inside.1 in
    let there : get_or subpics inside.0 s ≡ s = inside.3 in
    let P : Rect → Type 0 = λ t. fits r t ≡ true in
    let here : fits r (get_or subpics inside.0 s) ≡ true = rw there inside.4 in
    let part : IsPart w h s = rw there at (parts inside.0 s inside.2) in
    let corner = corner_held r some.0 some.1 in
    let held = holds_tells s r.x r.y (holds-fits r s r.x r.y inside.4 corner) in
    let most : count_by (λ t. holds t r.x r.y) subpics ≡ 1 = once r.x r.y (omega (arith, held, part.across)) (omega (arith, held, part.down)) in
    omega (arith, most, count_by-some (λ t. fits r t) subpics inside.0 s inside.2 here, count_le (λ t. fits r t) (λ t. holds t r.x r.y) subpics (λ t f. holds-fits r t r.x r.y f corner))

one_slice_more : (r : Rect) (rs subpics : List Rect) → length (in_order (r ∷ rs) subpics) ≡ count_by (λ s. fits r s) subpics + length (in_order rs subpics)
one_slice_more r rs [] = refl
one_slice_more r rs (s ∷ ss) =
    omega (
      arith,
      one_slice_more r rs ss,
      length-filter (λ t. fits t s) (r ∷ rs),
      length-filter (λ t. fits t s) rs,
      count_by-cons (λ t. fits t s) r rs,
      count_by-cons (λ t. fits r t) s ss,
      length-append (slices_of_subpicture (r ∷ rs) s) (in_order (r ∷ rs) ss),
      length-append (slices_of_subpicture rs s) (in_order rs ss),
    )

no_slice : (subpics : List Rect) → length (in_order [] subpics) ≡ 0
no_slice [] = refl
no_slice (s ∷ ss) = no_slice ss

as_many : (slices subpics : List Rect) (w h : ℕ) → All HasCtu slices → All (λ r. Any (λ s. fits r s ≡ true) subpics) slices → All (IsPart w h) subpics → CoversOnce subpics w h
    → length (in_order slices subpics) ≡ length slices
as_many [] subpics w h some inside parts once = no_slice subpics
as_many (r ∷ rs) subpics w h some inside parts once =
    let In : Rect → Type 0 = λ t. Any (λ s. fits t s ≡ true) subpics in
    let one = in_one r subpics w h (All-head HasCtu r rs some) (All-head In r rs inside) parts once in
    let rest = as_many rs subpics w h (All-tail HasCtu r rs some) (All-tail In r rs inside) parts once in
    omega (arith, one, rest, one_slice_more r rs subpics)

pub all_slices : (n : Numbers) → IsLayout n → All HasCtu n.slices → length (in_order n.slices n.subpics) ≡ length n.slices
all_slices n layout some = as_many n.slices n.subpics (width n) (height n) some layout.split layout.subpics.parts layout.subpics.once

-- ---- how many come before a subpicture

abbrev pub before : Numbers → ℕ → ℕ
before n k = length (in_order n.slices (take k n.subpics))

next_in : (slices subpics : List Rect) (k : ℕ) (d : Rect) → k < length subpics
    → length (in_order slices (take (suc k) subpics)) ≡ length (in_order slices (take k subpics)) + length (slices_of_subpicture slices (get_or subpics k d))
next_in slices [] k d low = absurd (omega arith)
next_in slices (s ∷ ss) zero d low = omega (arith, length-append (slices_of_subpicture slices s) [])
next_in slices (s ∷ ss) (suc k) d low =
    omega (arith, next_in slices ss k d (omega arith), length-append (slices_of_subpicture slices s) (in_order slices (take (suc k) ss)), length-append (slices_of_subpicture slices s) (in_order slices (take k ss)))

pub before_next : (n : Numbers) (k : ℕ) → k < length n.subpics → before n (suc k) ≡ before n k + length (slices_in n k)
before_next n k low = next_in n.slices n.subpics k no_rect low

grows_in : (slices subpics : List Rect) (i j : ℕ) → i ≤ j → length (in_order slices (take i subpics)) ≤ length (in_order slices (take j subpics))
grows_in slices [] zero j up = omega arith
grows_in slices [] (suc i) j up = omega arith
grows_in slices (s ∷ ss) zero j up = omega arith
grows_in slices (s ∷ ss) (suc i) zero up = absurd (omega arith)
grows_in slices (s ∷ ss) (suc i) (suc j) up =
    omega (arith, grows_in slices ss i j (omega arith), length-append (slices_of_subpicture slices s) (in_order slices (take i ss)), length-append (slices_of_subpicture slices s) (in_order slices (take j ss)))

pub before_grows : (n : Numbers) (i j : ℕ) → i ≤ j → before n i ≤ before n j
before_grows n i j up = grows_in n.slices n.subpics i j up
