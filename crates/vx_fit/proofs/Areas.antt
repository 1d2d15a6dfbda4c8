-- Regions that don't overlap fill a frame exactly where their areas add up to its own.
use Rattle.std.proofs.Common.{◌≡◌, ℕ, zero, suc, ◌+◌, ◌-◌, ◌*◌, ◌<◌, ◌≤◌, min, Bool, true, false, cond, ◌&&◌, nat_le, nat_lt, List, [], ◌∷◌, count_by, ap, refl, sym, ◌∙◌, subst, inl, inr, arith}
use Rattle.std.proofs.Math.Nat.{mul_comm}
use Rattle.std.proofs.lemmas.Bool.{cases_Bool, cases_eq, cases_lt, and_parts, cond-true, cond-false, and_cases, leb-false, leb-true, ltb-false, ltb-true}
use Rattle.std.proofs.lemmas.List.Elements.{All-head, All-tail}
use Rattle.std.proofs.lemmas.List.Sums.{sum_by-cons}
use Rattle.std.specs.List.{All, AllPairs, Any}
use Rattle.vx_fit.specs.declared.placed.Placed.{Placed}
use Rattle.vx_fit.specs.FitFaults.{HasGap}
use Rattle.vx_fit.specs.Placing.{IsFilled, Overlap, covers, frame_height, frame_width}
use Rattle.vx_fit.specs.inner.Searches.{areas}
use Rattle.vx_fit.proofs.Sizes.{greatest_bounds}
use Rattle.vx_layout.proofs.Counting.{count_by-cons, count_by-some}

-- the sum of what f gives below n
abbrev pub total : ℕ → (ℕ → ℕ) → ℕ
total zero f = 0
total (suc n) f = total n f + f n

total-same : (n : ℕ) (f g : ℕ → ℕ) → ((i : ℕ) → i < n → f i ≡ g i) → total n f ≡ total n g
total-same zero f g same = refl
total-same (suc n) f g same =
    let before : total n f ≡ total n g = total-same n f g (λ i h. same i (omega arith)) in
    let here : f n ≡ g n = same n (omega arith) in
    omega arith

total-add : (n : ℕ) (f g : ℕ → ℕ) → total n (λ i. f i + g i) ≡ total n f + total n g
total-add zero f g = refl
total-add (suc n) f g = let before = total-add n f g in omega (arith, before)

total-none : (n : ℕ) → total n (λ i. 0) ≡ 0
total-none zero = refl
total-none (suc n) = omega (arith, total-none n)

total-upto : (n c : ℕ) (f : ℕ → ℕ) → ((i : ℕ) → i < n → f i ≤ c) → total n f ≤ n * c
total-upto zero c f most = omega arith
total-upto (suc n) c f most =
    let before : total n f ≤ n * c = total-upto n c f (λ i h. most i (omega arith)) in
    let here : f n ≤ c = most n (omega arith) in
    omega arith

-- where each gives c at most, they give n * c in all only by giving c each
full_at : (n c : ℕ) (f : ℕ → ℕ) → ((i : ℕ) → i < n → f i ≤ c) → total n f ≡ n * c → (i : ℕ) → i < n → f i ≡ c
full_at zero c f most full i below = absurd (omega arith)
full_at (suc n) c f most full i below =
    let before : total n f ≤ n * c = total-upto n c f (λ k h. most k (omega arith)) in
    let here : f n ≤ c = most n (omega arith) in
    elim (cases_lt i n) [
      | inl less ↦ full_at n c f (λ k h. most k (omega arith)) (omega arith) i less
      | inr last ↦ let is : n ≡ i = omega arith in subst (λ k. f k ≡ c) is (omega arith)
    ]

-- and where they don't, one gives another number
short_at : (n c : ℕ) (f : ℕ → ℕ) → (total n f ≡ n * c → ⊥) → (i : ℕ) × (i < n) × (f i ≡ c → ⊥)
short_at zero c f short = absurd (short (omega arith))
short_at (suc n) c f short =
    elim (cases_eq (f n) c) [
      | inr other ↦ (n, omega arith, other)
      | inl is ↦
          let rest = short_at n c f (λ full. short (omega (arith, full, is))) in
          (rest.0, omega (arith, rest.1), rest.2)
    ]

-- c for each number of a span
total-among : (n from size c : ℕ) → total n (λ i. cond (nat_le from i && nat_lt i (from + size)) c 0) ≡ (min n (from + size) - from) * c
total-among zero from size c = let none : min 0 (from + size) - from ≡ 0 = omega arith in rw none (omega arith)
total-among (suc n) from size c =
    let before = total-among n from size c in
    let test : Bool = nat_le from n && nat_lt n (from + size) in
    elim (cases_Bool test) [
      | inl on ↦
          let both = and_parts _ _ on in
          let low : from ≤ n = leb-true _ _ both.0 in
          let high : n < from + size = ltb-true _ _ both.1 in
          let more : min (suc n) (from + size) - from ≡ (min n (from + size) - from) + 1 = omega arith in
          let here : cond test c 0 ≡ c = cond-true test c 0 on in
          rw (more, here) (omega (arith, before))
      | inr off ↦
          let same : min (suc n) (from + size) - from ≡ min n (from + size) - from =
          elim (and_cases (nat_le from n) (nat_lt n (from + size)) off) [
            | inl early ↦ let low : n < from = leb-false _ _ early in omega arith
            | inr late ↦ let high : from + size ≤ n = ltb-false _ _ late in omega arith
          ]
          in
          let here : cond test c 0 ≡ 0 = cond-false test c 0 off in
          rw (same, here) (omega (arith, before))
    ]

-- the positions of one row that a region covers
row_count : (w : ℕ) (p : Placed) (y : ℕ) → p.x + p.w ≤ w → total w (λ x. cond (covers p x y) 1 0) ≡ cond (nat_le p.y y && nat_lt y (p.y + p.h)) p.w 0
unfolding covers
row_count w p y inside =
    let row : Bool = nat_le p.y y && nat_lt y (p.y + p.h) in
    let reach : min w (p.x + p.w) - p.x ≡ p.w = omega arith in
    elim (cases_Bool row) [
      | inl on ↦ rw on (total-same w (λ x. cond ((nat_le p.x x && nat_lt x (p.x + p.w)) && true) 1 0) (λ x. cond (nat_le p.x x && nat_lt x (p.x + p.w)) 1 0) (λ x h. and_one (nat_le p.x x && nat_lt x (p.x + p.w))) ∙ (total-among w p.x p.w 1 ∙ rw reach (omega arith)))
      | inr off ↦ rw off (total-same w (λ x. cond ((nat_le p.x x && nat_lt x (p.x + p.w)) && false) 1 0) (λ x. 0) (λ x h. and_none (nat_le p.x x && nat_lt x (p.x + p.w))) ∙ total-none w)
    ]
  where
    and_one : (b : Bool) → ◌≡◌ {A = ℕ} (cond (b && true) 1 0) (cond b 1 0)
    and_one true = refl
    and_one false = refl

    and_none : (b : Bool) → ◌≡◌ {A = ℕ} (cond (b && false) 1 0) 0
    and_none true = refl
    and_none false = refl

region_count : (w h : ℕ) (p : Placed) → p.x + p.w ≤ w → p.y + p.h ≤ h → total h (λ y. total w (λ x. cond (covers p x y) 1 0)) ≡ p.w * p.h
region_count w h p across down =
    let reach : min h (p.y + p.h) - p.y ≡ p.h = omega arith in
    total-same h (λ y. total w (λ x. cond (covers p x y) 1 0)) (λ y. cond (nat_le p.y y && nat_lt y (p.y + p.h)) p.w 0) (λ y below. row_count w p y across)
    ∙ (total-among h p.y p.h p.w ∙ rw reach (mul_comm p.h p.w))

-- how many regions cover a position
abbrev pub holders : List Placed → ℕ → ℕ → ℕ
holders ps x y = count_by (λ p. covers p x y) ps

-- regions within a frame
record AreInside (w h : ℕ) (ps : List Placed) : Type 0 where
  across : All (λ p. p.x + p.w ≤ w) ps
  down : All (λ p. p.y + p.h ≤ h) ps

all_count : (w h : ℕ) (ps : List Placed) → AreInside w h ps → total h (λ y. total w (λ x. holders ps x y)) ≡ areas ps
all_count w h [] inside = total-same h (λ y. total w (λ x. 0)) (λ y. 0) (λ y below. total-none w) ∙ total-none h
all_count w h (p ∷ ps) inside =
    let one : ℕ → ℕ → ℕ = λ x y. cond (covers p x y) 1 0 in
    let rest : total h (λ y. total w (λ x. holders ps x y)) ≡ areas ps = all_count w h ps (record { across = All-tail (λ q. q.x + q.w ≤ w) p ps inside.across; down = All-tail (λ q. q.y + q.h ≤ h) p ps inside.down }) in
    let first : total h (λ y. total w (λ x. one x y)) ≡ p.w * p.h = region_count w h p (All-head (λ q. q.x + q.w ≤ w) p ps inside.across) (All-head (λ q. q.y + q.h ≤ h) p ps inside.down) in
    let split : total h (λ y. total w (λ x. holders (p ∷ ps) x y)) ≡ total h (λ y. total w (λ x. one x y) + total w (λ x. holders ps x y)) =
    total-same h (λ y. total w (λ x. holders (p ∷ ps) x y)) (λ y. total w (λ x. one x y) + total w (λ x. holders ps x y))
    (λ y below. total-same w (λ x. holders (p ∷ ps) x y) (λ x. one x y + holders ps x y) (λ x left. count_by-cons (λ q. covers q x y) p ps) ∙ total-add w (λ x. one x y) (λ x. holders ps x y)) in
    let add = total-add h (λ y. total w (λ x. one x y)) (λ y. total w (λ x. holders ps x y)) in
    split ∙ (add ∙ omega (arith, first, rest, sum_by-cons (λ q. q.w * q.h) p ps))

-- where one passes at least, there is one
Any-counted : {X : Type 0} (p : X → Bool) (xs : List X) → 1 ≤ count_by p xs → Any (λ x. p x ≡ true) xs
Any-counted p [] some = absurd (omega arith)
Any-counted p (x ∷ xs) some =
    elim (cases_Bool (p x)) [
      | inl on ↦ (0, x, omega arith, refl, on)
      | inr off ↦
          let first : cond {A = ℕ} (p x) 1 0 ≡ 0 = ap (λ t. cond t 1 0) off in
          let rest = Any-counted p xs (omega (arith, count_by-cons p x xs, first)) in
          (suc rest.0, rest.1, omega (arith, rest.2), rest.3, rest.4)
    ]

-- where no two pass, one passes at most
pub at_most_one : {X : Type 0} (p : X → Bool) (xs : List X) → AllPairs (λ x y. p x ≡ true → p y ≡ true → ⊥) xs → count_by p xs ≤ 1
at_most_one p [] apart = omega arith
at_most_one {X} p (x ∷ xs) apart =
    let rest : count_by p xs ≤ 1 = at_most_one p xs (λ i j d less short. apart (suc i) (suc j) d (omega arith) (omega arith)) in
    elim (cases_Bool (p x)) [
      | inr off ↦
          let first : cond {A = ℕ} (p x) 1 0 ≡ 0 = ap (λ t. cond t 1 0) off in
          omega (arith, count_by-cons p x xs, first)
      | inl on ↦
          let first : cond {A = ℕ} (p x) 1 0 ≡ 1 = ap (λ t. cond t 1 0) on in
          elim (cases_lt 0 (count_by p xs)) [
            | inr none ↦ omega (arith, count_by-cons p x xs, first)
            | inl some ↦
                let other = Any-counted p xs some in
                absurd (apart 0 (suc other.0) other.1 (omega arith) (omega (arith, other.2)) on (subst (λ z. p z ≡ true) (sym other.3) other.4))
          ]
    ]

one_holder : (ps : List Placed) (x y : ℕ) → AllPairs (λ p q. ¬ Overlap p q) ps → holders ps x y ≤ 1
one_holder ps x y apart = at_most_one (λ p. covers p x y) ps (λ i j d less short on_i on_j. apart i j d less short (x, y, on_i, on_j))

frame_holds : (ps : List Placed) → AreInside (frame_width ps) (frame_height ps) ps
frame_holds ps = record {
  across = λ k d short. greatest_bounds (λ p. p.x + p.w) ps k d short;
  down = λ k d short. greatest_bounds (λ p. p.y + p.h) ps k d short;
}

pub filled_tells : (ps : List Placed) → AllPairs (λ p q. ¬ Overlap p q) ps → areas ps ≡ frame_width ps * frame_height ps → IsFilled ps
filled_tells ps apart full = λ x y left above.
    let w : ℕ = frame_width ps in
    let h : ℕ = frame_height ps in
    let most : (v u : ℕ) → v < w → holders ps v u ≤ 1 = λ v u _. one_holder ps v u apart in
    let rows : (u : ℕ) → u < h → total w (λ v. holders ps v u) ≤ w * 1 = λ u _. total-upto w 1 (λ v. holders ps v u) (λ v below. most v u below) in
    let count : total h (λ u. total w (λ v. holders ps v u)) ≡ areas ps = all_count w h ps (frame_holds ps) in
    let row : total w (λ v. holders ps v y) ≡ w * 1 = full_at h (w * 1) (λ u. total w (λ v. holders ps v u)) rows (count ∙ (full ∙ (mul_comm w h ∙ omega arith))) y above in
    let one : holders ps x y ≡ 1 = full_at w 1 (λ v. holders ps v y) (λ v below. most v y below) row x left in
    Any-counted (λ p. covers p x y) ps (omega arith)

pub filled_fails : (ps : List Placed) → AllPairs (λ p q. ¬ Overlap p q) ps → (areas ps ≡ frame_width ps * frame_height ps → ⊥) → HasGap ps
filled_fails ps apart short =
    let w : ℕ = frame_width ps in
    let h : ℕ = frame_height ps in
    let count : total h (λ u. total w (λ v. holders ps v u)) ≡ areas ps = all_count w h ps (frame_holds ps) in
    let row = short_at h (w * 1) (λ u. total w (λ v. holders ps v u)) (λ full. short (sym count ∙ (full ∙ omega (arith, mul_comm w h)))) in
    let column = short_at w 1 (λ v. holders ps v row.0) row.2 in
    record {
      x = column.0;
      y = row.0;
      in_width = column.1;
      in_height = row.1;
      uncovered = λ some.
          let one : 1 ≤ holders ps column.0 row.0 = count_by-some (λ p. covers p column.0 row.0) ps some.0 some.1 some.2 (subst (λ p. covers p column.0 row.0 ≡ true) (sym some.3) some.4) in
          let most : holders ps column.0 row.0 ≤ 1 = one_holder ps column.0 row.0 apart in
          column.2 (omega arith);
    }
