-- Bounds told apart by their members, rectangles by their CTUs, and where tile bounds end.
use Rattle.std.proofs.Common.{◌≡◌, ◌↔◌, ℕ, ◌+◌, ◌-◌, ◌*◌, ◌/◌, ◌%◌, ◌<◌, ◌≤◌, true, eqb, List, [], ◌∷◌, length, replicate, sum, refl, ap, sym, ◌∙◌, subst, inl, inr, arith}
use Rattle.std.proofs.lemmas.Bool.{cases_Bool, cases_lt, eqb-false, eqb-true}
use Rattle.std.proofs.lemmas.List.Elements.{All-append, All-cons, All-head, All-nil, All-replicate, All-tail}
use Rattle.std.proofs.lemmas.List.Folds.{sum_by-replicate}
use Rattle.std.proofs.lemmas.List.Sums.{sum_by-append, sum_by-cons}
use Rattle.std.specs.List.{All, Contains}
use Rattle.vx_layout.specs.declared.rect.Rect.{Rect}
use Rattle.vx_layout.specs.Bounds.{Rises, RisesAbove, bounds_of, last, last_after, repeated_sizes, sums_after, tile_sizes}
use Rattle.vx_layout.specs.Faults.{LiesIn}
use Rattle.vx_layout.specs.Rects.{fits}
use Rattle.vx_layout.proofs.Counting.{holds-fits}
use Rattle.vx_layout.proofs.Holding.{fits_empty, fits_from, holds_from, holds_tells}
use Rattle.vx_layout.proofs.Splitting.{Contains-above, Contains-cases, Contains-cons}
use Rattle.vx_layout.proofs.Tiling.{last-get_or}

no_member : (n : ℕ) → Contains [] n → ⊥
no_member n (k, short, is) = omega arith

same_after : (x : ℕ) (cs bs : List ℕ) → RisesAbove x cs → RisesAbove x bs → ((n : ℕ) → Contains cs n → Contains bs n) → ((n : ℕ) → Contains bs n → Contains cs n) → cs ≡ bs
same_after x [] [] r s f g = refl
same_after x [] (b ∷ bs) r s f g = absurd (no_member b (g b (0, omega arith, refl)))
same_after x (a ∷ cs) [] r s f g = absurd (no_member a (f a (0, omega arith, refl)))
same_after x (a ∷ cs) (b ∷ bs) r s f g =
    let up : b ≤ a =
    elim (Contains-cases b bs a (f a (0, omega arith, refl))) [ inl e ↦ omega arith | inr later ↦ let above = Contains-above b bs a s.1 later in omega arith ]
    in
    let down : a ≤ b =
    elim (Contains-cases a cs b (g b (0, omega arith, refl))) [ inl e ↦ omega arith | inr later ↦ let above = Contains-above a cs b r.1 later in omega arith ]
    in
    let same : a ≡ b = omega arith in
    let rest : cs ≡ bs =
    same_after a cs bs r.1 (subst (λ n. RisesAbove n bs) (sym same) s.1)
    (λ n inside.
    let above = Contains-above a cs n r.1 inside in
    elim (Contains-cases b bs n (f n (Contains-cons a cs n inside))) [ inl e ↦ absurd (omega arith) | inr later ↦ later ])
    (λ n inside.
    let above = Contains-above b bs n s.1 inside in
    elim (Contains-cases a cs n (g n (Contains-cons b bs n inside))) [ inl e ↦ absurd (omega arith) | inr later ↦ later ])
    in
    ap (λ t. a ∷ t) rest ∙ ap (λ m. m ∷ bs) same

pub Rises-members : (cs bs : List ℕ) → Rises cs → Rises bs → ((n : ℕ) → Contains cs n ↔ Contains bs n) → cs ≡ bs
Rises-members [] [] r s f = refl
Rises-members [] (b ∷ bs) r s f = absurd (no_member b ((f b).1 (0, omega arith, refl)))
Rises-members (a ∷ cs) [] r s f = absurd (no_member a ((f a).0 (0, omega arith, refl)))
Rises-members (a ∷ cs) (b ∷ bs) r s f =
    let same : a ≡ b = omega (arith, r.0, s.0) in
    let rest : cs ≡ bs =
    same_after a cs bs r.1 (subst (λ n. RisesAbove n bs) (sym same) s.1)
    (λ n inside.
    let above = Contains-above a cs n r.1 inside in
    elim (Contains-cases b bs n ((f n).0 (Contains-cons a cs n inside))) [ inl e ↦ absurd (omega arith) | inr later ↦ later ])
    (λ n inside.
    let above = Contains-above b bs n s.1 inside in
    elim (Contains-cases a cs n ((f n).1 (Contains-cons b bs n inside))) [ inl e ↦ absurd (omega arith) | inr later ↦ later ])
    in
    ap (λ t. a ∷ t) rest ∙ ap (λ m. m ∷ bs) same

pub fits-LiesIn : (r s : Rect) → fits r s ≡ true → LiesIn r s
fits-LiesIn r s f = λ x y h. holds-fits r s x y f h

pub LiesIn-fits : (r s : Rect) → LiesIn r s → fits r s ≡ true
LiesIn-fits r s inside =
    elim (cases_lt 0 r.w) [
      | inr flat ↦ let e : r.w ≡ 0 = omega arith in fits_empty r s (inl e)
      | inl wide ↦
          elim (cases_lt 0 r.h) [
            | inr flat ↦ let e : r.h ≡ 0 = omega arith in fits_empty r s (inr e)
            | inl high ↦
                let right : ℕ = r.x + r.w - 1 in
                let low : ℕ = r.y + r.h - 1 in
                let first = holds_tells s r.x r.y (inside r.x r.y (holds_from r r.x r.y (omega arith) (omega arith) (omega arith) (omega arith))) in
                let final = holds_tells s right low (inside right low (holds_from r right low (omega arith) (omega arith) (omega arith) (omega arith))) in
                fits_from r s (omega (arith, first)) (omega (arith, final)) (omega (arith, first)) (omega (arith, final))
          ]
    ]

RisesAbove-sums : (a : ℕ) (sizes : List ℕ) → All (λ s. 1 ≤ s) sizes → RisesAbove a (sums_after a sizes)
RisesAbove-sums a [] some = tt
RisesAbove-sums a (s ∷ ss) some =
    let first : 1 ≤ s = All-head (λ s. 1 ≤ s) s ss some in
    (omega arith, RisesAbove-sums (a + s) ss (All-tail (λ s. 1 ≤ s) s ss some))

last-sums : (a : ℕ) (sizes : List ℕ) → last_after a (sums_after a sizes) ≡ a + sum sizes
last-sums a [] = omega arith
last-sums a (s ∷ ss) = last-sums (a + s) ss ∙ omega (arith, sum_by-cons (λ n. n) s ss)

repeated_are : (size left : ℕ) → 1 ≤ size → All (λ s. 1 ≤ s) (repeated_sizes size left) × (sum (repeated_sizes size left) ≡ left)
repeated_are size left some =
    let whole : sum (replicate (left / size) size) ≡ (left / size) * size = sum_by-replicate (λ n. n) (left / size) size in
    let same : All (λ s. 1 ≤ s) (replicate (left / size) size) = All-replicate (λ s. 1 ≤ s) (left / size) size some in
    elim (cases_Bool (eqb (left % size) 0)) [
      | inl none ↦
          let e : left % size ≡ 0 = eqb-true _ _ none in
          rw none (All-append (λ s. 1 ≤ s) (replicate (left / size) size) [] same (All-nil (λ s. 1 ≤ s)), sum_by-append (λ n. n) (replicate (left / size) size) [] ∙ (omega (arith, whole)))
      | inr rest ↦
          let ne : left % size ≡ 0 → ⊥ = eqb-false _ _ rest in
          rw rest (
            All-append (λ s. 1 ≤ s) (replicate (left / size) size) (left % size ∷ []) same (All-cons (λ s. 1 ≤ s) (left % size) [] (omega arith) (All-nil (λ s. 1 ≤ s))),
            sum_by-append (λ n. n) (replicate (left / size) size) (left % size ∷ []) ∙ (omega (arith, whole)),
          )
    ]

pub bounds_of-reach : (explicit : List ℕ) (total : ℕ) → 0 < length explicit → All (λ s. 1 ≤ s) explicit → 1 ≤ total → sum explicit ≤ total → Rises (bounds_of explicit total) × (last (bounds_of explicit total) ≡ total)
bounds_of-reach explicit total some sizes high fit =
    let size : 1 ≤ last explicit = subst (λ n. 1 ≤ n) (last-get_or explicit some) (sizes (length explicit - 1) 0 (omega arith)) in
    let rest = repeated_are (last explicit) (total - sum explicit) size in
    let all : All (λ s. 1 ≤ s) (tile_sizes explicit total) = All-append (λ s. 1 ≤ s) explicit (repeated_sizes (last explicit) (total - sum explicit)) sizes rest.0 in
    let whole : sum (tile_sizes explicit total) ≡ sum explicit + sum (repeated_sizes (last explicit) (total - sum explicit)) = sum_by-append (λ n. n) explicit (repeated_sizes (last explicit) (total - sum explicit)) in
    ((refl, RisesAbove-sums 0 (tile_sizes explicit total) all), last-sums 0 (tile_sizes explicit total) ∙ (omega (arith, whole, rest.1)))
