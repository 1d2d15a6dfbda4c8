-- The order of two slices, by their borders.
use Rattle.std.proofs.Common.{◌≡◌, ℕ, ◌+◌, ◌-◌, ◌<◌, ◌≤◌, max, min, true, false, inl, inr, arith}
use Rattle.std.proofs.lemmas.Bool.{and_parts, and_from, and_cases, both_ways, ltb-true, lt-ltb, not-true, not-false}
use Rattle.vx_layout.specs.declared.rect.Rect.{Rect}
use Rattle.vx_layout.specs.inner.Neighbours.{meet, precedes}
use Rattle.vx_layout.specs.Rects.{Precedes}
use Rattle.vx_layout.proofs.Holding.{holds_from, holds_tells}

pub meet_from : (from size other other_size step n : ℕ) → other ≤ n → n < other + other_size → from ≤ n + step → n + step < from + size → meet from size other other_size step ≡ true
unfolding meet
meet_from from size other other_size step n a b c d = lt-ltb _ _ (omega arith)

pub meet_tells : (from size other other_size step : ℕ) → meet from size other other_size step ≡ true → (n : ℕ) × (other ≤ n) × (n < other + other_size) × (from ≤ n + step) × (n + step < from + size)
unfolding meet
meet_tells from size other other_size step h =
    let less : max from (other + step) < min (from + size) (other + other_size + step) = ltb-true _ _ h in
    (max from (other + step) - step, omega arith, omega arith, omega arith, omega arith)

pub Precedes-from : (r s : Rect) → precedes r s ≡ true → Precedes r s
unfolding precedes
Precedes-from r s h = λ x y on_s.
    let both = and_parts _ _ h in
    let q = holds_tells s x y on_s in (
      λ on_r.
          let p = holds_tells r (x + 1) y on_r in
          both_ways _ (not-true _ both.0)
          (and_from _ _ (meet_from r.x r.w s.x s.w 1 x q.0 q.1 p.0 p.1) (meet_from r.y r.h s.y s.h 0 y q.2 q.3 (omega (arith, p)) (omega (arith, p)))),
      λ on_r.
          let p = holds_tells r x (y + 1) on_r in
          both_ways _ (not-true _ both.1)
          (and_from _ _ (meet_from r.x r.w s.x s.w 0 x q.0 q.1 (omega (arith, p)) (omega (arith, p))) (meet_from r.y r.h s.y s.h 1 y q.2 q.3 p.2 p.3)),
    )

pub Precedes-refuted : (r s : Rect) → precedes r s ≡ false → Precedes r s → ⊥
unfolding precedes
Precedes-refuted r s h order =
    elim (and_cases _ _ h) [
      | inl beside ↦
          let both = and_parts _ _ (not-false _ beside) in
          let x = meet_tells r.x r.w s.x s.w 1 both.0 in
          let y = meet_tells r.y r.h s.y s.h 0 both.1 in
          (order x.0 y.0 (holds_from s x.0 y.0 x.1 x.2 y.1 y.2)).0 (holds_from r (x.0 + 1) y.0 x.3 x.4 (omega (arith, y.3)) (omega (arith, y.4)))
      | inr below ↦
          let both = and_parts _ _ (not-false _ below) in
          let x = meet_tells r.x r.w s.x s.w 0 both.0 in
          let y = meet_tells r.y r.h s.y s.h 1 both.1 in
          (order x.0 y.0 (holds_from s x.0 y.0 x.1 x.2 y.1 y.2)).1 (holds_from r x.0 (y.0 + 1) (omega (arith, x.3)) (omega (arith, x.4)) y.3 y.4)
    ]
