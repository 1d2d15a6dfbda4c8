-- The positions that a region covers, and regions that overlap.
use Rattle.std.proofs.Common.{◌≡◌, ℕ, ◌+◌, ◌<◌, ◌≤◌, max, min, true, false, arith}
use Rattle.std.proofs.lemmas.Bool.{and_parts, and_from, both_ways, leb-true, ltb-true, le-leb, lt-ltb}
use Rattle.vx_fit.specs.declared.placed.Placed.{Placed}
use Rattle.vx_fit.specs.Placing.{Overlap, covers}
use Rattle.vx_fit.specs.inner.Searches.{overlaps}

pub covers_tells : (p : Placed) (x y : ℕ) → covers p x y ≡ true → (p.x ≤ x) × (x < p.x + p.w) × (p.y ≤ y) × (y < p.y + p.h)
unfolding covers
covers_tells p x y h =
    let both = and_parts _ _ h in
    let across = and_parts _ _ both.0 in
    let down = and_parts _ _ both.1 in
    (leb-true _ _ across.0, ltb-true _ _ across.1, leb-true _ _ down.0, ltb-true _ _ down.1)

pub covers_from : (p : Placed) (x y : ℕ) → p.x ≤ x → x < p.x + p.w → p.y ≤ y → y < p.y + p.h → covers p x y ≡ true
unfolding covers
covers_from p x y a b c d =
    and_from _ _ (and_from _ _ (le-leb _ _ a) (lt-ltb _ _ b)) (and_from _ _ (le-leb _ _ c) (lt-ltb _ _ d))

pub Overlap-from : (p q : Placed) → overlaps p q ≡ true → Overlap p q
unfolding overlaps
Overlap-from p q h =
    let both = and_parts _ _ h in
    let across : max p.x q.x < min (p.x + p.w) (q.x + q.w) = ltb-true _ _ both.0 in
    let down : max p.y q.y < min (p.y + p.h) (q.y + q.h) = ltb-true _ _ both.1 in
    (max p.x q.x, max p.y q.y, covers_from p _ _ (omega arith) (omega arith) (omega arith) (omega arith), covers_from q _ _ (omega arith) (omega arith) (omega arith) (omega arith))

pub Overlap-refuted : (p q : Placed) → overlaps p q ≡ false → ¬ Overlap p q
unfolding overlaps
Overlap-refuted p q h = λ both.
    let on_p = covers_tells p both.0 both.1 both.2 in
    let on_q = covers_tells q both.0 both.1 both.3 in
    both_ways _ h (and_from _ _
    (lt-ltb (max p.x q.x) (min (p.x + p.w) (q.x + q.w)) (omega (arith, on_p, on_q)))
    (lt-ltb (max p.y q.y) (min (p.y + p.h) (q.y + q.h)) (omega (arith, on_p, on_q))))
