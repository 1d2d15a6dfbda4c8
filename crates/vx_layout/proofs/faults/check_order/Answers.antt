use Rattle.std.proofs.Common.{◌≡◌, ◌*◌, ◌≤◌, length, arith, refl, ap, sym, ◌∙◌, subst}
use Rattle.vx_layout.specs.Faults.{width, height}
use Rattle.vx_layout.specs.inner.Marks.{IsMapOf}
use Rattle.vx_layout.specs.Rects.{CoversOnce, in_order}
use Rattle.vx_layout.proofs.Counting.{in_order-once}
use Rattle.vx_layout.proofs.Ordering.{AllPairs-rising, rising-AllPairs, AreWithin-in_order, length-in_order-le}
use Rattle.vx_layout.proofs.Owners.{in_order-groups}
use Rattle.vx_layout.proofs.faults.check_order.Goals as goal

pub map_of-requires-clause-few : goal.map_of-requires-clause-few
map_of-requires-clause-few c =
    let n = c.args.numbers.now in
    let all : c.in_ok-slices.slices ≡ in_order n.slices n.subpics = c.in_ok-slices.ensures ∙ in_order-groups c.args.groups.now n.slices n.subpics c.requires.groups in
    let few : length (in_order n.slices n.subpics) ≤ 1000 * 1000 = length-in_order-le n.slices n.subpics 1000 1000 c.requires.limits.slices.1 c.requires.limits.subpics.1 in
    omega (arith, ap length all)

pub unreachable-requires : goal.unreachable-requires
unreachable-requires c =
    let n = c.args.numbers.now in
    let all : c.in_ok-slices.slices ≡ in_order n.slices n.subpics = c.in_ok-slices.ensures ∙ in_order-groups c.args.groups.now n.slices n.subpics c.requires.groups in
    let not_once : CoversOnce c.in_ok-slices.slices (width n) (height n) → ⊥ = rw (← c.last.ensures.value, ← c.last-2.ensures.value) (rw c.in_default.is at c.in_ok-map.ensures) in
    not_once (subst (λ t. CoversOnce t (width n) (height n)) (sym all) (in_order-once n.slices n.subpics (width n) (height n) c.requires.split c.requires.subpics.once c.requires.slices))

pub returns-then-not-is_rising-clause-fault : goal.returns-then-not-is_rising-clause-fault
returns-then-not-is_rising-clause-fault c =
    let n = c.args.numbers.now in
    let all : c.in_ok-slices.slices ≡ in_order n.slices n.subpics = c.in_ok-slices.ensures ∙ in_order-groups c.args.groups.now n.slices n.subpics c.requires.groups in
    let map : IsMapOf c.in-Some.map c.in_ok-slices.slices (width n) (height n) = rw (← c.last.ensures.value, ← c.last-2.ensures.value) (rw c.in-Some.is at c.in_ok-map.ensures) in
    let whole : IsMapOf c.in-Some.map (in_order n.slices n.subpics) (width n) (height n) = subst (λ t. IsMapOf c.in-Some.map t (width n) (height n)) all map in
    (refl, λ order. c.if-not-is_rising.ensures.falls (rising-AllPairs c.in-Some.map (in_order n.slices n.subpics) (width n) (height n) whole order))

pub returns-clause-order : goal.returns-clause-order
returns-clause-order c =
    let n = c.args.numbers.now in
    let all : c.in_ok-slices.slices ≡ in_order n.slices n.subpics = c.in_ok-slices.ensures ∙ in_order-groups c.args.groups.now n.slices n.subpics c.requires.groups in
    let map : IsMapOf c.in-Some.map c.in_ok-slices.slices (width n) (height n) = rw (← c.last.ensures.value, ← c.last-2.ensures.value) (rw c.in-Some.is at c.in_ok-map.ensures) in
    let whole : IsMapOf c.in-Some.map (in_order n.slices n.subpics) (width n) (height n) = subst (λ t. IsMapOf c.in-Some.map t (width n) (height n)) all map in
    AllPairs-rising c.in-Some.map (in_order n.slices n.subpics) (width n) (height n) whole (AreWithin-in_order n.slices n.subpics (width n) (height n) c.requires.subpics.parts) c.if-not-is_rising.ensures.rises
