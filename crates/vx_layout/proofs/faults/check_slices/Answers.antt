use Rattle.std.proofs.Common.{refl}
use Rattle.vx_layout.specs.Faults.{width, height}
use Rattle.vx_layout.specs.inner.Marks.{IsMapOf}
use Rattle.vx_layout.specs.Rects.{CoversOnce}
use Rattle.vx_layout.proofs.Marks.{CoversOnce-map}
use Rattle.vx_layout.proofs.faults.check_slices.Goals as goal

pub returns-in_default-clause-fault : goal.returns-in_default-clause-fault
returns-in_default-clause-fault c =
    let n = c.args.numbers.now in
    let not_once : CoversOnce n.slices (width n) (height n) → ⊥ = rw (← c.last.ensures.value, ← c.last-2.ensures.value) (rw c.in_default.is at c.in_ok-_map.ensures) in
    (refl, not_once)

pub returns-clause-cover : goal.returns-clause-cover
returns-clause-cover c =
    let n = c.args.numbers.now in
    let map : IsMapOf c.in-Some._map n.slices (width n) (height n) = rw (← c.last.ensures.value, ← c.last-2.ensures.value) (rw c.in-Some.is at c.in_ok-_map.ensures) in
    CoversOnce-map _ _ _ _ map
