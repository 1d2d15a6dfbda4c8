use Rattle.std.proofs.Common.{refl}
use Rattle.vx_layout.specs.Faults.{width, height}
use Rattle.vx_layout.specs.inner.Marks.{IsMapOf}
use Rattle.vx_layout.specs.Rects.{CoversOnce}
use Rattle.vx_layout.proofs.Marks.{CoversOnce-map}
use Rattle.vx_layout.proofs.faults.check_subpics.Goals as goal

pub returns-in_default-clause-fault : goal.returns-in_default-clause-fault
returns-in_default-clause-fault c =
    let n = c.args.numbers.now in
    let not_once : CoversOnce n.subpics (width n) (height n) → ⊥ = rw (← c.last-width.ensures.value, ← c.last-height.ensures.value) (rw c.in_default.is at c.in_ok-map.ensures) in
    (refl, λ cover. not_once cover.once)

pub returns-clause-cover : goal.returns-clause-cover
returns-clause-cover c =
    let n = c.args.numbers.now in
    let map : IsMapOf c.in-Some.map n.subpics (width n) (height n) = rw (← c.last-width.ensures.value, ← c.last-height.ensures.value) (rw c.in-Some.is at c.in_ok-map.ensures) in
    record {
      parts = rw (← c.last-width.ensures.value, ← c.last-height.ensures.value) c.if-not-are_parts.ensures.inside;
      once = CoversOnce-map _ _ _ _ map;
    }
