use Rattle.std.proofs.Common.{Some, map, refl, sym, ap, subst, length, ◌∙◌}
use Rattle.vx_frame.specs.Corners.{AreCorners}
use Rattle.vx_merge.specs.Merging.{Merging, Stands}
use Rattle.vx_merge.specs.inner.Progress.{IsProgress, merging_of}
use Rattle.vx_merge.proofs.Writing.{checks_stopped}
use Rattle.vx_merge.proofs.merger.Merger.check.Goals as goal

pub check_lent-requires-clause-corners : goal.check_lent-requires-clause-corners
check_lent-requires-clause-corners g c = subst AreCorners (sym c.deref.ensures.value) c.self.invariant.0

pub check_lent-requires-clause-count : goal.check_lent-requires-clause-count
check_lent-requires-clause-count g c =
    c.requires.count ∙ sym (ap length (c.deref.ensures.value ∙ ap (λ (m : Merging). m.corners) c.self.view_is))

pub check_lent-requires-clause-holds : goal.check_lent-requires-clause-holds
check_lent-requires-clause-holds g c = c.requires.holds

pub check_lent-requires-clause-progress : goal.check_lent-requires-clause-progress
check_lent-requires-clause-progress g c =
    subst (λ cs. IsProgress cs c.self.inside.level c.self.inside.progress) (sym c.deref.ensures.value) (c.self.invariant.1 c.in_default.is)

pub returns-in-Ok-clause-answer : goal.returns-in-Ok-clause-answer
returns-in-Ok-clause-answer g c done stands =
    let stood = rw (← c.self.view_is) at stands in
    let before : Stands (merging_of c.deref.result.now c.self.inside.level c.self.inside.progress) done = record { slots = stood.slots; bytes = stood.bytes; going = refl } in
    let answer = rw c.deref.ensures.value at (c.in-Ok.ensures.answer done before) in
    rw c.in_default.is answer

pub returns-in-Err-clause-answer : goal.returns-in-Err-clause-answer
returns-in-Err-clause-answer g c done stands =
    let stood = rw (← c.self.view_is) at stands in
    let before : Stands (merging_of c.deref.result.now c.self.inside.level c.self.inside.progress) done = record { slots = stood.slots; bytes = stood.bytes; going = refl } in
    let x = merging_of c.deref.result.now c.self.inside.level c.check_lent.new.progress in
    let y : Merging = record x { corners = c.self.inside.corners.items; first = Some c.first_of.result } in
    checks_stopped (map g.L.Lender.lent c.args.lenders.now) done x y c.in-Err.error (sym c.deref.ensures.value) refl (c.in-Err.ensures.answer done before)
