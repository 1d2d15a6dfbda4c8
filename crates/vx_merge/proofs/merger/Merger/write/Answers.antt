use Rattle.std.proofs.Common.{Some, map, refl, sym, ap, subst, length, ◌∙◌}
use Rattle.vx_frame.specs.Corners.{AreCorners}
use Rattle.vx_merge.specs.Merging.{Merging, Stands}
use Rattle.vx_merge.specs.inner.Progress.{IsProgress, merging_of}
use Rattle.vx_merge.proofs.JoinedRounds.{where_stopped}
use Rattle.vx_merge.proofs.merger.Merger.write.Goals as goal

pub write_lent-requires-clause-corners : goal.write_lent-requires-clause-corners
write_lent-requires-clause-corners g c = subst AreCorners (sym c.deref.ensures.value) c.self.invariant.0

pub write_lent-requires-clause-count : goal.write_lent-requires-clause-count
write_lent-requires-clause-count g c =
    c.requires.count ∙ sym (ap length (c.deref.ensures.value ∙ ap (λ (m : Merging). m.corners) c.self.view_is))

pub write_lent-requires-clause-holds : goal.write_lent-requires-clause-holds
write_lent-requires-clause-holds g c = c.requires.holds

pub write_lent-requires-clause-progress : goal.write_lent-requires-clause-progress
write_lent-requires-clause-progress g c =
    subst (λ cs. IsProgress cs c.self.inside.level c.self.inside.progress) (sym c.deref.ensures.value) (c.self.invariant.1 c.in_default.is)

pub returns-in-Ok-clause-answer : goal.returns-in-Ok-clause-answer
returns-in-Ok-clause-answer g c done stands =
    let stood = rw (← c.self.view_is) at stands in
    let before : Stands (merging_of c.deref.result.now c.self.inside.level c.self.inside.progress) done = record { slots = stood.slots; bytes = stood.bytes; going = refl } in
    let answer = rw c.deref.ensures.value at (c.in-Ok.ensures.answer done before) in
    rw c.in_default.is answer

pub returns-in-Err-clause-answer : goal.returns-in-Err-clause-answer
returns-in-Err-clause-answer g c done stands =
    let stood = rw (← c.self.view_is) at stands in
    let before : Stands (merging_of c.deref.result.now c.self.inside.level c.self.inside.progress) done = record { slots = stood.slots; bytes = stood.bytes; going = refl } in
    let x = merging_of c.deref.result.now c.self.inside.level c.write_lent.new.progress in
    let y : Merging = record x { corners = c.self.inside.corners.items; first = Some c.first_of.result } in
    where_stopped c.args.joins (map g.L.Lender.lent c.args.lenders.now) done x y _ _ _ _ c.in-Err.failure (sym c.deref.ensures.value) refl (c.in-Err.ensures.answer done before)
