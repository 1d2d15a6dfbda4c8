use Rattle.std.proofs.Common.{◌∙◌, Some, ap, arith}
use Rattle.vx_push.specs.declared.intake.State.{State}
use Rattle.vx_push.proofs.Steps.{seeks_first, seeks_more}
use Rattle.vx_push.proofs.seek.seek.Goals as goal

pub loop-state-init : goal.loop-state-init
loop-state-init c = seeks_first c.args.feed.now

pub loop-state-preserved : goal.loop-state-preserved
loop-state-preserved c = seeks_more _ _ _ c.loop-state.invariant (rw c.in_default.is at c.step.ensures.answer) c.step.ensures.closed c.step.ensures.grows

pub returns-in-Some-clause-comes : goal.returns-in-Some-clause-comes
returns-in-Some-clause-comes c R of g ps taken =
    let answer = rw c.in-Some.is at c.step.ensures.answer in
    answer R of g ps (c.loop-state.invariant.seeks R of g ps taken)

pub returns-in-Some-clause-closed : goal.returns-in-Some-clause-closed
returns-in-Some-clause-closed c = c.step.ensures.closed ∙ c.loop-state.invariant.closed

pub returns-in-Some-clause-grows : goal.returns-in-Some-clause-grows
returns-in-Some-clause-grows c = omega (arith, c.step.ensures.grows, c.loop-state.invariant.units)

pub returns-in-Some-clause-units : goal.returns-in-Some-clause-units
returns-in-Some-clause-units c is =
    let more = c.step.ensures.units (c.in-Some.is ∙ ap (λ (s : State). Some s) is) in
    omega (arith, more, c.loop-state.invariant.units)

pub returns-in-Some-clause-few : goal.returns-in-Some-clause-few
returns-in-Some-clause-few c is = c.step.ensures.few (c.in-Some.is ∙ ap (λ (s : State). Some s) is)
