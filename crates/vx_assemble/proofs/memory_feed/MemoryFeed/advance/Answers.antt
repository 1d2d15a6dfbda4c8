use Rattle.std.proofs.Common.{◌∙◌, Ok, Err, ap}
use Rattle.std.proofs.lemmas.Result.{err_from_is_err_and}
use Rattle.vx_assemble.specs.Feed.{Feeding}
use Rattle.vx_assemble.proofs.InMemory.{seeks_first, seeks_more}
use Rattle.vx_assemble.proofs.Results.{same_error, never, value_no_error, on_none}
use Rattle.vx_assemble.proofs.memory_feed.MemoryFeed.advance.Goals as goal

pub loop-step-init : goal.loop-step-init
loop-step-init c = seeks_first c.args.self.now

pub returns-in_err-step : goal.returns-in_err-step
returns-in_err-step c =
    let p = err_from_is_err_and c.from_residual.result c.from_residual.ensures.1 in
    record {
      answer = λ R of bytes ps qs ending seen are.
          rw (p.1, p.2) (c.in_err-step.ensures.answer R of bytes ps qs ending (c.loop-step.invariant.passes R of bytes ps qs ending seen are) are);
      picture = λ is. never p.1 is;
      going = on_none _ _ p.1;
      first = rw (p.1, p.2) c.in_err-step.ensures.first;
      stopped = λ first is.
          let same = c.loop-step.invariant.stopped first is in
          let again = c.in_err-step.ensures.stopped first (ap (λ (x : Feeding). x.first) same ∙ is) in
          (p.1 ∙ ap Err p.2 ∙ same_error again.0, again.1 ∙ same);
      few = on_none _ _ p.1;
      bounded = c.step.ensures.bounded;
    }

pub returns-in-Some-clause-answer : goal.returns-in-Some-clause-answer
returns-in-Some-clause-answer c R of bytes ps qs ending seen are =
    let answer = rw c.in-Some.is at c.in_ok-step.ensures.answer in
    answer R of bytes ps qs ending (c.loop-step.invariant.passes R of bytes ps qs ending seen are) are

pub returns-in-Some-clause-stopped : goal.returns-in-Some-clause-stopped
returns-in-Some-clause-stopped c first is =
    let same = c.loop-step.invariant.stopped first is in
    value_no_error (c.in_ok-step.ensures.stopped first (ap (λ (x : Feeding). x.first) same ∙ is)).0

pub loop-step-preserved : goal.loop-step-preserved
loop-step-preserved c =
    seeks_more _ _ _ c.loop-step.invariant (rw c.in_default.is at c.in_ok-step.ensures.answer) (λ first is. value_no_error (c.in_ok-step.ensures.stopped first is).0)

pub loop-step-smaller : goal.loop-step-smaller
loop-step-smaller c = c.in_ok-step.ensures.falls (ap Ok c.in_default.is)

pub returns-in-Some-clause-going : goal.returns-in-Some-clause-going
returns-in-Some-clause-going c = c.in_ok-step.ensures.going

pub returns-in-Some-clause-first : goal.returns-in-Some-clause-first
returns-in-Some-clause-first c = tt

pub returns-in-Some-clause-few : goal.returns-in-Some-clause-few
returns-in-Some-clause-few c = c.in_ok-step.ensures.few

pub returns-in-Some-clause-bounded : goal.returns-in-Some-clause-bounded
returns-in-Some-clause-bounded c = c.step.ensures.bounded
