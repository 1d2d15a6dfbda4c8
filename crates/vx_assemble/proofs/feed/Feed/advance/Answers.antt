use Rattle.std.proofs.Common.{ℕ, ◌≤◌, ◌∙◌, Err, Some, ap, sym, arith}
use Rattle.std.proofs.lemmas.Result.{err_from_is_err_and}
use Rattle.vx_assemble.specs.Feed.{Feeding}
use Rattle.vx_assemble.proofs.Advancing.{passes_first, passes_by, advances_by, advances_stopped, completes_none, one_more_taken, has_picture}
use Rattle.vx_assemble.proofs.Results.{same_error, never, value_no_error, same_value, on_none}
use Rattle.vx_assemble.proofs.feed.Feed.advance.Goals as goal

grows_on : (a b d : ℕ) → a ≤ b → b ≤ d → a ≤ d
grows_on a b d one two = omega (arith, one, two)

pub loop-taken-init : goal.loop-taken-init
loop-taken-init g c = passes_first c.args.self.now _ _

pub returns-in_err-taken : goal.returns-in_err-taken
returns-in_err-taken g c =
    let p = err_from_is_err_and c.from_residual.result c.from_residual.ensures.1 in
    record {
      answer = λ R of bytes places before fed needed.
          rw (p.1, p.2) (advances_stopped _ _ _ _ _ _ _ _ _ c.loop-taken.invariant _ c.in_err-taken.ensures.answer c.in_err-taken.ensures.kept R of bytes places before fed needed);
      picture = λ is. never p.1 is;
      end = λ ends. c.in_err-taken.ensures.end (c.loop-taken.invariant.end ends);
      going = on_none _ _ p.1;
      grows = grows_on _ _ _ c.loop-taken.invariant.units c.take.ensures.grows;
      kept = λ R of bytes places before fed needed.
          rw p.1 (completes_none _ _ _ _ _ _ _ _ _ c.loop-taken.invariant _ c.in_err-taken.ensures.answer c.in_err-taken.ensures.kept R of bytes places before fed needed);
      few = on_none _ _ p.1;
      first = rw (p.1, p.2) c.in_err-taken.ensures.first;
      stopped = λ first is.
          let same = c.loop-taken.invariant.stopped first is in
          let again = c.in_err-taken.ensures.stopped first (ap (λ (x : Feeding). x.first) same.0 ∙ is) in
          (p.1 ∙ ap Err p.2 ∙ same_error again.0, again.1 ∙ same.0, again.2 ∙ same.1, again.3 ∙ same.2);
      held = c.take.ensures.held;
      bytes = c.take.ensures.bytes;
      bounded = c.take.ensures.bounded;
    }

pub returns-in-Some : goal.returns-in-Some
returns-in-Some g c = record {
  answer = λ R of bytes places before fed needed.
      advances_by _ _ _ _ _ _ _ _ _ c.loop-taken.invariant _ _ (sym c.step_of.ensures ∙ c.in-Some.is) c.in_ok-taken.ensures.answer R of bytes places before fed needed;
  picture = λ is.
      has_picture c.in_ok-taken.taken c.take.new.self.assembler (sym c.step_of.ensures ∙ c.in-Some.is ∙ ap Some (same_value is)) c.in_ok-taken.ensures.told;
  end = λ ends. c.in_ok-taken.ensures.end (c.loop-taken.invariant.end ends);
  going = c.in_ok-taken.ensures.going;
  grows = grows_on _ _ _ c.loop-taken.invariant.units c.take.ensures.grows;
  kept = λ R of bytes places before fed needed. tt;
  few = c.in_ok-taken.ensures.few;
  first = tt;
  stopped = λ first is.
      let same = c.loop-taken.invariant.stopped first is in
      value_no_error (c.in_ok-taken.ensures.stopped first (ap (λ (x : Feeding). x.first) same.0 ∙ is)).0;
  held = c.take.ensures.held;
  bytes = c.take.ensures.bytes;
  bounded = c.take.ensures.bounded;
}

pub loop-taken-preserved : goal.loop-taken-preserved
loop-taken-preserved g c =
    passes_by _ _ _ _ _ _ _ _ _ c.loop-taken.invariant _ (sym c.step_of.ensures ∙ c.in_default.is) c.in_ok-taken.ensures.answer c.in_ok-taken.ensures.end
    (λ first is. value_no_error (c.in_ok-taken.ensures.stopped first is).0)
    c.in_ok-taken.ensures.grows

pub loop-taken-smaller : goal.loop-taken-smaller
loop-taken-smaller g c =
    let more = one_more_taken _ _ _ (sym c.step_of.ensures ∙ c.in_default.is) c.in_ok-taken.ensures.counts in
    omega (arith, more, c.in_ok-taken.ensures.few)
