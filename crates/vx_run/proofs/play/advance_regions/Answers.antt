use Rattle.std.proofs.Common.{inl}
use Rattle.std.proofs.lemmas.Result.{err_from_is_err_and}
use Rattle.vx_run.specs.Merge.{length_refused}
use Rattle.vx_run.proofs.Advancing.{goes_same}
use Rattle.vx_run.proofs.PlayRounds.{goes_by_lengths}
use Rattle.vx_run.proofs.play.advance_regions.Goals as goal

-- a region stopped it
pub returns-in_err-advance_each-clause-answer : goal.returns-in_err-advance_each-clause-answer
returns-in_err-advance_each-clause-answer g c R of first passed own placed =
    let p = err_from_is_err_and c.from_residual.result c.from_residual.ensures.1 in
    rw (p.1, p.2) (inl (c.in_err-advance_each.ensures.answer R of first passed own placed))

-- or their lengths did, or not
pub returns-clause-answer : goal.returns-clause-answer
returns-clause-answer g c R of first passed own placed =
    goes_by_lengths R _ c.args.schedule.now c.advance_each.new.schedule c.advance_each.new.feeds.items c.advance_each.new.ended.items passed own c.args.rounds c.all_go_on.result
    (c.in_ok-advance_each.ensures.answer R of first passed own placed) (goes_same length_refused _ _ c.args.rounds _ c.deref.ensures.value c.all_go_on.ensures.goes)
