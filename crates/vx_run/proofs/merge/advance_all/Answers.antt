use Rattle.std.proofs.Common.{◌≡◌, length, inl, arith}
use Rattle.std.proofs.lemmas.Result.{err_from_is_err_and}
use Rattle.vx_run.proofs.Advancing.{goes_same, goes_so}
use Rattle.vx_run.proofs.Corners.{on_ok}
use Rattle.vx_run.specs.Merge.{length_refused}
use Rattle.vx_run.proofs.merge.advance_all.Goals as goal

-- a source stopped it
pub returns-in_err-advance_each-clause-answer : goal.returns-in_err-advance_each-clause-answer
returns-in_err-advance_each-clause-answer g c R of first taken w =
    let p = err_from_is_err_and c.from_residual.result c.from_residual.ensures.1 in
    rw (p.1, p.2) (inl (c.in_err-advance_each.ensures.answer R of first taken w))

-- or their lengths did, or not
pub returns-clause-answer : goal.returns-clause-answer
returns-clause-answer g c R of first taken w =
    let adv = c.in_ok-advance_each.ensures.answer R of first taken w in
    let flags : length c.advance_each.new.ended.items ≡ length first = omega (arith, c.advance_each.ensures.ended, c.requires.ended, c.requires.feeds, w.feeds_count) in
    goes_so _ _ R first c.advance_each.new.sources.items c.advance_each.new.feeds.items taken c.args.rounds c.advance_each.new.ended.items flags adv length_refused c.all_go_on.result
    (goes_same length_refused _ _ c.args.rounds _ c.deref.ensures.value c.all_go_on.ensures.goes)

pub returns-clause-few : goal.returns-clause-few
returns-clause-few g c = on_ok c.all_go_on.result _ c.in_ok-advance_each.ensures.few
