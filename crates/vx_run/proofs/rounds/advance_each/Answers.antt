use Rattle.std.proofs.Common.{◌≡◌, ◌≢◌, ◌<◌, ℕ, Ok, Err, not, length, slice_get, slice_set, arith, refl}
use Rattle.std.proofs.lemmas.Option.{slice_get_read, slice_get_within}
use Rattle.std.proofs.lemmas.Result.{err_from_is_err_and}
use Rattle.vx_run.proofs.Indexed.{some_at, set_other}
use Rattle.vx_run.proofs.Advancing.{advancing_none, advanced_at, end_after, waits_here, step_flag, advancing_more, source_stops, advancing_all, few_more, taken_ended}
use Rattle.vx_run.proofs.rounds.advance_each.Goals as goal

pub loop-k-init : goal.loop-k-init
loop-k-init g c = (
  (refl, refl, refl),
  λ k f before. absurd (omega (arith, before)),
  λ R of first taken w. advancing_none _ _ R first c.args.sources.now.items c.args.feeds.now.items taken c.args.rounds c.args.ended.now.items w,
)

-- source k stopped
pub returns-in_err-goes-clause-answer : goal.returns-in_err-goes-clause-answer
returns-in_err-goes-clause-answer g c R of first taken w =
    let p = err_from_is_err_and c.from_residual.result c.from_residual.ensures.1 in
    let k = c.loop-k.k in
    let l = c.loop-k.sources.items in
    let feeds = c.loop-k.feeds.items in
    let adv = c.loop-k.invariant.2 R of first taken w in
    let s = c.index_mut-in-loop-k.result.now in
    let s' = c.advance.new.source in
    let f = c.index_mut.result.now in
    let f' = c.advance.new.feed in
    let within : k < length l = omega (arith, c.loop-k.invariant.0.1, c.loop-k.invariant.0.0, c.requires.feeds) in
    let fits : k < length feeds = omega (arith, c.loop-k.invariant.0.0) in
    let at = slice_get_read feeds (length feeds) k f refl fits c.index_mut.ensures.value in
    let fitting : k < length taken = omega (arith, within, adv.taken_count, adv.feeds_count, fits) in
    let ps = some_at taken k fitting in
    let others : (j : ℕ) → j ≢ k → slice_get (slice_set l k s') j ≡ slice_get l j = λ j other. set_other l j k s' other in
    let waits = waits_here _ _ R first l (slice_set l k s') feeds taken c.args.rounds k c.loop-k.ended.items adv f f' ps.0 at ps.1 others in
    let end = end_after _ l k s s' within c.index_mut-in-loop-k.ensures.value f f' c.advance.ensures.end (taken_ended _ _ R first l k f ps.0 waits) in
    rw (p.1, p.2) (source_stops _ _ R first l (slice_set l k s') feeds taken c.args.rounds k c.loop-k.ended.items adv f f' ps.0 at ps.1 others end c.in_err-goes.field-0.0
    (advanced_at _ _ R first l k s s' within c.index_mut-in-loop-k.ensures.value f f' ps.0 waits (Err c.in_err-goes.field-0.0) (c.in_err-goes.ensures.answer R of)))

pub loop-k-preserved : goal.loop-k-preserved
loop-k-preserved g c = (
  (omega (arith, c.loop-k.invariant.0.0), omega (arith, c.loop-k.invariant.0.1), omega (arith, c.loop-k.invariant.0.2)),
  few_more c.loop-k.feeds.items c.loop-k.k c.advance.new.feed c.loop-k.invariant.1 c.in_ok-goes.ensures.few,
  λ R of first taken w.
      let k = c.loop-k.k in
      let l = c.loop-k.sources.items in
      let feeds = c.loop-k.feeds.items in
      let adv = c.loop-k.invariant.2 R of first taken w in
      let s = c.index_mut-in-loop-k.result.now in
      let s' = c.advance.new.source in
      let f = c.index_mut.result.now in
      let f' = c.advance.new.feed in
      let within : k < length l = omega (arith, c.loop-k.invariant.0.1, c.loop-k.invariant.0.0, c.requires.feeds) in
      let fits : k < length feeds = omega (arith, c.loop-k.invariant.0.0) in
      let flags : k < length c.loop-k.ended.items = omega (arith, c.loop-k.invariant.0.2, c.requires.ended, within) in
      let at = slice_get_read feeds (length feeds) k f refl fits c.index_mut.ensures.value in
      let fitting : k < length taken = omega (arith, within, adv.taken_count, adv.feeds_count, fits) in
      let ps = some_at taken k fitting in
      let others : (j : ℕ) → j ≢ k → slice_get (slice_set l k s') j ≡ slice_get l j = λ j other. set_other l j k s' other in
      let waits = waits_here _ _ R first l (slice_set l k s') feeds taken c.args.rounds k c.loop-k.ended.items adv f f' ps.0 at ps.1 others in
      let end = end_after _ l k s s' within c.index_mut-in-loop-k.ensures.value f f' c.advance.ensures.end (taken_ended _ _ R first l k f ps.0 waits) in
      let advanced = advanced_at _ _ R first l k s s' within c.index_mut-in-loop-k.ensures.value f f' ps.0 waits (Ok c.in_ok-goes.goes) (c.in_ok-goes.ensures.answer R of) in
      let came = step_flag _ _ R first l (slice_set l k s') k f f' ps.0 waits end c.in_ok-goes.goes c.in_ok-goes.ensures.lent advanced in
      advancing_more _ _ R first l (slice_set l k s') feeds taken c.args.rounds k c.loop-k.ended.items adv f f' ps.0 at ps.1 others (not c.in_ok-goes.goes) flags came,
)

pub returns-clause-answer : goal.returns-clause-answer
returns-clause-answer g c R of first taken w =
    let all : c.loop-k.k ≡ length first = omega (arith, c.loop-k-test.false, c.loop-k.auto.k-end, c.len-k-end.ensures, w.feeds_count) in
    advancing_all _ _ R first c.loop-k.sources.items c.loop-k.feeds.items taken c.args.rounds c.loop-k.ended.items c.loop-k.k (c.loop-k.invariant.2 R of first taken w) all

pub returns-clause-few : goal.returns-clause-few
returns-clause-few g c k f at =
    let within : k < c.loop-k.k = omega (arith, slice_get_within c.loop-k.feeds.items k f at, c.loop-k-test.false, c.loop-k.invariant.0.0, c.len-k-end.ensures) in
    c.loop-k.invariant.1 k f within at
