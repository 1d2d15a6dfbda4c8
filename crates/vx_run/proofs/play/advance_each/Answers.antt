use Rattle.std.proofs.Common.{◌≡◌, ◌<◌, ◌∙◌, ℕ, List, Ok, Err, false, not, length, slice_index, slice_set, ap, arith, refl}
use Rattle.std.proofs.lemmas.Option.{slice_get_read}
use Rattle.std.proofs.lemmas.Result.{err_from_is_err_and}
use Rattle.vx_run.proofs.Indexed.{get_set_other}
use Rattle.vx_run.proofs.Regions.{went_all, went_before, went_more, went_none}
use Rattle.vx_run.proofs.PlayRounds.{goes_from, same_files, set_at, still_files}
use Rattle.vx_run.proofs.play.advance_each.Goals as goal

pub loop-k-init : goal.loop-k-init
loop-k-init g c = (
  (refl, refl, refl),
  still_files c.args.schedule.now,
  λ i low. refl,
  λ R of first passed own placed. went_none _ _ R first c.args.schedule.now passed own c.args.sources.now.items c.args.schedule.now c.args.feeds.now.items c.args.ended.now.items placed,
)

pub advance_region-requires : goal.advance_region-requires
advance_region-requires g c =
    let files = ap (λ (l : List ℕ). length l) c.loop-k.invariant.1.regions in
    record {
      region = omega (arith, c.loop-k-test.true, c.loop-k.auto.k-end, c.len-k-end.ensures, c.loop-k.invariant.0.0, c.loop-k.invariant.1.count, c.requires.regions);
      files = omega (arith, files, c.requires.files, c.loop-k.invariant.0.1);
      sources = omega (arith, c.requires.sources, c.loop-k.invariant.0.1);
    }

-- region k stopped
pub returns-in_err-goes-clause-answer : goal.returns-in_err-goes-clause-answer
returns-in_err-goes-clause-answer g c R of first passed own placed =
    let p = err_from_is_err_and c.from_residual.result c.from_residual.ensures.1 in
    let k = c.loop-k.k in
    let feeds = c.loop-k.feeds.items in
    let l = c.loop-k.sources.items in
    let l' = c.advance_region.new.sources.items in
    let s = c.args.schedule.now in
    let s' = c.loop-k.schedule in
    let s'' = c.advance_region.new.schedule in
    let f = c.index_mut.result.now in
    let f' = c.advance_region.new.feed in
    let on = c.loop-k.invariant.3 R of first passed own placed in
    let fits : k < length feeds = omega (arith, c.loop-k.invariant.0.0) in
    let at = slice_get_read feeds (length feeds) k f refl fits c.index_mut.ensures.value in
    let but = c.advance_region.ensures.schedule in
    rw (p.1, p.2) (record {
      k = k;
      f = f';
      there = set_at feeds k f' fits;
      went = goes_from _ _ R first l l' s s' k (slice_index s''.gone k) f f' (passed k) (own k) (Err c.in_err-goes.field-0.0) c.loop-k.invariant.1.regions (c.loop-k.invariant.2 k (omega arith)) (on.stays k f (omega arith) at)
          (c.in_err-goes.ensures.answer R of first (passed k) (own k));
      others = went_before _ _ R first s passed own l l' s' s'' feeds c.loop-k.ended.items c.loop-k.ended.items k f' on c.loop-k.invariant.1.regions but c.advance_region.ensures.rest (λ i other. refl);
    })

pub loop-k-preserved : goal.loop-k-preserved
loop-k-preserved g c =
    let k = c.loop-k.k in
    let but = c.advance_region.ensures.schedule in (
      (omega (arith, c.loop-k.invariant.0.0), omega (arith, c.loop-k.invariant.0.1, c.advance_region.ensures.list), omega (arith, c.loop-k.invariant.0.2)),
      same_files c.args.schedule.now c.loop-k.schedule c.advance_region.new.schedule k c.loop-k.invariant.1 but,
      λ i low. but.others i (λ same. omega (arith, same, low)) ∙ c.loop-k.invariant.2 i (omega (arith, low)),
      λ R of first passed own placed.
          let feeds = c.loop-k.feeds.items in
          let l = c.loop-k.sources.items in
          let l' = c.advance_region.new.sources.items in
          let s = c.args.schedule.now in
          let s' = c.loop-k.schedule in
          let s'' = c.advance_region.new.schedule in
          let f = c.index_mut.result.now in
          let f' = c.advance_region.new.feed in
          let on = c.loop-k.invariant.3 R of first passed own placed in
          let fits : k < length feeds = omega (arith, c.loop-k.invariant.0.0) in
          let flags : k < length c.loop-k.ended.items = omega (arith, fits, c.loop-k.invariant.0.0, c.loop-k.invariant.0.2, c.requires.ended) in
          let at = slice_get_read feeds (length feeds) k f refl fits c.index_mut.ensures.value in
          went_more _ _ R first s passed own l l' s' s'' feeds c.loop-k.ended.items (slice_set c.loop-k.ended.items k (not c.in_ok-goes.goes)) k f' on c.loop-k.invariant.1.regions but c.advance_region.ensures.rest
          (λ i other. get_set_other c.loop-k.ended.items i k (not c.in_ok-goes.goes) false other) flags c.in_ok-goes.goes refl
          (goes_from _ _ R first l l' s s' k (slice_index s''.gone k) f f' (passed k) (own k) (Ok c.in_ok-goes.goes) c.loop-k.invariant.1.regions (c.loop-k.invariant.2 k (omega arith)) (on.stays k f (omega arith) at)
          (c.in_ok-goes.ensures.answer R of first (passed k) (own k))),
    )

pub returns-clause-answer : goal.returns-clause-answer
returns-clause-answer g c R of first passed own placed =
    let all : c.loop-k.k ≡ length c.loop-k.feeds.items = omega (arith, c.loop-k-test.false, c.loop-k.auto.k-end, c.len-k-end.ensures, c.loop-k.invariant.0.0) in
    went_all _ _ R first c.args.schedule.now passed own c.loop-k.sources.items c.loop-k.schedule c.loop-k.feeds.items c.loop-k.ended.items c.loop-k.k (length c.loop-k.feeds.items) (c.loop-k.invariant.3 R of first passed own placed) all
