use Rattle.std.proofs.Common.{◌≡◌, ◌<◌, ◌∙◌, List, length, sym, ap, subst, arith, refl}
use Rattle.std.specs.Prelude.{All}
use Rattle.vx_assemble.specs.Held.{HasPicture}
use Rattle.vx_assemble.specs.Feed.{Feeding}
use Rattle.vx_frame.specs.declared.corner.Corner.{Corner}
use Rattle.std.proofs.lemmas.Result.{err_from_is_err_and}
use Rattle.std.proofs.lemmas.Option.{slice_get_read}
use Rattle.vx_pic.proofs.Existing.{there_are_readers}
use Rattle.vx_run.proofs.Advancing.{waiting_none, rounds_below, all_hold}
use Rattle.vx_run.proofs.Working.{work_unmade, work_none, work_halted, work_stopped, work_more, work_done, turns_same}
use Rattle.vx_run.proofs.merge.take_by.Goals as goal

pub loop-ended-init : goal.loop-ended-init
loop-ended-init g c =
    let count : length c.in_ok-feeds.feeds.items ≡ length c.args.sources.now.items = omega (arith, c.in_ok-feeds.ensures.count, c.len.ensures) in (
      (refl, refl),
      (c.requires.count, omega (arith, c.in_ok-feeds.ensures.count, c.len.ensures, c.requires.count), omega (arith, c.in_ok-ended.ensures, c.len-2.ensures, c.requires.count)),
      λ R of. work_none _ _ _ _ R c.args.sources.now.items c.args.out.now c.args.merger.now.corners c.args.merger.now.level c.args.work c.in_ok-feeds.feeds.items c.args.merger.now _
          (waiting_none _ _ R c.args.sources.now.items c.in_ok-feeds.feeds.items count c.in_ok-feeds.ensures.unfed) c.requires.stands,
    )

-- there was no memory to begin
pub returns-in_err-feeds-clause-takes : goal.returns-in_err-feeds-clause-takes
returns-in_err-feeds-clause-takes g c R of =
    let p = err_from_is_err_and c.from_residual.result c.from_residual.ensures.1 in
    rw (p.1, p.2) (work_unmade _ _ _ _ R c.args.sources.now.items c.args.out.now c.args.merger.now.corners c.args.merger.now.level c.args.work)

pub returns-in_err-ended-clause-takes : goal.returns-in_err-ended-clause-takes
returns-in_err-ended-clause-takes g c R of =
    let p = err_from_is_err_and c.from_residual-in_err-ended.result c.from_residual-in_err-ended.ensures.1 in
    rw (p.1, p.2) (work_unmade _ _ _ _ R c.args.sources.now.items c.args.out.now c.args.merger.now.corners c.args.merger.now.level c.args.work)

-- a source, or their lengths, ended it
pub returns-in_err-advance_all-clause-takes : goal.returns-in_err-advance_all-clause-takes
returns-in_err-advance_all-clause-takes g c R of =
    let p = err_from_is_err_and c.from_residual-in_err-advance_all.result c.from_residual-in_err-advance_all.ensures.1 in
    let e = c.loop-ended.invariant.2 R of in
    rw (p.1, p.2) (work_halted _ _ _ _ R c.args.sources.now.items c.args.out.now c.args.merger.now.corners c.args.merger.now.level c.advance_all.new.sources.items e.taken c.loop-ended.rounds e.waiting.taken_count e.waiting.rounds c.loop-ended.out c.loop-ended.merger c.args.work e.done
    c.in_err-advance_all.field-0.0 (c.in_err-advance_all.ensures.answer R of c.args.sources.now.items e.taken e.waiting))

pub take_round-requires : goal.take_round-requires
take_round-requires g c =
    let R = there_are_readers.0 in
    let of = there_are_readers.1 in
    let e = c.loop-ended.invariant.2 R of in
    let all = rw c.if-branch.true at c.in_ok-advance_all.ensures.answer R of c.args.sources.now.items e.taken e.waiting in
    let same : c.deref.result.now ≡ c.advance_all.new.feeds.items = c.deref.ensures.value in
    record {
      count = omega (arith, c.loop-ended.invariant.1.1, c.advance_all.ensures.feeds, ap (λ (l : List Feeding). length l) same, ap (λ (l : List Corner). length l) c.loop-ended.invariant.0.0);
      holds = subst (λ (l : List Feeding). All (λ (f : Feeding). HasPicture f.assembler) l) (sym same) (all_hold _ _ R c.args.sources.now.items c.advance_all.new.sources.items c.advance_all.new.feeds.items e.taken c.loop-ended.rounds all);
    }

-- a round did
pub returns-in_err-take_round-clause-takes : goal.returns-in_err-take_round-clause-takes
returns-in_err-take_round-clause-takes g c R of =
    let p = err_from_is_err_and c.from_residual-in_err-take_round.result c.from_residual-in_err-take_round.ensures.1 in
    let e = c.loop-ended.invariant.2 R of in
    let all = rw c.if-branch.true at c.in_ok-advance_all.ensures.answer R of c.args.sources.now.items e.taken e.waiting in
    let same : c.deref.result.now ≡ c.advance_all.new.feeds.items = c.deref.ensures.value in
    let a = c.in_err-take_round.ensures in
    rw (p.1, p.2) (work_stopped _ _ _ _ R c.args.sources.now.items c.args.out.now c.args.merger.now.corners c.args.merger.now.level c.advance_all.new.sources.items c.advance_all.new.feeds.items e.taken c.loop-ended.rounds all c.loop-ended.out c.take_round.new.out c.loop-ended.merger c.take_round.new.merger c.loop-ended.invariant.0.0 c.loop-ended.invariant.0.1 c.args.work e.done
    c.in_err-take_round.field-0.0 (turns_same _ _ _ _ _ _ _ _ _ _ _ same (record { takes = a.takes; task = a.task })))

pub loop-ended-preserved : goal.loop-ended-preserved
loop-ended-preserved g c =
    let a = c.in_ok-take_round.ensures in (
      (a.task.corners ∙ c.loop-ended.invariant.0.0, a.task.level ∙ c.loop-ended.invariant.0.1),
      (omega (arith, c.loop-ended.invariant.1.0, c.advance_all.ensures.list), omega (arith, c.loop-ended.invariant.1.1, c.advance_all.ensures.feeds), omega (arith, c.loop-ended.invariant.1.2, c.advance_all.ensures.ended)),
      λ R of.
          let e = c.loop-ended.invariant.2 R of in
          let all = rw c.if-branch.true at c.in_ok-advance_all.ensures.answer R of c.args.sources.now.items e.taken e.waiting in
          let same : c.deref.result.now ≡ c.advance_all.new.feeds.items = c.deref.ensures.value in
          let within : 0 < length c.advance_all.new.feeds.items = omega (arith, c.loop-ended.invariant.1.1, c.advance_all.ensures.feeds, c.requires.corners.some) in
          let at = slice_get_read c.advance_all.new.feeds.items (length c.advance_all.new.feeds.items) 0 c.index.result.now refl within c.index.ensures in
          let below = rounds_below _ _ R c.args.sources.now.items c.advance_all.new.sources.items c.advance_all.new.feeds.items e.taken c.loop-ended.rounds all c.index.result.now at in
          rw (c.one_more-rounds.ensures (rw c.unit.ensures below))
          (work_more _ _ _ _ R c.args.sources.now.items c.args.out.now c.args.merger.now.corners c.args.merger.now.level c.advance_all.new.sources.items c.advance_all.new.feeds.items e.taken c.loop-ended.rounds all c.loop-ended.out c.take_round.new.out c.loop-ended.merger c.take_round.new.merger c.loop-ended.invariant.0.0 c.loop-ended.invariant.0.1 c.args.work e.done
          (turns_same _ _ _ _ _ _ _ _ _ _ _ same (record { takes = a.takes; task = a.task }))),
    )

pub returns-clause-takes : goal.returns-clause-takes
returns-clause-takes g c R of =
    let e = c.loop-ended.invariant.2 R of in
    let all = rw c.if-branch.false at c.in_ok-advance_all.ensures.answer R of c.args.sources.now.items e.taken e.waiting in
    work_done _ _ _ _ R c.args.sources.now.items c.args.out.now c.args.merger.now.corners c.args.merger.now.level c.advance_all.new.sources.items e.taken c.loop-ended.rounds e.waiting.taken_count e.waiting.rounds c.loop-ended.out c.loop-ended.merger c.args.work e.done all

pub loop-ended-smaller : goal.loop-ended-smaller
loop-ended-smaller g c =
    let R = there_are_readers.0 in
    let of = there_are_readers.1 in
    let e = c.loop-ended.invariant.2 R of in
    let all = rw c.if-branch.true at c.in_ok-advance_all.ensures.answer R of c.args.sources.now.items e.taken e.waiting in
    let within : 0 < length c.advance_all.new.feeds.items = omega (arith, c.loop-ended.invariant.1.1, c.advance_all.ensures.feeds, c.requires.corners.some) in
    let at = slice_get_read c.advance_all.new.feeds.items (length c.advance_all.new.feeds.items) 0 c.index.result.now refl within c.index.ensures in
    let below = rounds_below _ _ R c.args.sources.now.items c.advance_all.new.sources.items c.advance_all.new.feeds.items e.taken c.loop-ended.rounds all c.index.result.now at in
    omega (arith, c.one_more-rounds.ensures (rw c.unit.ensures below), below, c.in_ok-advance_all.ensures.few 0 c.index.result.now at)
