use Rattle.std.proofs.Common.{◌≡◌, ◌<◌, List, Ok, Err, length, sym, ap, subst, arith, refl}
use Rattle.std.specs.Prelude.{All}
use Rattle.std.proofs.lemmas.Result.{err_from_is_err_and}
use Rattle.std.proofs.lemmas.Option.{slice_get_read}
use Rattle.vx_assemble.specs.Held.{HasPicture}
use Rattle.vx_assemble.specs.Feed.{Feeding}
use Rattle.vx_pic.proofs.Existing.{there_are_readers}
use Rattle.vx_verify.specs.declared.spot.Spot.{Spot}
use Rattle.vx_run.proofs.Advancing.{rounds_below, all_hold, unread}
use Rattle.vx_run.proofs.Verifying.{verify_none, verify_halted, verify_stopped, verify_more, verify_done, judged_same}
use Rattle.vx_run.proofs.verify.verify_rounds.Goals as goal

pub loop-verifier-init : goal.loop-verifier-init
loop-verifier-init g c =
    let count : length c.in_ok-feeds.feeds.items ≡ length c.args.sources.now.items = omega (arith, c.in_ok-feeds.ensures.count, c.len.ensures) in (
      (rw c.in_ok-verifier.ensures refl, rw c.in_ok-verifier.ensures refl),
      (c.requires.count, omega (arith, c.in_ok-feeds.ensures.count, c.len.ensures, c.requires.count), omega (arith, c.in_ok-ended.ensures, c.len-2.ensures, c.requires.count)),
      λ R of. verify_none _ _ R c.args.sources.now.items c.args.spots.now c.in_ok-feeds.feeds.items count c.in_ok-feeds.ensures.unfed,
    )

-- there was no memory to begin
pub returns-in_err-feeds-clause-verifies : goal.returns-in_err-feeds-clause-verifies
returns-in_err-feeds-clause-verifies g c R of =
    let p = err_from_is_err_and c.from_residual.result c.from_residual.ensures.1 in
    rw (p.1, p.2) (unread _ _ R c.args.sources.now.items)

pub returns-in_err-ended-clause-verifies : goal.returns-in_err-ended-clause-verifies
returns-in_err-ended-clause-verifies g c R of =
    let p = err_from_is_err_and c.from_residual-in_err-ended.result c.from_residual-in_err-ended.ensures.1 in
    rw (p.1, p.2) (unread _ _ R c.args.sources.now.items)

pub returns-in_err-verifier-clause-verifies : goal.returns-in_err-verifier-clause-verifies
returns-in_err-verifier-clause-verifies g c R of =
    let p = err_from_is_err_and c.from_residual-in_err-verifier.result c.from_residual-in_err-verifier.ensures.1 in
    rw (p.1, p.2) (unread _ _ R c.args.sources.now.items)

-- a file, or their lengths, ended it
pub returns-in_err-advance_files-clause-verifies : goal.returns-in_err-advance_files-clause-verifies
returns-in_err-advance_files-clause-verifies g c R of =
    let p = err_from_is_err_and c.from_residual-in_err-advance_files.result c.from_residual-in_err-advance_files.ensures.1 in
    let e = c.loop-verifier.invariant.2 R of in
    rw (p.1, p.2) (verify_halted _ _ R c.args.sources.now.items c.args.spots.now c.advance_files.new.sources.items e.taken c.loop-verifier.rounds e.waiting.taken_count e.waiting.rounds e.verified
    c.in_err-advance_files.field-0.0 (c.in_err-advance_files.ensures.answer R of c.args.sources.now.items e.taken e.waiting))

pub verify_round-requires : goal.verify_round-requires
verify_round-requires g c =
    let R = there_are_readers.0 in
    let of = there_are_readers.1 in
    let e = c.loop-verifier.invariant.2 R of in
    let all = rw c.if-branch.true at c.in_ok-advance_files.ensures.answer R of c.args.sources.now.items e.taken e.waiting in
    let same : c.deref.result.now ≡ c.advance_files.new.feeds.items = c.deref.ensures.value in
    record {
      count = omega (arith, c.loop-verifier.invariant.1.1, c.advance_files.ensures.feeds, ap (λ (l : List Feeding). length l) same, ap (λ (l : List Spot). length l) c.loop-verifier.invariant.0.0);
      holds = subst (λ (l : List Feeding). All (λ (f : Feeding). HasPicture f.assembler) l) (sym same) (all_hold _ _ R c.args.sources.now.items c.advance_files.new.sources.items c.advance_files.new.feeds.items e.taken c.loop-verifier.rounds all);
    }

-- a round did
pub returns-in_err-verify_round-clause-verifies : goal.returns-in_err-verify_round-clause-verifies
returns-in_err-verify_round-clause-verifies g c R of =
    let p = err_from_is_err_and c.from_residual-in_err-verify_round.result c.from_residual-in_err-verify_round.ensures.1 in
    let e = c.loop-verifier.invariant.2 R of in
    let all = rw c.if-branch.true at c.in_ok-advance_files.ensures.answer R of c.args.sources.now.items e.taken e.waiting in
    let same : c.deref.result.now ≡ c.advance_files.new.feeds.items = c.deref.ensures.value in
    rw (p.1, p.2) (verify_stopped _ _ R c.args.sources.now.items c.args.spots.now c.advance_files.new.sources.items c.advance_files.new.feeds.items e.taken c.loop-verifier.rounds all e.verified
    c.in_err-verify_round.field-0.0 (judged_same _ c.args.spots.now _ c.advance_files.new.feeds.items c.loop-verifier.rounds (Err c.in_err-verify_round.field-0.0) c.loop-verifier.invariant.0.0 same (c.in_err-verify_round.ensures.verifies c.loop-verifier.invariant.0.1)))

pub loop-verifier-preserved : goal.loop-verifier-preserved
loop-verifier-preserved g c =
    let a = c.in_ok-verify_round.ensures in (
      (rw a.stays c.loop-verifier.invariant.0.0, rw a.stays c.loop-verifier.invariant.0.1),
      (omega (arith, c.loop-verifier.invariant.1.0, c.advance_files.ensures.list), omega (arith, c.loop-verifier.invariant.1.1, c.advance_files.ensures.feeds), omega (arith, c.loop-verifier.invariant.1.2, c.advance_files.ensures.ended)),
      λ R of.
          let e = c.loop-verifier.invariant.2 R of in
          let all = rw c.if-branch.true at c.in_ok-advance_files.ensures.answer R of c.args.sources.now.items e.taken e.waiting in
          let same : c.deref.result.now ≡ c.advance_files.new.feeds.items = c.deref.ensures.value in
          let within : 0 < length c.advance_files.new.feeds.items = omega (arith, c.loop-verifier.invariant.1.1, c.advance_files.ensures.feeds) in
          let at = slice_get_read c.advance_files.new.feeds.items (length c.advance_files.new.feeds.items) 0 c.index.result.now refl within c.index.ensures in
          let below = rounds_below _ _ R c.args.sources.now.items c.advance_files.new.sources.items c.advance_files.new.feeds.items e.taken c.loop-verifier.rounds all c.index.result.now at in
          rw (c.one_more-rounds.ensures (rw c.unit.ensures below))
          (verify_more _ _ R c.args.sources.now.items c.args.spots.now c.advance_files.new.sources.items c.advance_files.new.feeds.items e.taken c.loop-verifier.rounds all e.verified
          (judged_same _ c.args.spots.now _ c.advance_files.new.feeds.items c.loop-verifier.rounds (Ok tt) c.loop-verifier.invariant.0.0 same (a.verifies c.loop-verifier.invariant.0.1))),
    )

pub returns-clause-verifies : goal.returns-clause-verifies
returns-clause-verifies g c R of =
    let e = c.loop-verifier.invariant.2 R of in
    let all = rw c.if-branch.false at c.in_ok-advance_files.ensures.answer R of c.args.sources.now.items e.taken e.waiting in
    verify_done _ _ R c.args.sources.now.items c.args.spots.now c.advance_files.new.sources.items e.taken c.loop-verifier.rounds e.waiting.taken_count e.waiting.rounds e.verified all

pub loop-verifier-smaller : goal.loop-verifier-smaller
loop-verifier-smaller g c =
    let R = there_are_readers.0 in
    let of = there_are_readers.1 in
    let e = c.loop-verifier.invariant.2 R of in
    let all = rw c.if-branch.true at c.in_ok-advance_files.ensures.answer R of c.args.sources.now.items e.taken e.waiting in
    let within : 0 < length c.advance_files.new.feeds.items = omega (arith, c.loop-verifier.invariant.1.1, c.advance_files.ensures.feeds) in
    let at = slice_get_read c.advance_files.new.feeds.items (length c.advance_files.new.feeds.items) 0 c.index.result.now refl within c.index.ensures in
    let below = rounds_below _ _ R c.args.sources.now.items c.advance_files.new.sources.items c.advance_files.new.feeds.items e.taken c.loop-verifier.rounds all c.index.result.now at in
    omega (arith, c.one_more-rounds.ensures (rw c.unit.ensures below), below, c.in_ok-advance_files.ensures.few 0 c.index.result.now at)
