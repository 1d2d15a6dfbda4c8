use Rattle.std.proofs.Common.{◌≡◌, ◌<◌, ◌≤◌, ◌∙◌, ℕ, List, Ok, Err, length, inl, sym, ap, subst, arith, refl}
use Rattle.std.specs.Prelude.{All}
use Rattle.std.proofs.lemmas.List.{length-replicate}
use Rattle.std.proofs.lemmas.Result.{err_from_is_err_and}
use Rattle.vx_assemble.specs.Feed.{Feeding}
use Rattle.vx_assemble.specs.Held.{HasPicture}
use Rattle.vx_frame.specs.declared.corner.Corner.{Corner}
use Rattle.vx_pic.proofs.Existing.{there_are_readers}
use Rattle.vx_play.specs.Scheduled.{Scheduled, regions_counted}
use Rattle.vx_run.proofs.Playing.{advance_below, advance_done, advance_holds, advance_stops, play_unmade, round_goes, round_stops}
use Rattle.vx_run.proofs.PlayRounds.{has_asked, moved_since, play_begins, played_same, plays_so, stayed_since}
use Rattle.vx_run.proofs.play.play_by.Goals as goal

pub loop-ended-init : goal.loop-ended-init
loop-ended-init g c =
    let s = c.args.schedule.now in
    let is = c.requires.begins in
    let feeds = c.in_ok-feeds.feeds.items in
    let fits : length feeds ≡ length c.args.merger.now.corners = omega (arith, c.in_ok-feeds.ensures.count, c.requires.count) in (
      (refl, refl),
      (c.requires.sources, omega (arith, fits), omega (arith, c.in_ok-ended.ensures, c.requires.count)),
      (refl, ap (λ (x : Scheduled). length x.gone) is ∙ length-replicate (regions_counted s.regions) 0 ∙ c.requires.regions, inl (refl, ap (λ (x : Scheduled). x.last) is)),
      λ R of. play_begins _ _ g.K.Sink.bytes_taken g.K.Sink.write_faults R c.args.sources.now.items c.args.out.now c.args.merger.now.corners c.args.merger.now.level s.regions s is (omega (arith, c.requires.sources)) c.requires.regions feeds c.args.merger.now fits c.in_ok-feeds.ensures.unfed c.requires.stands,
    )

-- there was no memory to begin
pub returns-in_err-feeds-clause-plays : goal.returns-in_err-feeds-clause-plays
returns-in_err-feeds-clause-plays g c R of =
    let p = err_from_is_err_and c.from_residual.result c.from_residual.ensures.1 in
    rw (p.1, p.2) (play_unmade _ _ g.K.Sink.bytes_taken g.K.Sink.write_faults R c.args.sources.now.items c.args.out.now c.args.merger.now.corners c.args.merger.now.level c.args.schedule.now.regions)

pub returns-in_err-ended-clause-plays : goal.returns-in_err-ended-clause-plays
returns-in_err-ended-clause-plays g c R of =
    let p = err_from_is_err_and c.from_residual-in_err-ended.result c.from_residual-in_err-ended.ensures.1 in
    rw (p.1, p.2) (play_unmade _ _ g.K.Sink.bytes_taken g.K.Sink.write_faults R c.args.sources.now.items c.args.out.now c.args.merger.now.corners c.args.merger.now.level c.args.schedule.now.regions)

pub advance_regions-requires : goal.advance_regions-requires
advance_regions-requires g c =
    let own = ap (λ (x : List ℕ). length x) c.loop-ended.invariant.2.0 in
    record {
      some = omega (arith, c.loop-ended.invariant.1.1, c.requires.corners.some);
      few = omega (arith, c.loop-ended.invariant.1.1, c.requires.corners.few);
      files = omega (arith, own, c.loop-ended.invariant.1.0);
      sources = omega (arith, c.loop-ended.invariant.1.0, c.requires.few);
      regions = omega (arith, c.loop-ended.invariant.2.1, c.loop-ended.invariant.1.1);
      ended = omega (arith, c.loop-ended.invariant.1.1, c.loop-ended.invariant.1.2);
    }

-- a region, or their lengths, ended it
pub returns-in_err-advance_regions-clause-plays : goal.returns-in_err-advance_regions-clause-plays
returns-in_err-advance_regions-clause-plays g c R of =
    let p = err_from_is_err_and c.from_residual-in_err-advance_regions.result c.from_residual-in_err-advance_regions.ensures.1 in
    let first = c.args.sources.now.items in
    let s = c.loop-ended.schedule in
    let own : s.regions ≡ c.args.schedule.now.regions = c.loop-ended.invariant.2.0 in
    let many : length s.regions ≡ length first = omega (arith, ap (λ (x : List ℕ). length x) own, c.requires.sources) in
    let enough : regions_counted s.regions ≡ length c.args.merger.now.corners = ap regions_counted own ∙ c.requires.regions in
    let l' = c.advance_regions.new.sources.items in
    let s' = c.advance_regions.new.schedule in
    let fs = c.advance_regions.new.feeds.items in
    let fits : length fs ≡ length c.args.merger.now.corners = omega (arith, c.advance_regions.ensures.feeds, c.loop-ended.invariant.1.1) in
    let alike : length fs ≡ length c.loop-ended.feeds.items = omega (arith, c.advance_regions.ensures.feeds) in
    let flags : length c.advance_regions.new.ended.items ≡ length fs = omega (arith, fits, c.advance_regions.ensures.ended, c.loop-ended.invariant.1.2) in
    let e = c.loop-ended.invariant.3 R of in
    rw (p.1, p.2) (plays_so _ _ g.K.Sink.bytes_taken g.K.Sink.write_faults R first c.args.out.now c.args.merger.now.corners c.args.merger.now.level s.regions c.args.schedule.now.regions l' c.loop-ended.out (Err c.in_err-advance_regions.field-0.0) own
    (advance_stops _ _ g.K.Sink.bytes_taken g.K.Sink.write_faults R first c.args.out.now c.args.merger.now.corners c.args.merger.now.level s many enough c.loop-ended.sources.items l' s' c.loop-ended.feeds.items fs c.advance_regions.new.ended.items fits alike flags c.loop-ended.rounds c.loop-ended.out c.loop-ended.merger e c.in_err-advance_regions.field-0.0 (c.in_err-advance_regions.ensures.answer R of first e.passed e.own e.placed)))

pub play_round-requires : goal.play_round-requires
play_round-requires g c =
    let R = there_are_readers.0 in
    let of = there_are_readers.1 in
    let first = c.args.sources.now.items in
    let s = c.loop-ended.schedule in
    let own : s.regions ≡ c.args.schedule.now.regions = c.loop-ended.invariant.2.0 in
    let many : length s.regions ≡ length first = omega (arith, ap (λ (x : List ℕ). length x) own, c.requires.sources) in
    let enough : regions_counted s.regions ≡ length c.args.merger.now.corners = ap regions_counted own ∙ c.requires.regions in
    let l' = c.advance_regions.new.sources.items in
    let s' = c.advance_regions.new.schedule in
    let fs = c.advance_regions.new.feeds.items in
    let fits : length fs ≡ length c.args.merger.now.corners = omega (arith, c.advance_regions.ensures.feeds, c.loop-ended.invariant.1.1) in
    let alike : length fs ≡ length c.loop-ended.feeds.items = omega (arith, c.advance_regions.ensures.feeds) in
    let flags : length c.advance_regions.new.ended.items ≡ length fs = omega (arith, fits, c.advance_regions.ensures.ended, c.loop-ended.invariant.1.2) in
    let e = c.loop-ended.invariant.3 R of in
    let by = rw c.if-branch.true at c.in_ok-advance_regions.ensures.answer R of first e.passed e.own e.placed in
    let same : c.deref.result.now ≡ fs = c.deref.ensures.value in
    record {
      count = omega (arith, fits, ap (λ (l : List Feeding). length l) same, ap (λ (l : List Corner). length l) c.loop-ended.invariant.0.0);
      holds = subst (λ (l : List Feeding). All (λ (f : Feeding). HasPicture f.assembler) l) (sym same) (advance_holds _ _ g.K.Sink.bytes_taken g.K.Sink.write_faults R first c.args.out.now c.args.merger.now.corners c.args.merger.now.level s many enough c.loop-ended.sources.items l' s' c.loop-ended.feeds.items fs c.advance_regions.new.ended.items fits alike flags c.loop-ended.rounds c.loop-ended.out c.loop-ended.merger e by);
    }

-- a round did
pub returns-in_err-play_round-clause-plays : goal.returns-in_err-play_round-clause-plays
returns-in_err-play_round-clause-plays g c R of =
    let p = err_from_is_err_and c.from_residual-in_err-play_round.result c.from_residual-in_err-play_round.ensures.1 in
    let first = c.args.sources.now.items in
    let s = c.loop-ended.schedule in
    let own : s.regions ≡ c.args.schedule.now.regions = c.loop-ended.invariant.2.0 in
    let many : length s.regions ≡ length first = omega (arith, ap (λ (x : List ℕ). length x) own, c.requires.sources) in
    let enough : regions_counted s.regions ≡ length c.args.merger.now.corners = ap regions_counted own ∙ c.requires.regions in
    let l' = c.advance_regions.new.sources.items in
    let s' = c.advance_regions.new.schedule in
    let fs = c.advance_regions.new.feeds.items in
    let fits : length fs ≡ length c.args.merger.now.corners = omega (arith, c.advance_regions.ensures.feeds, c.loop-ended.invariant.1.1) in
    let alike : length fs ≡ length c.loop-ended.feeds.items = omega (arith, c.advance_regions.ensures.feeds) in
    let flags : length c.advance_regions.new.ended.items ≡ length fs = omega (arith, fits, c.advance_regions.ensures.ended, c.loop-ended.invariant.1.2) in
    let e = c.loop-ended.invariant.3 R of in
    let by = rw c.if-branch.true at c.in_ok-advance_regions.ensures.answer R of first e.passed e.own e.placed in
    let gone : length s.gone ≡ length fs = omega (arith, c.loop-ended.invariant.2.1, fits) in
    let moved = moved_since c.loop-ended.rounds s s' c.loop-ended.invariant.2.2 c.advance_regions.ensures.schedule.last c.is_join.result c.is_join.ensures.join in
    let stayed = stayed_since c.loop-ended.rounds s s' c.loop-ended.invariant.2.2 c.advance_regions.ensures.schedule.last c.is_join.result c.is_join.ensures.same in
    let same : c.deref.result.now ≡ fs = c.deref.ensures.value in
    rw (p.1, p.2) (plays_so _ _ g.K.Sink.bytes_taken g.K.Sink.write_faults R first c.args.out.now c.args.merger.now.corners c.args.merger.now.level s.regions c.args.schedule.now.regions l' c.play_round.new.out (Err c.in_err-play_round.field-0.0) own
    (round_stops _ _ g.K.Sink.bytes_taken g.K.Sink.write_faults R first c.args.out.now c.args.merger.now.corners c.args.merger.now.level s many enough c.loop-ended.sources.items l' s' c.loop-ended.feeds.items fs c.advance_regions.new.ended.items fits alike flags c.loop-ended.rounds c.loop-ended.out c.loop-ended.merger e by c.is_join.result gone c.advance_regions.ensures.schedule.count moved stayed c.play_round.new.out c.play_round.new.merger c.loop-ended.invariant.0.0 c.loop-ended.invariant.0.1 c.play_round.ensures.task c.in_err-play_round.field-0.0
    (played_same g.K.Sink.bytes_taken g.K.Sink.write_faults c.loop-ended.out c.play_round.new.out c.is_join.result c.loop-ended.merger c.play_round.new.merger c.loop-ended.rounds (Err c.in_err-play_round.field-0.0) c.deref.result.now fs same c.in_err-play_round.ensures.plays)))

pub loop-ended-preserved : goal.loop-ended-preserved
loop-ended-preserved g c =
    let first = c.args.sources.now.items in
    let s = c.loop-ended.schedule in
    let own : s.regions ≡ c.args.schedule.now.regions = c.loop-ended.invariant.2.0 in
    let many : length s.regions ≡ length first = omega (arith, ap (λ (x : List ℕ). length x) own, c.requires.sources) in
    let enough : regions_counted s.regions ≡ length c.args.merger.now.corners = ap regions_counted own ∙ c.requires.regions in
    let l' = c.advance_regions.new.sources.items in
    let s' = c.advance_regions.new.schedule in
    let fs = c.advance_regions.new.feeds.items in
    let fits : length fs ≡ length c.args.merger.now.corners = omega (arith, c.advance_regions.ensures.feeds, c.loop-ended.invariant.1.1) in
    let alike : length fs ≡ length c.loop-ended.feeds.items = omega (arith, c.advance_regions.ensures.feeds) in
    let flags : length c.advance_regions.new.ended.items ≡ length fs = omega (arith, fits, c.advance_regions.ensures.ended, c.loop-ended.invariant.1.2) in
    let some : 0 < length fs = omega (arith, fits, c.requires.corners.some) in
    let few : length s.regions ≤ 256 = omega (arith, ap (λ (x : List ℕ). length x) own, c.requires.few) in
    let below =
    let e = c.loop-ended.invariant.3 there_are_readers.0 there_are_readers.1 in
    let by = rw c.if-branch.true at c.in_ok-advance_regions.ensures.answer there_are_readers.0 there_are_readers.1 first e.passed e.own e.placed in
    advance_below _ _ g.K.Sink.bytes_taken g.K.Sink.write_faults there_are_readers.0 first c.args.out.now c.args.merger.now.corners c.args.merger.now.level s many enough c.loop-ended.sources.items l' s' c.loop-ended.feeds.items fs c.advance_regions.new.ended.items fits alike flags c.loop-ended.rounds c.loop-ended.out c.loop-ended.merger e by some few in
    let a = c.in_ok-play_round.ensures in
    let asked = c.is_join.ensures.asked in (
      (a.task.corners ∙ c.loop-ended.invariant.0.0, a.task.level ∙ c.loop-ended.invariant.0.1),
      (omega (arith, c.loop-ended.invariant.1.0, c.advance_regions.ensures.list), omega (arith, fits), omega (arith, flags, fits)),
      (
        ap (λ (x : Scheduled). x.regions) asked ∙ c.advance_regions.ensures.schedule.regions ∙ own,
        omega (arith, ap (λ (x : Scheduled). length x.gone) asked, c.advance_regions.ensures.schedule.count, c.loop-ended.invariant.2.1),
        rw (c.one_more-rounds.ensures below) (has_asked c.loop-ended.rounds s' c.is_join.new.self asked),
      ),
      λ R of.
          let e = c.loop-ended.invariant.3 R of in
          let by = rw c.if-branch.true at c.in_ok-advance_regions.ensures.answer R of first e.passed e.own e.placed in
          let gone : length s.gone ≡ length fs = omega (arith, c.loop-ended.invariant.2.1, fits) in
          let moved = moved_since c.loop-ended.rounds s s' c.loop-ended.invariant.2.2 c.advance_regions.ensures.schedule.last c.is_join.result c.is_join.ensures.join in
          let stayed = stayed_since c.loop-ended.rounds s s' c.loop-ended.invariant.2.2 c.advance_regions.ensures.schedule.last c.is_join.result c.is_join.ensures.same in
          let same : c.deref.result.now ≡ fs = c.deref.ensures.value in
          rw (c.one_more-rounds.ensures below) (round_goes _ _ g.K.Sink.bytes_taken g.K.Sink.write_faults R first c.args.out.now c.args.merger.now.corners c.args.merger.now.level s many enough c.loop-ended.sources.items l' s' c.loop-ended.feeds.items fs c.advance_regions.new.ended.items fits alike flags c.loop-ended.rounds c.loop-ended.out c.loop-ended.merger e by c.is_join.result gone c.advance_regions.ensures.schedule.count moved stayed c.play_round.new.out c.play_round.new.merger c.loop-ended.invariant.0.0 c.loop-ended.invariant.0.1 c.play_round.ensures.task c.is_join.new.self (ap (λ (x : Scheduled). x.regions) asked ∙ c.advance_regions.ensures.schedule.regions) (ap (λ (x : Scheduled). x.gone) asked)
          (played_same g.K.Sink.bytes_taken g.K.Sink.write_faults c.loop-ended.out c.play_round.new.out c.is_join.result c.loop-ended.merger c.play_round.new.merger c.loop-ended.rounds (Ok tt) c.deref.result.now fs same a.plays)),
    )

pub loop-ended-smaller : goal.loop-ended-smaller
loop-ended-smaller g c =
    let first = c.args.sources.now.items in
    let s = c.loop-ended.schedule in
    let own : s.regions ≡ c.args.schedule.now.regions = c.loop-ended.invariant.2.0 in
    let many : length s.regions ≡ length first = omega (arith, ap (λ (x : List ℕ). length x) own, c.requires.sources) in
    let enough : regions_counted s.regions ≡ length c.args.merger.now.corners = ap regions_counted own ∙ c.requires.regions in
    let l' = c.advance_regions.new.sources.items in
    let s' = c.advance_regions.new.schedule in
    let fs = c.advance_regions.new.feeds.items in
    let fits : length fs ≡ length c.args.merger.now.corners = omega (arith, c.advance_regions.ensures.feeds, c.loop-ended.invariant.1.1) in
    let alike : length fs ≡ length c.loop-ended.feeds.items = omega (arith, c.advance_regions.ensures.feeds) in
    let flags : length c.advance_regions.new.ended.items ≡ length fs = omega (arith, fits, c.advance_regions.ensures.ended, c.loop-ended.invariant.1.2) in
    let some : 0 < length fs = omega (arith, fits, c.requires.corners.some) in
    let few : length s.regions ≤ 256 = omega (arith, ap (λ (x : List ℕ). length x) own, c.requires.few) in
    let below =
    let e = c.loop-ended.invariant.3 there_are_readers.0 there_are_readers.1 in
    let by = rw c.if-branch.true at c.in_ok-advance_regions.ensures.answer there_are_readers.0 there_are_readers.1 first e.passed e.own e.placed in
    advance_below _ _ g.K.Sink.bytes_taken g.K.Sink.write_faults there_are_readers.0 first c.args.out.now c.args.merger.now.corners c.args.merger.now.level s many enough c.loop-ended.sources.items l' s' c.loop-ended.feeds.items fs c.advance_regions.new.ended.items fits alike flags c.loop-ended.rounds c.loop-ended.out c.loop-ended.merger e by some few in
    omega (arith, c.one_more-rounds.ensures below, below)

-- all have ended
pub returns-clause-plays : goal.returns-clause-plays
returns-clause-plays g c R of =
    let first = c.args.sources.now.items in
    let s = c.loop-ended.schedule in
    let own : s.regions ≡ c.args.schedule.now.regions = c.loop-ended.invariant.2.0 in
    let many : length s.regions ≡ length first = omega (arith, ap (λ (x : List ℕ). length x) own, c.requires.sources) in
    let enough : regions_counted s.regions ≡ length c.args.merger.now.corners = ap regions_counted own ∙ c.requires.regions in
    let l' = c.advance_regions.new.sources.items in
    let s' = c.advance_regions.new.schedule in
    let fs = c.advance_regions.new.feeds.items in
    let fits : length fs ≡ length c.args.merger.now.corners = omega (arith, c.advance_regions.ensures.feeds, c.loop-ended.invariant.1.1) in
    let alike : length fs ≡ length c.loop-ended.feeds.items = omega (arith, c.advance_regions.ensures.feeds) in
    let flags : length c.advance_regions.new.ended.items ≡ length fs = omega (arith, fits, c.advance_regions.ensures.ended, c.loop-ended.invariant.1.2) in
    let e = c.loop-ended.invariant.3 R of in
    plays_so _ _ g.K.Sink.bytes_taken g.K.Sink.write_faults R first c.args.out.now c.args.merger.now.corners c.args.merger.now.level s.regions c.args.schedule.now.regions l' c.loop-ended.out (Ok tt) own
    (advance_done _ _ g.K.Sink.bytes_taken g.K.Sink.write_faults R first c.args.out.now c.args.merger.now.corners c.args.merger.now.level s many enough c.loop-ended.sources.items l' s' c.loop-ended.feeds.items fs c.advance_regions.new.ended.items fits alike flags c.loop-ended.rounds c.loop-ended.out c.loop-ended.merger e (rw c.if-branch.false at c.in_ok-advance_regions.ensures.answer R of first e.passed e.own e.placed))
