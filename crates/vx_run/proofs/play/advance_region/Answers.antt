use Rattle.std.proofs.Common.{◌≡◌, ◌<◌, ◌∙◌, ℕ, List, Bool, Result, Ok, Some, None, length, slice_get, slice_index, sym, ap, subst, arith}
use Rattle.std.proofs.lemmas.Option.{slice_get_within}
use Rattle.std.proofs.lemmas.Result.{err_from_is_err_and}
use Rattle.vx_play.specs.Scheduled.{files_of_region}
use Rattle.vx_run.specs.declared.stop.Stop.{Stop}
use Rattle.vx_run.proofs.RegionAdvances.{current_here, current_within, gone_more, one_gone, region_next, region_read, region_stops, region_takes, rest_stays}
use Rattle.vx_run.proofs.RegionSteps.{on_ends}
use Rattle.vx_run.proofs.play.advance_region.Goals as goal

-- it is at a file
pub index_mut-requires : goal.index_mut-requires
index_mut-requires g c =
    let within = current_within c.args.schedule.now c.loop-file.schedule c.args.k c.in-Some.file c.loop-file.invariant.1 (sym c.current.ensures ∙ c.in-Some.is) in
    omega (arith, within, c.requires.files, c.loop-file.invariant.0)

pub overflow_cast-file-in-Some : goal.overflow_cast-file-in-Some
overflow_cast-file-in-Some g c =
    let within = current_within c.args.schedule.now c.loop-file.schedule c.args.k c.in-Some.file c.loop-file.invariant.1 (sym c.current.ensures ∙ c.in-Some.is) in
    omega (arith, within, c.requires.files, c.requires.sources)

-- it stopped there
pub returns-in_err-advance-clause-answer : goal.returns-in_err-advance-clause-answer
returns-in_err-advance-clause-answer g c R of first passed own at few place =
    let p = err_from_is_err_and c.from_residual.result c.from_residual.ensures.1 in
    let s = c.args.schedule.now in
    let s' = c.loop-file.schedule in
    let file = c.in-Some.file in
    let is : slice_get (files_of_region s'.regions c.args.k) (slice_index s'.gone c.args.k) ≡ Some file = sym c.current.ensures ∙ c.in-Some.is in
    let within : file < length c.loop-file.sources.items = omega (arith, current_within s s' c.args.k file c.loop-file.invariant.1 is, c.requires.files, c.loop-file.invariant.0) in
    let on = c.loop-file.invariant.3 R of first passed own at few place in
    rw (p.1, p.2) (region_stops s s' c.args.k file c.loop-file.invariant.1 is _ _ R first c.loop-file.sources.items c.index_mut.result.now c.advance.new.source within c.index_mut.ensures.value c.loop-file.feed c.advance.new.feed c.advance.ensures.end passed own on c.in_err-advance.field-0.0 (c.in_err-advance.ensures.answer R of))

pub returns-in_err-advance-clause-rest : goal.returns-in_err-advance-clause-rest
returns-in_err-advance-clause-rest g c =
    let s = c.args.schedule.now in
    let s' = c.loop-file.schedule in
    let file = c.in-Some.file in
    let is : slice_get (files_of_region s'.regions c.args.k) (slice_index s'.gone c.args.k) ≡ Some file = sym c.current.ensures ∙ c.in-Some.is in
    λ j other. rest_stays s s' c.args.k file c.loop-file.invariant.1 is c.loop-file.sources.items c.advance.new.source j other ∙ c.loop-file.invariant.2 j other

-- it has a picture
pub returns-then-branch-clause-answer : goal.returns-then-branch-clause-answer
returns-then-branch-clause-answer g c R of first passed own at few place =
    let s = c.args.schedule.now in
    let s' = c.loop-file.schedule in
    let file = c.in-Some.file in
    let is : slice_get (files_of_region s'.regions c.args.k) (slice_index s'.gone c.args.k) ≡ Some file = sym c.current.ensures ∙ c.in-Some.is in
    let within : file < length c.loop-file.sources.items = omega (arith, current_within s s' c.args.k file c.loop-file.invariant.1 is, c.requires.files, c.loop-file.invariant.0) in
    let on = c.loop-file.invariant.3 R of first passed own at few place in
    region_takes s s' c.args.k file c.loop-file.invariant.1 is _ _ R first c.loop-file.sources.items c.index_mut.result.now c.advance.new.source within c.index_mut.ensures.value c.loop-file.feed c.advance.new.feed c.advance.ensures.end passed own on (c.in_ok-advance.ensures.lent (ap (λ (b : Bool). let r : Result Bool Stop = Ok b in r) c.if-branch.true)) c.in_ok-advance.ensures.few (λ b units readings fed needed. rw c.if-branch.true at c.in_ok-advance.ensures.answer R of b units readings fed needed)

pub returns-then-branch-clause-rest : goal.returns-then-branch-clause-rest
returns-then-branch-clause-rest g c =
    let s = c.args.schedule.now in
    let s' = c.loop-file.schedule in
    let file = c.in-Some.file in
    let is : slice_get (files_of_region s'.regions c.args.k) (slice_index s'.gone c.args.k) ≡ Some file = sym c.current.ensures ∙ c.in-Some.is in
    λ j other. rest_stays s s' c.args.k file c.loop-file.invariant.1 is c.loop-file.sources.items c.advance.new.source j other ∙ c.loop-file.invariant.2 j other

-- it has ended, and there was no memory for the next one
pub returns-in_err-renew-clause-answer : goal.returns-in_err-renew-clause-answer
returns-in_err-renew-clause-answer g c R of first passed own at few place =
    let p = err_from_is_err_and c.from_residual-in_err-renew.result c.from_residual-in_err-renew.ensures.1 in
    let s = c.args.schedule.now in
    let s' = c.loop-file.schedule in
    let file = c.in-Some.file in
    let is : slice_get (files_of_region s'.regions c.args.k) (slice_index s'.gone c.args.k) ≡ Some file = sym c.current.ensures ∙ c.in-Some.is in
    let within : file < length c.loop-file.sources.items = omega (arith, current_within s s' c.args.k file c.loop-file.invariant.1 is, c.requires.files, c.loop-file.invariant.0) in
    let on = c.loop-file.invariant.3 R of first passed own at few place in
    rw (p.1, p.2) (region_read s s' c.args.k file c.loop-file.invariant.1 is _ _ R first c.loop-file.sources.items c.index_mut.result.now c.advance.new.source within c.index_mut.ensures.value c.loop-file.feed c.advance.new.feed c.advance.ensures.end passed own on (λ b units readings fed needed. rw c.if-branch.false at c.in_ok-advance.ensures.answer R of b units readings fed needed))

pub returns-in_err-renew-clause-rest : goal.returns-in_err-renew-clause-rest
returns-in_err-renew-clause-rest g c =
    let s = c.args.schedule.now in
    let s' = c.loop-file.schedule in
    let file = c.in-Some.file in
    let is : slice_get (files_of_region s'.regions c.args.k) (slice_index s'.gone c.args.k) ≡ Some file = sym c.current.ensures ∙ c.in-Some.is in
    λ j other. rest_stays s s' c.args.k file c.loop-file.invariant.1 is c.loop-file.sources.items c.advance.new.source j other ∙ c.loop-file.invariant.2 j other

pub loop-file-smaller : goal.loop-file-smaller
loop-file-smaller g c =
    let s = c.args.schedule.now in
    let s' = c.loop-file.schedule in
    let file = c.in-Some.file in
    let is : slice_get (files_of_region s'.regions c.args.k) (slice_index s'.gone c.args.k) ≡ Some file = sym c.current.ensures ∙ c.in-Some.is in
    let more = gone_more s s' c.ended.new.self c.args.k c.loop-file.invariant.1 c.ended.ensures c.requires.region in
    omega (arith, more, slice_get_within (files_of_region s.regions c.args.k) (slice_index s'.gone c.args.k) file (current_here s s' c.args.k file c.loop-file.invariant.1 is))

pub loop-file-preserved : goal.loop-file-preserved
loop-file-preserved g c =
    let s = c.args.schedule.now in
    let s' = c.loop-file.schedule in
    let file = c.in-Some.file in
    let is : slice_get (files_of_region s'.regions c.args.k) (slice_index s'.gone c.args.k) ≡ Some file = sym c.current.ensures ∙ c.in-Some.is in
    let within : file < length c.loop-file.sources.items = omega (arith, current_within s s' c.args.k file c.loop-file.invariant.1 is, c.requires.files, c.loop-file.invariant.0) in (
      omega (arith, c.loop-file.invariant.0),
      one_gone s s' c.ended.new.self c.args.k c.loop-file.invariant.1 c.ended.ensures,
      λ j other. rest_stays s s' c.args.k file c.loop-file.invariant.1 is c.loop-file.sources.items c.advance.new.source j other ∙ c.loop-file.invariant.2 j other,
      λ R of first passed own at few place.
          let on = c.loop-file.invariant.3 R of first passed own at few place in
          region_next s s' c.args.k file c.loop-file.invariant.1 is _ _ R first c.loop-file.sources.items c.index_mut.result.now c.advance.new.source within c.index_mut.ensures.value c.loop-file.feed c.advance.new.feed c.advance.ensures.end passed own on c.renew.new.feed c.in_ok-renew.ensures (slice_index c.ended.new.self.gone c.args.k)
          (gone_more s s' c.ended.new.self c.args.k c.loop-file.invariant.1 c.ended.ensures c.requires.region) (λ b units readings fed needed. rw c.if-branch.false at c.in_ok-advance.ensures.answer R of b units readings fed needed),
    )

-- it is behind all of its files
pub returns-clause-answer : goal.returns-clause-answer
returns-clause-answer g c R of first passed own at few place =
    let s = c.args.schedule.now in
    let s' = c.loop-file.schedule in
    let js = files_of_region s.regions c.args.k in
    let none : slice_get js (slice_index s'.gone c.args.k) ≡ None = subst (λ (r : List ℕ). slice_get (files_of_region r c.args.k) (slice_index s'.gone c.args.k) ≡ None) c.loop-file.invariant.1.regions (sym c.current.ensures ∙ c.in_default.is) in
    on_ends _ _ R first c.loop-file.sources.items js (slice_index s.gone c.args.k) (slice_index s'.gone c.args.k) c.loop-file.feed passed own (c.loop-file.invariant.3 R of first passed own at few place) none
