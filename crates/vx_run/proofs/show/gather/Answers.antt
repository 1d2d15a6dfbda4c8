use Rattle.std.proofs.Common.{◌≡◌, refl, ◌∙◌, None}
use Rattle.std.proofs.lemmas.Result.{err_from_is_err_and}
use Rattle.vx_run.specs.Show.{teller}
use Rattle.vx_run.proofs.Gathering.{HasGathered-none, HasGathered-more, Gathers-all, Gathers-stopped}
use Rattle.vx_run.proofs.show.gather.Goals as goal

pub loop-next-init : goal.loop-next-init
loop-next-init c = (refl, refl, refl, λ R of g units before fed count. HasGathered-none R (teller c.args.fields c.args.inputs R of) g units before c.args.feed.now c.args.lines.now.items c.args.pictures count fed)

pub returns-in_err-next-clause-answer : goal.returns-in_err-next-clause-answer
returns-in_err-next-clause-answer c R of g units before fed count =
    let p = err_from_is_err_and c.from_residual.result c.from_residual.ensures.1 in
    rw (p.1, p.2)
    (Gathers-stopped R (teller c.args.fields c.args.inputs R of) g units before c.loop-next.feed c.gather_next.new.feed _ _ _ c.loop-next.count _ c.gather_next.ensures.all (c.loop-next.invariant.3 R of g units before fed count) (c.in_err-next.ensures.answer R of g))

pub loop-next-preserved : goal.loop-next-preserved
loop-next-preserved c = (
  c.gather_next.ensures.taken ∙ c.loop-next.invariant.0,
  c.gather_next.ensures.closed ∙ c.loop-next.invariant.1,
  c.gather_next.ensures.all ∙ c.loop-next.invariant.2,
  λ R of g units before fed count.
      HasGathered-more R (teller c.args.fields c.args.inputs R of) g units before c.args.feed.now c.loop-next.feed c.gather_next.new.feed _ _ _ c.loop-next.count c.in-Some.next fed (c.loop-next.invariant.3 R of g units before fed count)
      (λ us b f k. rw c.in-Some.is at c.in_ok-next.ensures.answer R of g us b f k),
)

pub returns-clause-answer : goal.returns-clause-answer
returns-clause-answer c R of g units before fed count =
    let none : c.in_ok-next.field-0 ≡ None = c.in_default.is in
    Gathers-all R (teller c.args.fields c.args.inputs R of) g units before c.loop-next.feed c.gather_next.new.feed _ _ _ c.loop-next.count (c.loop-next.invariant.3 R of g units before fed count)
    (λ us b f k. rw none at c.in_ok-next.ensures.answer R of g us b f k)
