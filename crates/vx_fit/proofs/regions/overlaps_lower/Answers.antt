use Rattle.std.proofs.Common.{below_more, sym, ◌∙◌, arith}
use Rattle.vx_fit.specs.FitFaults.{region_at}
use Rattle.vx_fit.specs.Placing.{Overlap}
use Rattle.vx_fit.proofs.Overlapping.{Overlap-from, Overlap-refuted}
use Rattle.vx_fit.proofs.regions.overlaps_lower.Goals as goal

pub returns-then-overlaps-clause-some : goal.returns-then-overlaps-clause-some
returns-then-overlaps-clause-some c = (c.loop-j.j, c.loop-j-test.true, Overlap-from _ _ (sym c.overlaps.ensures ∙ c.if-overlaps.true))

pub loop-j-preserved : goal.loop-j-preserved
loop-j-preserved c =
    below_more (λ i. ¬ Overlap (region_at c.args.placed.now i) (region_at c.args.placed.now c.args.k)) c.loop-j.j c.loop-j.invariant
    (Overlap-refuted _ _ (sym c.overlaps.ensures ∙ c.if-overlaps.false))

pub returns-clause-none : goal.returns-clause-none
returns-clause-none c = λ some. c.loop-j.invariant some.0 (omega (arith, some.1)) some.2
