use Rattle.std.proofs.Common.{below_more, arith}
use Rattle.vx_fit.specs.FitFaults.{ComesTooEarly}
use Rattle.vx_fit.proofs.regions.lowest_early.Goals as goal

pub loop-k-preserved : goal.loop-k-preserved
loop-k-preserved c = below_more (λ j. ¬ ComesTooEarly c.args.placed.now c.args.ctb j) c.loop-k.k c.loop-k.invariant c.if-comes_too_early.ensures.fine

pub returns : goal.returns
returns c = λ k short. c.loop-k.invariant k (omega arith)
