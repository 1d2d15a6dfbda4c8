use Rattle.std.proofs.Common.{below_more, arith}
use Rattle.vx_fit.specs.FitFaults.{OverlapsLower}
use Rattle.vx_fit.proofs.regions.lowest_overlap.Goals as goal

pub loop-k-preserved : goal.loop-k-preserved
loop-k-preserved c = below_more (λ j. ¬ OverlapsLower c.args.placed.now j) c.loop-k.k c.loop-k.invariant c.if-overlaps_lower.ensures.none

pub returns : goal.returns
returns c = λ k short. c.loop-k.invariant k (omega arith)
