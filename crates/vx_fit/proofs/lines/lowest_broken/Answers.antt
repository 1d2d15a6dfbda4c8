use Rattle.std.proofs.Common.{below_more}
use Rattle.vx_fit.specs.FrameLines.{KeepsLines}
use Rattle.vx_fit.proofs.lines.lowest_broken.Goals as goal

pub loop-k-preserved : goal.loop-k-preserved
loop-k-preserved c = below_more (KeepsLines c.args.corners.now c.args.parts.now) c.loop-k.k c.loop-k.invariant c.if-not-keeps_lines.ensures.keeps

pub returns-then-not-keeps_lines : goal.returns-then-not-keeps_lines
returns-then-not-keeps_lines c = record {
  in_range = c.loop-k-test.true;
  breaks = c.if-not-keeps_lines.ensures.breaks;
  lower = λ j less broken. broken (c.loop-k.invariant j less);
}
