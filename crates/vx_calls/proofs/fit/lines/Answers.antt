use Rattle.std.proofs.Common.{◌∙◌, arith}
use Rattle.vx_calls.proofs.fit.lines.Goals as goal

pub fit_lines-requires-clause-fitted : goal.fit_lines-requires-clause-fitted
fit_lines-requires-clause-fitted c = record {
  placed = c.args.placed.now;
  ctb = 32;
  some = omega arith;
  fit = c.in_ok-_size.ensures.fit;
  ctus = c.deref-2.ensures.value ∙ c.in_ok-corners.ensures;
}
