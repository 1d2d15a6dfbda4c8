-- The law, from its parts.
use Rattle.vx_gen.proofs.Limits.{none_barred}
use Rattle.vx_gen.proofs.laws.generated_are_not_barred.Goals as goal

pub returns : goal.returns
returns c = none_barred (record {
  escaped = c.escaped_is_short.ensures;
  signals = c.reshaped_signals.ensures;
  sps = c.spelling_is_short.ensures;
  pps = c.spelling_is_short-2.ensures;
  header = c.spelling_is_short-3.ensures.short;
  bounded = c.spelling_is_short-3.ensures.sets;
  slice = c.spelling_is_short-4.ensures.short;
  numbers = c.spelling_is_short-4.ensures.numbers;
}) c.verdict_is_one.ensures c.generated_break_no_rule.ensures
