use Rattle.std.proofs.Common.{◌-◌, sym, ◌∙◌}
use Rattle.vx_pps.proofs.Told.{number-none}
use Rattle.vx_pps.proofs.pps.number_at.Goals as goal

pub returns : goal.returns
returns c = sym (c.loop-i.invariant.1 ∙ number-none c.args.fields.now c.args.field (c.args.index - c.loop-i.before) c.loop-i.i (rw c.len-i-end.ensures at c.loop-i-test.false))
