use Rattle.vx_table.proofs.Keepings.{keeps}
use Rattle.vx_calls.proofs.composite.keep.Goals as goal

pub returns : goal.returns
returns c = keeps c.code_composite.new.scope c.code_composite.result c.code_composite.ensures
