use Rattle.vx_table.proofs.PassingOver.{passes}
use Rattle.vx_calls.proofs.composite.pass.Goals as goal

pub returns : goal.returns
returns c = passes c.code_composite.new.scope c.code_composite.result c.code_composite.ensures
