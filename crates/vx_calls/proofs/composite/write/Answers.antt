use Rattle.vx_table.proofs.Writings.{writes}
use Rattle.vx_calls.proofs.composite.write.Goals as goal

pub returns : goal.returns
returns c = writes c.code_composite.new.scope c.code_composite.result c.code_composite.ensures
