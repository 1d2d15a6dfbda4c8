use Rattle.vx_table.proofs.Writings.{writes}
use Rattle.vx_ph.proofs.write.write_unit.Goals as goal

pub returns : goal.returns
returns c = writes c.code_unit.new.scope c.code_unit.result c.code_unit.ensures
