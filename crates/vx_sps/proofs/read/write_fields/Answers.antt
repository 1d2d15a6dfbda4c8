use Rattle.vx_table.proofs.Writings.{writes}
use Rattle.vx_sps.proofs.read.write_fields.Goals as goal

pub returns : goal.returns
returns c = writes c.code_sps.new.scope c.code_sps.result (rw c.new.ensures at c.code_sps.ensures)
