use Rattle.vx_table.proofs.Writings.{writes}
use Rattle.vx_ph.proofs.write.write_fields.Goals as goal

pub returns : goal.returns
returns c = writes c.code_header.new.scope c.code_header.result c.code_header.ensures
