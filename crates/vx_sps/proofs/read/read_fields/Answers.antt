use Rattle.vx_table.proofs.Readings.{reads}
use Rattle.vx_sps.proofs.read.read_fields.Goals as goal

pub returns : goal.returns
returns c = reads c.code_sps.new.scope c.code_sps.result (rw c.new.ensures at c.code_sps.ensures)
