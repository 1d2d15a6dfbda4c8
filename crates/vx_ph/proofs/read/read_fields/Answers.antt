use Rattle.vx_table.proofs.Readings.{reads}
use Rattle.vx_ph.proofs.read.read_fields.Goals as goal

pub returns : goal.returns
returns c = reads c.code_header.new.scope c.code_header.result c.code_header.ensures
