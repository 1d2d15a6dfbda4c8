use Rattle.vx_table.proofs.Readings.{reads}
use Rattle.vx_ph.proofs.unit.read_unit.Goals as goal

pub returns : goal.returns
returns c = reads c.code_unit.new.scope c.code_unit.result c.code_unit.ensures
