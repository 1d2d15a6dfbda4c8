use Rattle.vx_table.proofs.Readings.{reads}
use Rattle.vx_calls.proofs.composite.read.Goals as goal

pub returns : goal.returns
returns c = reads c.code_composite.new.scope c.code_composite.result c.code_composite.ensures
