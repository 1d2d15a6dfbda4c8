use Rattle.vx_table.proofs.Keepings.{keeps}
use Rattle.vx_sps.proofs.read.keep_fields.Goals as goal

pub returns : goal.returns
returns c = keeps c.code_sps.new.scope c.code_sps.result (rw c.new.ensures at c.code_sps.ensures)
