use Rattle.vx_table.proofs.Readings.{reads}
use Rattle.vx_ph.specs.Id.{pps_id_form}
use Rattle.vx_ph.proofs.pps_id.read_pps_id_fields.Goals as goal

pub returns : goal.returns
unfolding pps_id_form
returns c = rw c.new-scope.ensures at (reads c.code_to_id.new.scope c.code_to_id.result c.code_to_id.ensures)
