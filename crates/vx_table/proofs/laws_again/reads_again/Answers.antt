use Rattle.vx_table.proofs.Again.{reads_again, stops_again}
use Rattle.vx_table.proofs.laws_again.reads_again.Goals as goal

pub returns : goal.returns
returns c = record { values = reads_again; fronts = stops_again }
