use Rattle.vx_extract.proofs.WholeUnits.{units_read_again}
use Rattle.vx_extract.proofs.laws_whole.extracted_units_read_again.Goals as goal

pub returns : goal.returns
returns c = units_read_again c.rewritten_make_region.ensures.made c.pictures_are_finished.ensures c.kept_are_finished.ensures c.pictures_are_ready.ensures c.extracted_reads_again.ensures c.all_keep_inputs.ensures.inputs c.all_keep_inputs.ensures.messages
