use Rattle.vx_again.proofs.Extractable.{is_read_again}
use Rattle.vx_again.proofs.laws_whole.merge_is_read_again.Goals as goal

pub returns : goal.returns
returns c = is_read_again c.merged_reads_again.ensures c.merged_units_can_stand.ensures c.written_has_pictures.ensures c.pictures_are_finished.ensures c.planned_are_of_merge.ensures c.merged_keeps_messages.ensures c.extraction_reads_again.ensures
