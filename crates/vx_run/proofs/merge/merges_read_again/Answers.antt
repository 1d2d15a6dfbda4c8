use Rattle.vx_run.proofs.MergeAgain.{written_again}
use Rattle.vx_run.proofs.merge.merges_read_again.Goals as goal

pub returns : goal.returns
returns c = written_again c.units_can_stand.ensures c.pictures_can_be_merged.ensures c.merge_is_read_again.ensures
