use Rattle.vx_run.proofs.PlayAgain.{played_again}
use Rattle.vx_run.proofs.play.plays_read_again.Goals as goal

pub returns : goal.returns
returns c = played_again c.units_can_stand.ensures c.pictures_can_be_merged.ensures c.played_can_be_merged.ensures c.merge_is_read_again.ensures
