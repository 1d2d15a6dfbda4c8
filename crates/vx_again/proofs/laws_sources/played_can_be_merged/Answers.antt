use Rattle.vx_again.proofs.Played.{played_can_be_merged}
use Rattle.vx_again.proofs.laws_sources.played_can_be_merged.Goals as goal

pub returns : goal.returns
returns c = played_can_be_merged c.played_are_finished.ensures
