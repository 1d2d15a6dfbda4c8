use Rattle.vx_again.proofs.Sends.{sends_its_sets}
use Rattle.vx_again.proofs.laws_rounds.merged_sends_its_sets.Goals as goal

pub returns : goal.returns
returns c = sends_its_sets
