use Rattle.vx_again.proofs.Counts.{is_alike}
use Rattle.vx_again.proofs.laws_rounds.merged_is_alike.Goals as goal

pub returns : goal.returns
returns c = is_alike
