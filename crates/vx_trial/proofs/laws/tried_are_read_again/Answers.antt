-- The law, from its parts.
use Rattle.vx_trial.proofs.Again.{tried_again}
use Rattle.vx_trial.proofs.laws.tried_are_read_again.Goals as goal

pub returns : goal.returns
returns c = tried_again c.generated_are_merged.ensures
