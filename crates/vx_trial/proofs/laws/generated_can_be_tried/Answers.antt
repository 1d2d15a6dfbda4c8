-- The law, from its parts.
use Rattle.vx_trial.proofs.Generated.{can_be_tried}
use Rattle.vx_trial.proofs.laws.generated_can_be_tried.Goals as goal

pub returns : goal.returns
returns c = can_be_tried c.generated_are_read.ensures c.generated_are_not_barred.ensures
