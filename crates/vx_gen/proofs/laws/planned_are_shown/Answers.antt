-- The law is a lemma.
use Rattle.vx_gen.proofs.Seen.{are_shown}
use Rattle.vx_gen.proofs.laws.planned_are_shown.Goals as goal

pub returns : goal.returns
returns c = are_shown
