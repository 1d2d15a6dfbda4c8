-- The law is a lemma.
use Rattle.vx_gen.proofs.InOrder.{corners_there}
use Rattle.vx_gen.proofs.laws.corners_are_there.Goals as goal

pub returns : goal.returns
returns c = corners_there
