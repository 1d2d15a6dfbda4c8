use Rattle.vx_extract.proofs.AgainBodies.{bodies_again}
use Rattle.vx_extract.proofs.laws.extracted_has_its_bodies.Goals as goal

pub returns : goal.returns
returns c = bodies_again
