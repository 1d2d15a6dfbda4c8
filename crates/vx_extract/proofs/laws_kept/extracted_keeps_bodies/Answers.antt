use Rattle.vx_extract.proofs.KeptBodies.{bodies_kept}
use Rattle.vx_extract.proofs.laws_kept.extracted_keeps_bodies.Goals as goal

pub returns : goal.returns
returns c = bodies_kept c.needed_is_body.ensures c.extracted_sends_its_sets.ensures.sets
