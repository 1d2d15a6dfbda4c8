use Rattle.vx_extract.proofs.KeptInputs.{inputs_kept}
use Rattle.vx_extract.proofs.laws_kept.extracted_keeps_inputs.Goals as goal

pub returns : goal.returns
returns c = inputs_kept c.rewritten_agree.ensures c.rewritten_keep_fields.ensures c.extracted_keeps_bodies.ensures c.rewritten_keep_places.ensures
