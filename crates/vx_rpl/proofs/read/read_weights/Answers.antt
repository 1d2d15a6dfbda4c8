use Rattle.vx_rpl.proofs.read.read_weights.Goals as goal

pub returns : goal.returns
returns c = rw c.scope-scope.ensures at c.read_parts.ensures.answer
