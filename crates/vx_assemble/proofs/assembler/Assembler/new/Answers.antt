use Rattle.vx_assemble.proofs.Bounds.{kept_bounded}
use Rattle.vx_assemble.proofs.assembler.Assembler.new.Goals as goal

pub returns-clause-bounded : goal.returns-clause-bounded
returns-clause-bounded c = kept_bounded _ c.new.ensures.order
