use Rattle.vx_rpl.proofs.Written.{writes_all}
use Rattle.vx_rpl.proofs.write.write_weights.Goals as goal

pub returns : goal.returns
returns c =
    writes_all c.code_weights-written.new.scope c.code_weights-written.result c.all_taken.result (rw (c.scope-scope.ensures, c.new-left.ensures) at c.code_weights-written.ensures) c.all_taken.ensures
