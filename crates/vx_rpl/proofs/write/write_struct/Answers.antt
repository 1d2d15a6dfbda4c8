use Rattle.vx_rpl.proofs.Written.{writes_all}
use Rattle.vx_rpl.proofs.write.write_struct.Goals as goal

pub returns : goal.returns
returns c =
    writes_all c.code_table-written.new.scope c.code_table-written.result c.all_taken.result
    (rw (c.own_scope-scope.ensures, c.as_slice.ensures, c.new-left.ensures) at c.code_table-written.ensures) c.all_taken.ensures
