use Rattle.vx_ptl.proofs.read.read_ptl.Goals as goal

pub returns : goal.returns
returns c = rw (c.set.ensures, c.new-scope.ensures) at c.read_table.ensures.answer
