use Rattle.vx_ptl.proofs.read.read_timing.Goals as goal

pub returns : goal.returns
returns c = rw (c.at_sublayers-scope.ensures, c.new.ensures) at c.read_table.ensures.answer
