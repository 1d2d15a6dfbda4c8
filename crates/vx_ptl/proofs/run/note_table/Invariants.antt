use Rattle.std.proofs.Common.{◌≡◌, drop}
use Rattle.vx_ptl.specs.Run.{codes_of}
use Rattle.vx_ptl.proofs.run.note_table.Given as goal

abbrev pub invariant-loop-row : goal.invariant-loop-row
invariant-loop-row l = codes_of l.zeros (drop l.row-index l.table) l.codes ≡ codes_of 0 l.fn.table l.fn.codes
