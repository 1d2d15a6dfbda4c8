use Rattle.std.proofs.Common.{◌≡◌, drop}
use Rattle.vx_table.specs.Claims.{hides}
use Rattle.vx_table.specs.inner.Names.{listed}
use Rattle.vx_table.proofs.depends.hides.Given as goal

abbrev pub invariant-loop-row : goal.invariant-loop-row
invariant-loop-row l = hides (listed l.fn.shown) (drop l.row-index l.rows) ≡ hides (listed l.fn.shown) l.fn.rows
