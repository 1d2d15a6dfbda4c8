use Rattle.std.proofs.Common.{◌≡◌, drop}
use Rattle.vx_table.specs.Forms.{coding_of}
use Rattle.vx_table.proofs.walk.coding_of.Given as goal

abbrev pub invariant-loop-row : goal.invariant-loop-row
invariant-loop-row l = coding_of (drop l.row-index l.table) l.field ≡ coding_of l.fn.table l.fn.field
