use Rattle.std.proofs.Common.{◌+◌}
use Rattle.vx_layout.specs.inner.Marks.{Paints}
use Rattle.vx_layout.proofs.grid.Grid.paint_row.Given as goal

abbrev pub invariant-loop-x : goal.invariant-loop-x
invariant-loop-x l = Paints l.initial.self l.self l.left l.x l.y (l.y + 1) l.mark
