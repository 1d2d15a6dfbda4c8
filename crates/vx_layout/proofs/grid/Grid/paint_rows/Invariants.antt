use Rattle.vx_layout.specs.inner.Marks.{Paints}
use Rattle.vx_layout.proofs.grid.Grid.paint_rows.Given as goal

abbrev pub invariant-loop-y : goal.invariant-loop-y
invariant-loop-y l = Paints l.initial.self l.self l.fn.columns.0 l.fn.columns.1 l.fn.rows.0 l.y l.mark
