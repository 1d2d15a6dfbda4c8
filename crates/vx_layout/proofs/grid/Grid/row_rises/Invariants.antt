use Rattle.std.proofs.Common.{ℕ, ◌<◌}
use Rattle.vx_layout.specs.inner.Marks.{RisesAt}
use Rattle.vx_layout.proofs.grid.Grid.row_rises.Given as goal

abbrev pub invariant-loop-x : goal.invariant-loop-x
invariant-loop-x l = (x : ℕ) → x < l.x → RisesAt l.self x l.y
