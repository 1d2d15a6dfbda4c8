use Rattle.std.proofs.Common.{ℕ, ◌<◌}
use Rattle.vx_layout.specs.inner.Marks.{RisesAt}
use Rattle.vx_layout.proofs.grid.Grid.is_rising.Given as goal

abbrev pub invariant-loop-y : goal.invariant-loop-y
invariant-loop-y l = (x y : ℕ) → x < l.self.width → y < l.y → RisesAt l.self x y
