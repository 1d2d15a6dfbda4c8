use Rattle.std.proofs.Common.{ℕ, ◌<◌, ◌≢◌}
use Rattle.vx_layout.specs.inner.Marks.{mark_at}
use Rattle.vx_layout.proofs.grid.Grid.is_marked.Given as goal

abbrev pub invariant-loop-y : goal.invariant-loop-y
invariant-loop-y l = (x y : ℕ) → x < l.self.width → y < l.y → mark_at l.self x y ≢ 0
