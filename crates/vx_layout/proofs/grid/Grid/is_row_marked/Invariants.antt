use Rattle.std.proofs.Common.{ℕ, ◌<◌, ◌≢◌}
use Rattle.vx_layout.specs.inner.Marks.{mark_at}
use Rattle.vx_layout.proofs.grid.Grid.is_row_marked.Given as goal

abbrev pub invariant-loop-x : goal.invariant-loop-x
invariant-loop-x l = (x : ℕ) → x < l.x → mark_at l.self x l.y ≢ 0
