use Rattle.std.proofs.Common.{◌≡◌, ◌++◌, drop}
use Rattle.vx_table.specs.Shown.{stars_tell}
use Rattle.vx_table.proofs.stars.stars_tell.Given as goal

abbrev pub invariant-loop-row : goal.invariant-loop-row
invariant-loop-row l = stars_tell (l.fn.given ++ l.fn.shown) (drop l.row-index l.rows) ≡ stars_tell (l.fn.given ++ l.fn.shown) l.fn.rows
