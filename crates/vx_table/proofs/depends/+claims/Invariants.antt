use Rattle.std.proofs.Common.{◌+◌, ◌*◌, length}
use Rattle.vx_table.proofs.Testing.{weight}
use Rattle.vx_table.proofs.depends.+claims.Given as goal

abbrev pub decreases-behind_name : goal.decreases-behind_name
decreases-behind_name l = 3 * length l.rows.now + weight l.parts.now + 2

abbrev pub decreases-rows_depend : goal.decreases-rows_depend
decreases-rows_depend l = 3 * length l.rows.now + weight l.parts.now + 1

abbrev pub decreases-block_depends : goal.decreases-block_depends
decreases-block_depends l = 3 * length l.block.now + 3

abbrev pub decreases-parts_depend : goal.decreases-parts_depend
decreases-parts_depend l = weight l.parts.now
