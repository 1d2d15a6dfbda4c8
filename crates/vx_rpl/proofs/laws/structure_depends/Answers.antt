use Rattle.std.proofs.Common.{refl}
use Rattle.vx_table.specs.Scope.{fresh}
use Rattle.vx_table.specs.Forms.{has_value}
use Rattle.vx_table.specs.Claims.{knows_formula, knows_width, knows_range, knows_presence, hides_counter, hides_row, behind_field, within_block, depends, table_depends}
use Rattle.vx_table.proofs.Dependence.{table_depends_only_on}
use Rattle.vx_rpl.proofs.laws.structure_depends.Goals as goal

pub returns : goal.returns
unfolding fresh has_value knows_formula knows_width knows_range knows_presence hides_counter hides_row behind_field within_block depends table_depends
returns c = table_depends_only_on _ _ _ refl
