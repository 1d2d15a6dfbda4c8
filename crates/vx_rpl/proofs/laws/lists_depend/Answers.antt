use Rattle.std.proofs.Common.{refl}
use Rattle.vx_table.specs.Scope.{fresh}
use Rattle.vx_table.specs.Forms.{has_value}
use Rattle.vx_table.specs.Claims.{knows_formula, knows_width, knows_range, knows_presence, hides_counter, hides_row, behind_field, within_block, depends, behind_rows, table_depends, behind_table, comes_always}
use Rattle.vx_table.proofs.Chains.{chains_depend}
use Rattle.vx_rpl.specs.Lists.{lists_form}
use Rattle.vx_rpl.specs.Depends.{list_chains, known_behind_list, first_chains, behind_first, second_chains, lists_chain}
use Rattle.vx_rpl.proofs.Carrying.{lists_carry}
use Rattle.vx_rpl.proofs.laws.lists_depend.Goals as goal

pub returns : goal.returns
unfolding fresh has_value knows_formula knows_width knows_range knows_presence hides_counter hides_row behind_field within_block depends behind_rows table_depends behind_table comes_always list_chains known_behind_list first_chains behind_first second_chains lists_chain
returns c = λ table. chains_depend _ _ _ (lists_form table) (lists_carry table _ _ refl)
