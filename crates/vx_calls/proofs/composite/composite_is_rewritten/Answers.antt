use Rattle.std.proofs.Common.{[], refl}
use Rattle.vx_calls.specs.declared.composite.TheConstants.{FRONT, BEHIND}
use Rattle.vx_table.specs.Scope.{fresh}
use Rattle.vx_table.specs.Forms.{has_value}
use Rattle.vx_table.specs.Claims.{knows_formula, knows_width, knows_range, knows_presence, hides_counter, hides_row, behind_field, within_block, depends, table_depends, behind_rows, behind_table}
use Rattle.vx_table.specs.laws.Again.{shows_row}
use Rattle.vx_calls.specs.Composite.{of_tables}
use Rattle.vx_table.proofs.Again.{tables_show}
use Rattle.vx_table.proofs.Chains.{table_carries}
use Rattle.vx_table.proofs.Rewrites.{tables_leave}
use Rattle.vx_calls.proofs.Example as example
use Rattle.vx_calls.proofs.composite.composite_is_rewritten.Goals as goal

pub returns : goal.returns
unfolding fresh has_value knows_formula knows_width knows_range knows_presence hides_counter hides_row behind_field within_block depends table_depends behind_rows behind_table shows_row
returns c = example.composite_is_rewritten FRONT BEHIND (behind_table of_tables of_tables FRONT) (behind_table of_tables of_tables BEHIND) [] (table_carries of_tables of_tables FRONT refl) (tables_show of_tables FRONT refl)
    (table_carries of_tables of_tables BEHIND refl) (tables_show of_tables BEHIND refl) (tables_leave [] FRONT refl) refl refl refl refl
