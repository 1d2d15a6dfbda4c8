use Rattle.std.proofs.Common.{refl}
use Rattle.vx_table.specs.Scope.{fresh}
use Rattle.vx_table.specs.Forms.{has_value}
use Rattle.vx_table.specs.Kept.{stands_for_field}
use Rattle.vx_table.specs.Shown.{star_tells}
use Rattle.vx_table.specs.Claims.{knows_formula, knows_width, knows_range, knows_presence, hides_counter, hides_row, behind_field, within_block, depends, behind_rows, table_depends, behind_table, comes_always}
use Rattle.vx_table.proofs.Chains.{structure_depends_only_on}
use Rattle.vx_table.proofs.Starred.{structure_keeps_only}
use Rattle.vx_pps.specs.Partition.{partition}
use Rattle.vx_pps.proofs.Cutting.{each_weaker}
use Rattle.vx_pps.proofs.Division.{each_division}
use Rattle.vx_pps.proofs.laws_sets.kept_depends_on_kept.Goals as goal

pub returns : goal.returns
unfolding fresh has_value stands_for_field star_tells knows_formula knows_width knows_range knows_presence hides_counter hides_row behind_field within_block depends behind_rows table_depends behind_table comes_always
returns c = record {
  depends = record { before = structure_depends_only_on _ _ _ refl; behind = structure_depends_only_on _ _ _ refl; always = structure_depends_only_on _ _ _ refl };
  stars = record {
    before = structure_keeps_only _ _ _ refl;
    division = λ whole width height. each_weaker _ _ (partition whole width height) (λ cell is. is.2) (each_division whole width height);
    behind = structure_keeps_only _ _ _ refl;
  };
}
