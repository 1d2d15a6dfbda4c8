use Rattle.std.proofs.Common.{[], ◌∷◌, refl}
use Rattle.vx_calls.specs.declared.composite.TheConstants.{FRONT, BEHIND}
use Rattle.vx_table.specs.Scope.{fresh}
use Rattle.vx_table.specs.Forms.{◌>>=◌, has_value, form_of}
use Rattle.vx_table.specs.Claims.{knows_formula, knows_width, knows_range, knows_presence, hides_counter, hides_row, behind_field, within_block, depends, table_depends, behind_rows, behind_table}
use Rattle.vx_calls.specs.Composite.{shares_of, composite}
use Rattle.vx_table.proofs.Chains.{table_carries, carries_together, chains_depend}
use Rattle.vx_calls.proofs.Example.{shares_carry}
use Rattle.vx_calls.proofs.composite.composite_depends.Goals as goal

pub returns : goal.returns
unfolding composite fresh has_value knows_formula knows_width knows_range knows_presence hides_counter hides_row behind_field within_block depends table_depends behind_rows behind_table
returns c =
    let shown = 30 ∷ 31 ∷ 32 ∷ 33 ∷ 34 ∷ 35 ∷ 36 ∷ [] in
    let known = behind_table shown [] FRONT in
    record {
      right = chains_depend [] _ (behind_table shown known BEHIND) (composite FRONT BEHIND)
          (carries_together shown [] known (behind_table shown known BEHIND) (form_of FRONT) (λ t. shares_of t >>= form_of BEHIND) (table_carries shown [] FRONT refl)
          (carries_together shown known known (behind_table shown known BEHIND) shares_of (form_of BEHIND) (shares_carry shown known refl refl refl) (table_carries shown known BEHIND refl)));
      wrong = (refl, refl);
    }
