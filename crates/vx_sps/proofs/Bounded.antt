-- Bounds of a set's numbers.
use Rattle.std.proofs.Common.{◌≡◌, ◌<◌, ℕ, true, List, refl, arith, sym, subst}
use Rattle.vx_bits.specs.declared.list.Item.{Item}
use Rattle.vx_fields.specs.declared.sps.TheConstants.{sps_seq_parameter_set_id, sps_log2_ctu_size_minus5, sps_num_subpics_minus1}
use Rattle.vx_table.specs.EachField.{sections_pass}
use Rattle.vx_table.specs.Forms.{has_value}
use Rattle.vx_table.specs.Scope.{fresh}
use Rattle.vx_table.specs.Loaded.{number, code_below, range_below, row_below}
use Rattle.vx_table.proofs.Loading.{number_below, sections_stay_below}
use Rattle.vx_sps.specs.Structure.{sps_sections, sps_form}
use Rattle.vx_sps.specs.Set.{AreSpsItems}

-- a number below what its rows say
pub below : (of bound : ℕ) (items : List Item) → AreSpsItems items → 0 < bound → sections_pass (row_below of bound) sps_sections ≡ true → number items of < bound
below of bound items set some test = subst (λ x. number x of < bound) (sym set.all)
    (number_below of bound sps_form set.values set.end some (sections_stay_below of bound sps_sections fresh some test) set.follows)

pub id_below : (items : List Item) → AreSpsItems items → number items sps_seq_parameter_set_id < 16
unfolding has_value code_below range_below row_below
id_below items set = below sps_seq_parameter_set_id 16 items set (omega arith) refl

pub ctu_below : (items : List Item) → AreSpsItems items → number items sps_log2_ctu_size_minus5 < 3
unfolding has_value code_below range_below row_below
ctu_below items set = below sps_log2_ctu_size_minus5 3 items set (omega arith) refl

pub subpics_below : (items : List Item) → AreSpsItems items → number items sps_num_subpics_minus1 < 1000
unfolding has_value code_below range_below row_below
subpics_below items set = below sps_num_subpics_minus1 1000 items set (omega arith) refl
