-- How large a number of an SPS may be.
use Rattle.std.proofs.Common.{◌<◌, List, refl, arith, sym, subst}
use Rattle.vx_bits.specs.declared.list.Item.{Item}
use Rattle.vx_fields.specs.declared.sps.TheConstants.{sps_log2_max_pic_order_cnt_lsb_minus4}
use Rattle.vx_table.specs.Forms.{has_value}
use Rattle.vx_table.specs.Scope.{fresh}
use Rattle.vx_table.specs.Loaded.{number, code_below, range_below, row_below}
use Rattle.vx_table.proofs.Loading.{number_below, sections_stay_below}
use Rattle.vx_sps.specs.Structure.{sps_sections, sps_form}
use Rattle.vx_sps.specs.Set as sps

pub lsb_below : (items : List Item) → sps.AreSpsItems items → number items sps_log2_max_pic_order_cnt_lsb_minus4 < 13
unfolding has_value code_below range_below row_below
lsb_below items set = subst (λ x. number x sps_log2_max_pic_order_cnt_lsb_minus4 < 13) (sym set.all)
    (number_below sps_log2_max_pic_order_cnt_lsb_minus4 13 sps_form set.values set.end (omega arith) (sections_stay_below sps_log2_max_pic_order_cnt_lsb_minus4 13 sps_sections fresh (omega arith) refl) set.follows)
