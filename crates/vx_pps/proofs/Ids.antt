-- Ids have few bits.
use Rattle.std.proofs.Common.{◌<◌, List, refl, arith}
use Rattle.vx_bits.specs.declared.list.Item.{Item}
use Rattle.vx_fields.specs.declared.pps.TheConstants.{pps_pic_parameter_set_id, pps_seq_parameter_set_id}
use Rattle.vx_table.specs.Forms.{has_value}
use Rattle.vx_table.specs.Loaded.{number, code_below, range_below, row_below}
use Rattle.vx_pps.specs.Pps.{ArePpsItems}
use Rattle.vx_pps.proofs.Cutting.{cut_parts, number_low}

pub id_below : (items : List Item) → ArePpsItems items → number items pps_pic_parameter_set_id < 64
unfolding has_value code_below range_below row_below
id_below items set = number_low (cut_parts items set.end set.set) pps_pic_parameter_set_id 64 (omega arith) refl refl (λ low high. omega arith)

pub sps_id_below : (items : List Item) → ArePpsItems items → number items pps_seq_parameter_set_id < 16
unfolding has_value code_below range_below row_below
sps_id_below items set = number_low (cut_parts items set.end set.set) pps_seq_parameter_set_id 16 (omega arith) refl refl (λ low high. omega arith)
