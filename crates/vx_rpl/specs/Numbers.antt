-- The scopes at which reference picture list structures and weights are read: the numbers of parameter sets on which they depend.
-- The contracts of `read_struct` and the other readers and writers rely on it.
use Rattle.std.specs.Prelude.{ℕ, ◌-◌, List, slice_index, slice_set}
use Rattle.vx_table.specs.Scope.{fresh, one_if}
use Rattle.vx_fields.specs.declared.names.rpl.TheConstants.{NUM_STRUCTURES, STRUCTURE, ENTRIES_0, ENTRIES_1, ACTIVE_0, ACTIVE_1}
use Rattle.vx_fields.specs.declared.sps.TheConstants.{sps_chroma_format_idc, sps_log2_max_pic_order_cnt_lsb_minus4}
use Rattle.vx_fields.specs.declared.sps.TheConstants.{sps_long_term_ref_pics_flag, sps_weighted_pred_flag}
use Rattle.vx_fields.specs.declared.pps.TheConstants.{pps_rpl1_idx_present_flag, pps_weighted_bipred_flag, pps_wp_info_in_ph_flag}
use Rattle.vx_rpl.specs.declared.numbers.RplNumbers.{RplNumbers}
use Rattle.vx_rpl.specs.declared.numbers.WeightNumbers.{WeightNumbers}

-- The numbers that lists depend on.
unfoldable pub lists_scope : RplNumbers → List ℕ
lists_scope n =
    slice_set
    (slice_set
    (slice_set (slice_set fresh sps_long_term_ref_pics_flag (one_if n.long_term)) sps_weighted_pred_flag (one_if n.weighted))
    sps_log2_max_pic_order_cnt_lsb_minus4 (n.lsb_bits - 4))
    pps_rpl1_idx_present_flag (one_if n.rpl1_idx_present)

-- Those of structure `index` of `count`.
unfoldable pub structure_scope : RplNumbers → ℕ → ℕ → List ℕ
structure_scope n index count = slice_set (slice_set (lists_scope n) STRUCTURE index) NUM_STRUCTURES count

-- The numbers that weights depend on.
unfoldable pub weights_scope : WeightNumbers → List ℕ
weights_scope n =
    slice_set
    (slice_set
    (slice_set
    (slice_set
    (slice_set
    (slice_set (slice_set fresh sps_chroma_format_idc (one_if n.chroma)) pps_wp_info_in_ph_flag (one_if n.in_header))
    pps_weighted_bipred_flag (one_if n.bipred))
    ENTRIES_0 (slice_index n.entries 0))
    ENTRIES_1 (slice_index n.entries 1))
    ACTIVE_0 (slice_index n.active 0))
    ACTIVE_1 (slice_index n.active 1)
