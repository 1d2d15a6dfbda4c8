-- What generated streams mean: their sets, headers and pictures.
use Rattle.std.specs.Prelude.{ℕ, zero, suc, ◌+◌, ◌*◌, ℤ, pos, neg_ℤ, Bool, true, false, List, [], ◌∷◌, ◌++◌, map, None}
use Rattle.vx_bits.specs.declared.list.Item.{Item}
use Rattle.vx_fields.specs.declared.dpb.TheConstants as dpb
use Rattle.vx_fields.specs.declared.ph.TheConstants as ph
use Rattle.vx_fields.specs.declared.pps.TheConstants as pps
use Rattle.vx_fields.specs.declared.ptl.TheConstants as ptl
use Rattle.vx_fields.specs.declared.rpl.TheConstants as rpl
use Rattle.vx_fields.specs.declared.sh.TheConstants as sh
use Rattle.vx_fields.specs.declared.sps.TheConstants as sps
use Rattle.vx_layout.specs.declared.numbers.Numbers.{Numbers}
use Rattle.vx_layout.specs.Rects.{whole_picture}
use Rattle.vx_pic.specs.declared.kind.Kind.{Kind}
use Rattle.vx_pic.specs.declared.unit_types.TheConstants.{IDR_N_LP, TRAIL_NUT}
use Rattle.vx_pic.specs.Readings.{Begun}
use Rattle.vx_pic.specs.Sets.{SliceHeader}
use Rattle.vx_pic.specs.Written.{Plan, SetUnit, a_pps, an_sps}
use Rattle.vx_gen.specs.Units as units
use Rattle.vx_gen.specs.Units.{lsb}

abbrev pub generated_item : ℕ → ℤ → Item
generated_item of v = record { field = of; value = v }

-- Fields that are 0.
abbrev pub zeros : List ℕ → List Item
zeros fields = map (λ of. generated_item of (pos 0)) fields

-- ---- sets

-- The SPS (7.3.2.4): CTUs of 64, profile 1, level 51, pictures of 128 times 128 samples, no chroma, eight bits, four low bits of counts,
-- no tools, and no reference picture list structures.
abbrev pub generated_sps : List Item
generated_sps =
    zeros (sps.sps_seq_parameter_set_id ∷ sps.sps_video_parameter_set_id ∷ sps.sps_max_sublayers_minus1 ∷ sps.sps_chroma_format_idc ∷ [])
    ++ generated_item sps.sps_log2_ctu_size_minus5 (pos 1)
    ∷ generated_item sps.sps_ptl_dpb_hrd_params_present_flag (pos 1)
    ∷ generated_item ptl.general_profile_idc (pos 1)
    ∷ generated_item ptl.general_tier_flag (pos 0)
    ∷ generated_item ptl.general_level_idc (pos 51)
    ∷ generated_item ptl.ptl_frame_only_constraint_flag (pos 1)
    ∷ zeros (ptl.ptl_multilayer_enabled_flag ∷ ptl.gci_present_flag ∷ ptl.ptl_num_sub_profiles
    ∷ sps.sps_gdr_enabled_flag ∷ sps.sps_ref_pic_resampling_enabled_flag ∷ [])
    ++ generated_item sps.sps_pic_width_max_in_luma_samples (pos 128)
    ∷ generated_item sps.sps_pic_height_max_in_luma_samples (pos 128)
    ∷ zeros (sps.sps_conformance_window_flag ∷ sps.sps_subpic_info_present_flag
    ∷ sps.sps_bitdepth_minus8 ∷ sps.sps_entropy_coding_sync_enabled_flag ∷ sps.sps_entry_point_offsets_present_flag
    ∷ sps.sps_log2_max_pic_order_cnt_lsb_minus4 ∷ sps.sps_poc_msb_cycle_flag ∷ sps.sps_num_extra_ph_bytes ∷ sps.sps_num_extra_sh_bytes
    ∷ dpb.dpb_max_dec_pic_buffering_minus1 ∷ dpb.dpb_max_num_reorder_pics ∷ dpb.dpb_max_latency_increase_plus1
    ∷ sps.sps_log2_min_luma_coding_block_size_minus2 ∷ sps.sps_partition_constraints_override_enabled_flag
    ∷ sps.sps_log2_diff_min_qt_min_cb_intra_slice_luma ∷ sps.sps_max_mtt_hierarchy_depth_intra_slice_luma
    ∷ sps.sps_log2_diff_min_qt_min_cb_inter_slice ∷ sps.sps_max_mtt_hierarchy_depth_inter_slice
    ∷ sps.sps_max_luma_transform_size_64_flag ∷ sps.sps_transform_skip_enabled_flag ∷ sps.sps_mts_enabled_flag ∷ sps.sps_lfnst_enabled_flag
    ∷ sps.sps_sao_enabled_flag ∷ sps.sps_alf_enabled_flag ∷ sps.sps_lmcs_enabled_flag
    ∷ sps.sps_weighted_pred_flag ∷ sps.sps_weighted_bipred_flag ∷ sps.sps_long_term_ref_pics_flag ∷ sps.sps_idr_rpl_present_flag ∷ [])
    ++ generated_item sps.sps_rpl1_same_as_rpl0_flag (pos 1)
    ∷ zeros (sps.sps_num_ref_pic_lists
    ∷ sps.sps_ref_wraparound_enabled_flag ∷ sps.sps_temporal_mvp_enabled_flag ∷ sps.sps_amvr_enabled_flag ∷ sps.sps_bdof_enabled_flag
    ∷ sps.sps_smvd_enabled_flag ∷ sps.sps_dmvr_enabled_flag ∷ sps.sps_mmvd_enabled_flag ∷ [])
    ++ generated_item sps.sps_six_minus_max_num_merge_cand (pos 5)
    ∷ zeros (sps.sps_sbt_enabled_flag ∷ sps.sps_affine_enabled_flag ∷ sps.sps_bcw_enabled_flag ∷ sps.sps_ciip_enabled_flag
    ∷ sps.sps_log2_parallel_merge_level_minus2
    ∷ sps.sps_isp_enabled_flag ∷ sps.sps_mrl_enabled_flag ∷ sps.sps_mip_enabled_flag ∷ sps.sps_palette_enabled_flag
    ∷ sps.sps_ibc_enabled_flag ∷ sps.sps_ladf_enabled_flag
    ∷ sps.sps_explicit_scaling_list_enabled_flag ∷ sps.sps_dep_quant_enabled_flag ∷ sps.sps_sign_data_hiding_enabled_flag
    ∷ sps.sps_virtual_boundaries_enabled_flag ∷ sps.sps_timing_hrd_params_present_flag
    ∷ sps.sps_field_seq_flag ∷ sps.sps_vui_parameters_present_flag ∷ sps.sps_extension_flag ∷ [])

-- Source k's PPS (7.3.2.5): pictures of that size that aren't partitioned, and a QP of 26 − k.
abbrev pub generated_pps : ℕ → List Item
generated_pps k =
    zeros (pps.pps_pic_parameter_set_id ∷ pps.pps_seq_parameter_set_id ∷ pps.pps_mixed_nalu_types_in_pic_flag ∷ [])
    ++ generated_item pps.pps_pic_width_in_luma_samples (pos 128)
    ∷ generated_item pps.pps_pic_height_in_luma_samples (pos 128)
    ∷ zeros (pps.pps_conformance_window_flag ∷ pps.pps_scaling_window_explicit_signalling_flag ∷ pps.pps_output_flag_present_flag ∷ [])
    ++ generated_item pps.pps_no_pic_partition_flag (pos 1)
    ∷ zeros (pps.pps_subpic_id_mapping_present_flag ∷ pps.pps_cabac_init_present_flag
    ∷ pps.pps_num_ref_idx_default_active_minus1 ∷ pps.pps_num_ref_idx_default_active_minus1 ∷ pps.pps_rpl1_idx_present_flag
    ∷ pps.pps_weighted_pred_flag ∷ pps.pps_weighted_bipred_flag ∷ pps.pps_ref_wraparound_enabled_flag ∷ [])
    ++ generated_item pps.pps_init_qp_minus26 (neg_ℤ (pos k))
    ∷ zeros (pps.pps_cu_qp_delta_enabled_flag ∷ pps.pps_chroma_tool_offsets_present_flag ∷ pps.pps_deblocking_filter_control_present_flag
    ∷ pps.pps_picture_header_extension_present_flag ∷ pps.pps_slice_header_extension_present_flag ∷ pps.pps_extension_flag ∷ [])

-- Both sets, with their units.
abbrev pub sets : ℕ → List SetUnit
sets k = record { unit = units.sps; set = an_sps generated_sps } ∷ record { unit = units.pps k; set = a_pps (generated_pps k) } ∷ []

-- One tile, one slice and one subpicture of two times two CTUs (6.5.1).
abbrev pub layout : Numbers
layout = record { columns = 0 ∷ 2 ∷ []; rows = 0 ∷ 2 ∷ []; slices = whole_picture 2 2 ∷ []; subpics = whole_picture 2 2 ∷ [] }

-- ---- headers

-- The header of picture p (7.3.2.8): of an IDR picture, or of a trailing picture, without inter slices.
abbrev pub idr_header : List Item
idr_header = generated_item ph.ph_gdr_or_irap_pic_flag (pos 1)
    ∷ zeros (ph.ph_non_ref_pic_flag ∷ ph.ph_gdr_pic_flag ∷ ph.ph_inter_slice_allowed_flag ∷ ph.ph_pic_parameter_set_id
    ∷ ph.ph_pic_order_cnt_lsb ∷ [])

abbrev pub trailing_header : ℕ → List Item
trailing_header l =
    zeros (ph.ph_gdr_or_irap_pic_flag ∷ ph.ph_non_ref_pic_flag ∷ ph.ph_inter_slice_allowed_flag ∷ ph.ph_pic_parameter_set_id ∷ [])
    ++ generated_item ph.ph_pic_order_cnt_lsb (pos l) ∷ []

abbrev pub generated_header : ℕ → List Item
generated_header zero = idr_header
generated_header (suc p) = trailing_header (lsb (suc p))

-- The header of picture p's slice (7.3.7), with the picture header inside: two empty reference picture lists, except for an IDR picture,
-- and no QP delta.
abbrev pub idr_slice : List Item
idr_slice = generated_item sh.sh_picture_header_in_slice_header_flag (pos 1) ∷ zeros (sh.sh_no_output_of_prior_pics_flag ∷ sh.sh_qp_delta ∷ [])

abbrev pub trailing_slice : List Item
trailing_slice = generated_item sh.sh_picture_header_in_slice_header_flag (pos 1)
    ∷ zeros (rpl.num_ref_entries ∷ rpl.num_ref_entries ∷ sh.sh_qp_delta ∷ [])

abbrev pub generated_slice : ℕ → List Item
generated_slice zero = idr_slice
generated_slice (suc p) = trailing_slice

-- Four bytes of the unit come before its data.
abbrev pub slice_header : ℕ → SliceHeader
slice_header p = record { fields = generated_slice p; subpic = 0; payload = 4 }

-- ---- pictures

-- The first is an IDR picture, with which the coded layer video sequence starts.
abbrev pub nal_type : ℕ → ℕ
nal_type zero = IDR_N_LP
nal_type (suc p) = TRAIL_NUT

abbrev pub is_first : ℕ → Bool
is_first zero = true
is_first (suc p) = false

-- Picture p, whose count is p (8.3.1).
abbrev pub kind : ℕ → Kind
kind p = record { nal_type = nal_type p; temporal_id = 0; clvss = is_first p; after_eos = false; poc = pos p }

abbrev pub generated_begun : ℕ → ℕ → Begun
generated_begun k p = record { sps = generated_sps; pps = generated_pps k; layout = layout; header = generated_header p; temporal_id = 0; unit = None }

-- The first one is sent with its sets.
abbrev pub sent : ℕ → ℕ → List SetUnit
sent k zero = sets k
sent k (suc p) = []

-- Picture p of source k, whose data is drawn from draw n on.
abbrev pub plan : (seed n k p : ℕ) → Plan
plan seed n k p = record {
  sent = sent k p;
  sei = None;
  begun = generated_begun k p;
  kind = kind p;
  first = record { unit = units.slice seed n p; header = slice_header p };
  more = [];
}

-- The first `pictures` pictures of source k, the last one first, if the first one's data is drawn from draw n on.
abbrev pub plans : (seed n k pictures : ℕ) → List Plan
plans seed n k zero = []
plans seed n k (suc p) = plan seed (n + 5 * p) k p ∷ plans seed n k p
