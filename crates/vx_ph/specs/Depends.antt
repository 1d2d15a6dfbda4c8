-- What a picture header depends on, which of its fields are kept, and that it is read again and rewritten. Our own. Mergers and
-- readers of merged streams rely on it.
use Rattle.std.specs.Prelude.{◌≡◌, ◌≤◌, ℕ, ℤ, pos, not, List, [], ◌∷◌, ◌++◌, filter, slice_index, Result}
use Rattle.vx_bits.specs.declared.list.Item.{Item}
use Rattle.vx_bits.specs.declared.refusal.ReadError.{ReadError}
use Rattle.vx_bits.specs.Place.{Place}
use Rattle.vx_table.specs.Forms.{form_of}
use Rattle.vx_table.specs.Parts.{Section, always}
use Rattle.vx_table.specs.Unstarred.{unstarred}
use Rattle.vx_table.specs.Spelling.{items_along}
use Rattle.vx_table.specs.Values.{Follows}
use Rattle.vx_table.specs.Reading.{Reads}
use Rattle.vx_table.specs.Depends.{has, Agree, DependsOnlyOn}
use Rattle.vx_table.specs.Named.{named_by_all, CodedOnce}
use Rattle.vx_table.specs.Shown.{shown_items, KeepsOnly}
use Rattle.vx_table.specs.laws.Again.{AlwaysShown}
use Rattle.vx_table.specs.Rewritten.{IsRewritten}
use Rattle.vx_table.specs.Rewrites.{Takes}
use Rattle.vx_fields.specs.declared.sps.TheConstants as sps
use Rattle.vx_fields.specs.declared.pps.TheConstants as pps
use Rattle.vx_fields.specs.declared.ph.TheConstants as ph
use Rattle.vx_fields.specs.declared.names.ph.TheConstants.{EXTRA_PH_BITS, FILTER_SET}
use Rattle.vx_rpl.specs.declared.entry.RplTable.{RplTable}
use Rattle.vx_rpl.specs.declared.tables.TheConstants.{BEFORE_LIST_0, CHOICE, BEHIND_LIST_0, BEHIND_LIST_1}
use Rattle.vx_rpl.specs.Lists.{own_and_long_term, weights}
use Rattle.vx_rpl.specs.Depends.{fields_behind_lists}
use Rattle.vx_ph.specs.declared.tables.TheConstants.{PICTURE, PPS_ID, ORDER_COUNT, ALF, LMCS_AND_SCALING, OUTPUT, INTRA, INTER, QP, FILTERS}
use Rattle.vx_ph.specs.declared.tables.TheConstants.{STARRED}
use Rattle.vx_ph.specs.Header.{ph_before_lists, middle, back, header_form}

-- ---- fields

-- The tables of reference picture lists, and all of a header.
abbrev pub lists_tables : List Section
lists_tables = always BEFORE_LIST_0 ∷ always CHOICE ∷ (own_and_long_term ++ (always BEHIND_LIST_0 ∷ always BEHIND_LIST_1 ∷ []))

abbrev pub ph_tables : List Section
ph_tables = ph_before_lists ++ (lists_tables ++ (middle ++ (weights ++ back)))

-- The kept fields: those without a star.
abbrev pub kept_ph_fields : List ℕ
kept_ph_fields = unstarred ph_tables

-- All fields of a header, and the names in its rows.
abbrev pub of_header : List ℕ
of_header = named_by_all ph_before_lists ++ (named_by_all middle ++ (named_by_all back ++ (fields_behind_lists ++ named_by_all weights)))

-- The fields with a star, and the names that only they use.
abbrev pub starred : List ℕ
starred = FILTER_SET ∷ STARRED

-- The others: the kept fields, with the names that their rows use.
abbrev pub kept_with_names : List ℕ
kept_with_names = filter (λ n. not (has starred n)) of_header

-- ---- what they depend on

-- Of the sets in force, kept fields depend on these, which are kept fields of the SPS and the PPS, and the number of extra bits,
abbrev pub kept_of_sets : List ℕ
kept_of_sets = sps.sps_chroma_format_idc ∷ sps.sps_log2_max_pic_order_cnt_lsb_minus4 ∷ sps.sps_poc_msb_cycle_flag
    ∷ sps.sps_poc_msb_cycle_len_minus1 ∷ EXTRA_PH_BITS ∷ sps.sps_partition_constraints_override_enabled_flag
    ∷ sps.sps_qtbtt_dual_tree_intra_flag ∷ sps.sps_joint_cbcr_enabled_flag ∷ sps.sps_sao_enabled_flag ∷ sps.sps_weighted_pred_flag
    ∷ sps.sps_weighted_bipred_flag ∷ sps.sps_long_term_ref_pics_flag ∷ sps.sps_temporal_mvp_enabled_flag
    ∷ sps.sps_bdof_control_present_in_ph_flag ∷ sps.sps_dmvr_control_present_in_ph_flag ∷ sps.sps_mmvd_fullpel_only_enabled_flag
    ∷ sps.sps_prof_control_present_in_ph_flag ∷ pps.pps_output_flag_present_flag ∷ pps.pps_rpl1_idx_present_flag
    ∷ pps.pps_weighted_pred_flag ∷ pps.pps_weighted_bipred_flag ∷ pps.pps_cu_qp_delta_enabled_flag
    ∷ pps.pps_chroma_tool_offsets_present_flag ∷ pps.pps_cu_chroma_qp_offset_list_enabled_flag
    ∷ pps.pps_deblocking_filter_disabled_flag ∷ pps.pps_dbf_info_in_ph_flag ∷ pps.pps_rpl_info_in_ph_flag
    ∷ pps.pps_sao_info_in_ph_flag ∷ pps.pps_wp_info_in_ph_flag ∷ pps.pps_picture_header_extension_present_flag ∷ []

-- the others also on these: four more kept fields of the SPS,
abbrev pub kept_for_starred : List ℕ
kept_for_starred = sps.sps_alf_enabled_flag ∷ sps.sps_ccalf_enabled_flag ∷ sps.sps_lmcs_enabled_flag
    ∷ sps.sps_explicit_scaling_list_enabled_flag ∷ kept_of_sets

-- and two fields with a star of the PPS.
abbrev pub starred_of_sets : List ℕ
starred_of_sets = pps.pps_alf_info_in_ph_flag ∷ pps.pps_qp_delta_info_in_ph_flag ∷ []

abbrev pub all_of_sets : List ℕ
all_of_sets = starred_of_sets ++ kept_for_starred

-- The presence, coding and range of each kept field depend only on kept fields of the sets, and on kept fields before it in the
-- header.
abbrev pub KeptDepend : Type 0
KeptDepend = (table : RplTable) → DependsOnlyOn kept_of_sets kept_with_names (header_form table)

-- Those of each field depend in addition on the two fields, and on any field before it in the header.
abbrev pub AllDepend : Type 0
AllDepend = (table : RplTable) → DependsOnlyOn all_of_sets of_header (header_form table)

-- A field has a star in each of its rows, or in none; and all fields are named above.
abbrev pub KeepsKept : Type 0
KeepsKept = (table : RplTable) → KeepsOnly kept_of_sets kept_ph_fields (header_form table)

abbrev pub ShowsAll : Type 0
ShowsAll = (table : RplTable) → AlwaysShown (all_of_sets ++ of_header) (header_form table)

-- No field is coded by two rows.
abbrev pub FieldsAreCodedOnce : Type 0
FieldsAreCodedOnce = CodedOnce
    (PICTURE ∷ PPS_ID ∷ ORDER_COUNT ∷ ALF ∷ LMCS_AND_SCALING ∷ OUTPUT ∷ INTRA ∷ INTER ∷ QP ∷ FILTERS ∷ [])

-- ---- read again

-- The same bits, under sets that agree on all these, are the same header or the same refusal.
abbrev pub HeaderReadAgain : Type 0
HeaderReadAgain = (table : RplTable) (s t : List ℕ) (old new : Place) (items after : List Item) (result : Result (Unit {0}) ReadError)
    → Agree all_of_sets s t → Reads (header_form table s) old items result new after
    → Reads (header_form table t) old items result new after

-- ---- rewritten

-- A header can be rewritten under other sets that agree on what kept fields depend on, and whose PPS has filter and QP in slice
-- headers. It then has its kept fields, another id of the PPS, and other LMCS and scaling lists that go through there.
abbrev pub HeaderRewrites : Type 0
HeaderRewrites = (table : RplTable) (s t : List ℕ) (values : List ℤ) (end : List ℕ) (id : ℕ) (maps : List Item)
    → Agree kept_of_sets s t → slice_index t pps.pps_alf_info_in_ph_flag ≡ 0 → slice_index t pps.pps_qp_delta_info_in_ph_flag ≡ 0
    → Follows (header_form table s) values end → id ≤ 63 → Takes (form_of LMCS_AND_SCALING t) maps
    → (items : List Item)
    × IsRewritten (header_form table t) kept_ph_fields (shown_items kept_ph_fields (items_along (header_form table s) values))
    (record { field = ph.ph_pic_parameter_set_id; value = pos id } ∷ maps) items
