-- What the fields of a slice header after the id of its subpicture depend on. Our own. Mergers and readers of merged streams rely
-- on it.
use Rattle.std.specs.Prelude.{ℕ, not, List, [], ◌∷◌, ◌++◌, filter}
use Rattle.vx_table.specs.Depends.{has, DependsOnlyOn}
use Rattle.vx_table.specs.laws.Again.{AlwaysShown}
use Rattle.vx_table.specs.Parts.{Section, always}
use Rattle.vx_table.specs.Shown.{KeepsOnly}
use Rattle.vx_table.specs.Unstarred.{unstarred}
use Rattle.vx_fields.specs.declared.names.rpl.TheConstants as names_rpl
use Rattle.vx_fields.specs.declared.names.rpl.TheConstants.{ENTRIES_0, ENTRIES_1}
use Rattle.vx_fields.specs.declared.names.ph.TheConstants.{FILTER_SET}
use Rattle.vx_fields.specs.declared.names.sh.TheConstants as names_sh
use Rattle.vx_fields.specs.declared.names.sh.TheConstants.{NAL_TYPE, NUM_SLICES, EXTRA_SH_BITS, DEFAULT_ACTIVE_0, DEFAULT_ACTIVE_1, HAS_ALF}
use Rattle.vx_fields.specs.declared.alf.TheConstants as alf
use Rattle.vx_fields.specs.declared.rpl.TheConstants as rpl
use Rattle.vx_fields.specs.declared.weights.TheConstants as weights
use Rattle.vx_fields.specs.declared.sh.TheConstants as sh
use Rattle.vx_fields.specs.declared.sps.TheConstants as sps
use Rattle.vx_fields.specs.declared.pps.TheConstants as pps
use Rattle.vx_fields.specs.declared.ph.TheConstants as ph
use Rattle.vx_rpl.specs.declared.entry.RplTable.{RplTable}
use Rattle.vx_rpl.specs.Lists.{weights as weight_tables}
use Rattle.vx_ph.specs.Depends.{lists_tables}
use Rattle.vx_sh.specs.declared.tables.TheConstants.{HEADER_INSIDE, SUBPIC_ID, KNOWN_SUBPIC, ADDRESS, STARRED}
use Rattle.vx_sh.specs.Slice.{before_lists, between, behind_weights, rest_form}

-- ---- the numbers of the sets, the picture header and the place of the slice that are used

-- Kept fields of the SPS.
abbrev pub of_sps : List ℕ
of_sps = sps.sps_chroma_format_idc ∷ sps.sps_log2_max_pic_order_cnt_lsb_minus4 ∷ sps.sps_transform_skip_enabled_flag
    ∷ sps.sps_joint_cbcr_enabled_flag ∷ sps.sps_sao_enabled_flag ∷ sps.sps_alf_enabled_flag ∷ sps.sps_ccalf_enabled_flag
    ∷ sps.sps_weighted_pred_flag ∷ sps.sps_weighted_bipred_flag ∷ sps.sps_long_term_ref_pics_flag ∷ sps.sps_idr_rpl_present_flag
    ∷ sps.sps_dep_quant_enabled_flag ∷ sps.sps_sign_data_hiding_enabled_flag ∷ []

-- Kept fields of the PPS.
abbrev pub of_pps : List ℕ
of_pps = pps.pps_cabac_init_present_flag ∷ pps.pps_rpl1_idx_present_flag ∷ pps.pps_weighted_pred_flag ∷ pps.pps_weighted_bipred_flag
    ∷ pps.pps_chroma_tool_offsets_present_flag ∷ pps.pps_slice_chroma_qp_offsets_present_flag
    ∷ pps.pps_cu_chroma_qp_offset_list_enabled_flag ∷ pps.pps_deblocking_filter_override_enabled_flag
    ∷ pps.pps_deblocking_filter_disabled_flag ∷ pps.pps_dbf_info_in_ph_flag ∷ pps.pps_rpl_info_in_ph_flag
    ∷ pps.pps_sao_info_in_ph_flag ∷ pps.pps_wp_info_in_ph_flag ∷ pps.pps_slice_header_extension_present_flag ∷ []

-- Kept fields of the picture header.
abbrev pub kept_of_ph : List ℕ
kept_of_ph = ph.ph_inter_slice_allowed_flag ∷ ph.ph_temporal_mvp_enabled_flag ∷ []

-- Numbers in addition to these: the type of the NAL unit, the slices of the subpicture, the number of extra bits of the SPS, the
-- two pps_num_ref_idx_default_active_minus1, and the lengths of the picture header's lists.
abbrev pub numbers_beside : List ℕ
numbers_beside = NAL_TYPE ∷ NUM_SLICES ∷ EXTRA_SH_BITS ∷ DEFAULT_ACTIVE_0 ∷ DEFAULT_ACTIVE_1 ∷ ENTRIES_0 ∷ ENTRIES_1 ∷ []

abbrev pub kept_given : List ℕ
kept_given = of_sps ++ (of_pps ++ (kept_of_ph ++ numbers_beside))

-- Fields with a star: where the filter and the QP are, what the picture uses of adaptation sets, and whether its header is inside.
abbrev pub starred_given : List ℕ
starred_given = pps.pps_alf_info_in_ph_flag ∷ pps.pps_qp_delta_info_in_ph_flag ∷ ph.ph_lmcs_enabled_flag
    ∷ ph.ph_explicit_scaling_list_enabled_flag ∷ sh.sh_picture_header_in_slice_header_flag ∷ []

abbrev pub all_given : List ℕ
all_given = kept_given ++ starred_given

-- ---- fields, and the names that rows give numbers to

-- The tables of a slice header, without the picture header inside.
abbrev pub sh_tables : List Section
sh_tables = always HEADER_INSIDE ∷ always SUBPIC_ID ∷ always KNOWN_SUBPIC ∷ always ADDRESS
    ∷ (before_lists ++ (lists_tables ++ (between ++ (weight_tables ++ behind_weights))))

-- The kept fields: those without a star.
abbrev pub kept_fields : List ℕ
kept_fields = unstarred sh_tables

-- Those of reference picture lists and weights.
abbrev pub of_lists : List ℕ
of_lists = rpl.ALL ++ (weights.ALL ++ names_rpl.ALL)

abbrev pub all_fields : List ℕ
all_fields = of_lists ++ (FILTER_SET ∷ alf.ALL ++ (sh.ALL ++ names_sh.ALL))

-- Fields with a star, and the names that only their rows use.
abbrev pub starred_fields : List ℕ
starred_fields = FILTER_SET ∷ HAS_ALF ∷ STARRED

-- The others: the kept fields, with the names that their rows use.
abbrev pub kept_with_names : List ℕ
kept_with_names = filter (λ n. not (has starred_fields n)) all_fields

-- ---- the law

-- The presence, coding and range of each kept field depend only on kept fields of the SPS, the PPS, the picture header and the
-- slice header, on the additional numbers, and on the entry points by address.
abbrev pub KeptDepend : Type 0
KeptDepend = (table : RplTable) (points : ℕ → ℕ) → DependsOnlyOn kept_given kept_with_names (rest_form table points)

-- Those of all fields depend on these and on the fields with a star above.
abbrev pub AllDepend : Type 0
AllDepend = (table : RplTable) (points : ℕ → ℕ) → DependsOnlyOn all_given all_fields (rest_form table points)

-- These are all fields; and a field has a star in each of its rows, or in none.
abbrev pub AllAreShown : Type 0
AllAreShown = (table : RplTable) (points : ℕ → ℕ) → AlwaysShown (all_given ++ all_fields) (rest_form table points)

abbrev pub KeptAreShown : Type 0
KeptAreShown = (table : RplTable) (points : ℕ → ℕ) → KeepsOnly kept_given kept_fields (rest_form table points)
