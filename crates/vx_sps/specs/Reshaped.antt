-- The rewritten sequence parameter set: what it copies from its source, and what it states (H.266 clause 7.3.2.4). The contract of
-- `reshape_sps` relies on it.
use Rattle.std.specs.Prelude.{◌≡◌, ℕ, pos, ◌+◌, ◌-◌, ◌^◌, ◌<◌, ◌≤◌, ◌%◌, max, Bool, not, ◌&&◌, ◌||◌, nat_lt, All}
use Rattle.std.specs.Prelude.{List, [], ◌∷◌, ◌++◌, length, replicate, slice_index, slice_index_or, Option, Some, None, IfSome}
use Rattle.vx_bits.specs.Codes.{IsCodeNumber}
use Rattle.vx_bits.specs.declared.list.Item.{Item}
use Rattle.vx_fields.specs.declared.ptl.TheConstants as ptl
use Rattle.vx_fields.specs.declared.dpb.TheConstants as dpb
use Rattle.vx_fields.specs.declared.timing.TheConstants as timing
use Rattle.vx_fields.specs.declared.sps.TheConstants as sps
use Rattle.vx_layout.specs.declared.rect.Rect.{Rect}
use Rattle.vx_layout.specs.Borders.{Begins, Ends}
use Rattle.vx_layout.specs.Layouts.{no_rect}
use Rattle.vx_layout.specs.Rects.{IsPart}
use Rattle.vx_table.specs.Scope.{one_if, is_set, quotient, powers_below}
use Rattle.vx_table.specs.Loaded.{number}
use Rattle.vx_table.specs.Rewrites.{in_all_turns}
use Rattle.vx_table.specs.Rewritten.{IsRewritten}
use Rattle.vx_table.specs.Shown.{shown_items}
use Rattle.vx_sps.specs.declared.shape.SpsShape.{SpsShape}
use Rattle.vx_sps.specs.declared.shape.SubpicPlan.{SubpicPlan}
use Rattle.vx_sps.specs.declared.shape.SubpicPlan.TheVariants.{Absent, One, Many}
use Rattle.vx_sps.specs.Depends.{taken_sps_fields}
use Rattle.vx_sps.specs.Set.{ctb_size_of}
use Rattle.vx_sps.specs.Structure.{sps_form}
use Rattle.vx_table.specs.Rewritten.{where_so}

-- ---- what is stated, in the order of the syntax (7.3.2.4; what is stated is our own choice)

-- An item of a field; and items that are present only if a condition holds (our own).
abbrev pub item : ℕ → ℕ → Item
item of n = record { field = of; value = pos n }

-- An item with the number that the source's last one gives (our own).
abbrev pub item_of_source : List Item → ℕ → Item
item_of_source source of = item of (number source of)

-- Ids: the shape's, of no VPS (7.3.2.4).
abbrev pub sps_id_items : ℕ → List Item
sps_id_items id = item sps.sps_seq_parameter_set_id id ∷ item sps.sps_video_parameter_set_id 0 ∷ []

-- Profile and tier of the source at a level (clause 7.3.3.1), without constraints, levels of sublayers and sub-profiles.
abbrev pub profile_items : List Item → ℕ → List Item
profile_items source level =
    item_of_source source ptl.general_profile_idc ∷ item_of_source source ptl.general_tier_flag ∷ item ptl.general_level_idc level
    ∷ item_of_source source ptl.ptl_frame_only_constraint_flag ∷ item_of_source source ptl.ptl_multilayer_enabled_flag ∷ item ptl.gci_present_flag 0
    ∷ (replicate (number source sps.sps_max_sublayers_minus1) (item ptl.ptl_sublayer_level_present_flag 0)
    ++ item ptl.ptl_num_sub_profiles 0 ∷ [])

-- The window's offsets, left, right, top and bottom, if one isn't 0 (our own).
abbrev pub has_window : List ℕ → Bool
has_window window =
    (is_set (slice_index window 0) || is_set (slice_index window 1)) || (is_set (slice_index window 2) || is_set (slice_index window 3))

-- The window: sps_conformance_window_flag, and the offsets if it is 1 (7.3.2.4).
abbrev pub window_items : List ℕ → List Item
window_items window =
    item sps.sps_conformance_window_flag (one_if (has_window window))
    ∷ where_so (has_window window)
    (item sps.sps_conf_win_left_offset (slice_index window 0) ∷ item sps.sps_conf_win_right_offset (slice_index window 1)
    ∷ item sps.sps_conf_win_top_offset (slice_index window 2) ∷ item sps.sps_conf_win_bottom_offset (slice_index window 3) ∷ [])

-- Width and height, and the window (7.3.2.4).
abbrev pub picture_size_items : ℕ → ℕ → List ℕ → List Item
picture_size_items width height window =
    item sps.sps_pic_width_max_in_luma_samples width ∷ item sps.sps_pic_height_max_in_luma_samples height ∷ window_items window

-- The place of subpicture i: its corner, except for the first, and its size, except for the last, each in columns and rows if the
-- picture has several of these (7.3.2.4).
abbrev pub place_items : ℕ → ℕ → List Rect → ℕ → List Item
place_items columns rows rects i =
    let rect = slice_index_or rects i no_rect in
    let later = is_set i in
    let before_last = nat_lt i (length rects - 1) in
    where_so (later && nat_lt 1 columns) (item sps.sps_subpic_ctu_top_left_x rect.x ∷ [])
    ++ (where_so (later && nat_lt 1 rows) (item sps.sps_subpic_ctu_top_left_y rect.y ∷ [])
    ++ (where_so (before_last && nat_lt 1 columns) (item sps.sps_subpic_width_minus1 (rect.w - 1) ∷ [])
    ++ where_so (before_last && nat_lt 1 rows) (item sps.sps_subpic_height_minus1 (rect.h - 1) ∷ [])))

-- Several subpictures are independent, and each is placed by itself (7.3.2.4).
abbrev pub places_items : ℕ → ℕ → List Rect → List Item
places_items columns rows rects = where_so (nat_lt 1 (length rects))
    (item sps.sps_independent_subpics_flag 1 ∷ item sps.sps_subpic_same_size_flag 0
    ∷ in_all_turns (place_items columns rows rects) 0 (length rects))

-- The id of the one subpicture, if the set has it (7.3.2.4).
abbrev pub mapping_items : Option ℕ → List Item
mapping_items None = item sps.sps_subpic_id_mapping_present_flag 0 ∷ []
mapping_items (Some id) = item sps.sps_subpic_id_mapping_present_flag 1 ∷ item sps.sps_subpic_id id ∷ []

-- The bits of the ids of n subpictures: Ceil(Log2(n)), and at least 1 (our own).
abbrev pub id_bits : ℕ → ℕ
id_bits n = max (powers_below 32 n) 1

-- One subpicture, whose id is mapped (7.3.2.4).
abbrev pub one_items : ℕ → Option ℕ → List Item
one_items id_len id =
    item sps.sps_num_subpics_minus1 0 ∷ item sps.sps_subpic_id_len_minus1 id_len
    ∷ item sps.sps_subpic_id_mapping_explicitly_signalled_flag 1 ∷ mapping_items id

-- Subpictures whose ids are their indices (7.3.2.4).
abbrev pub many_items : ℕ → ℕ → List Rect → List Item
many_items columns rows rects =
    item sps.sps_num_subpics_minus1 (length rects - 1)
    ∷ (places_items columns rows rects
    ++ item sps.sps_subpic_id_len_minus1 (id_bits (length rects) - 1) ∷ item sps.sps_subpic_id_mapping_explicitly_signalled_flag 0 ∷ [])

-- The subpictures of a picture with these numbers of columns and rows of CTUs (7.3.2.4).
abbrev pub subpic_items : ℕ → ℕ → SubpicPlan → List Item
subpic_items columns rows Absent = item sps.sps_subpic_info_present_flag 0 ∷ []
subpic_items columns rows (One id_len id) = item sps.sps_subpic_info_present_flag 1 ∷ one_items id_len id
subpic_items columns rows (Many rects) = item sps.sps_subpic_info_present_flag 1 ∷ many_items columns rows rects

-- DPB parameters only of the highest sublayer (clause 7.3.4).
abbrev pub dpb_items : List Item → List ℕ → List Item
dpb_items source numbers =
    where_so (is_set (number source sps.sps_max_sublayers_minus1)) (item sps.sps_sublayer_dpb_params_flag 0 ∷ [])
    ++ item dpb.dpb_max_dec_pic_buffering_minus1 (slice_index numbers 0) ∷ item dpb.dpb_max_num_reorder_pics (slice_index numbers 1)
    ∷ item dpb.dpb_max_latency_increase_plus1 (slice_index numbers 2) ∷ []

-- The rate of the source's highest sublayer (clause 7.3.5.2): its numbers are the last ones.
abbrev pub rate_items : List Item → List Item
rate_items source =
    let general = is_set (number source timing.fixed_pic_rate_general_flag) in
    let within = is_set (number source timing.fixed_pic_rate_within_cvs_flag) in
    item_of_source source timing.fixed_pic_rate_general_flag
    ∷ (where_so (not general) (item_of_source source timing.fixed_pic_rate_within_cvs_flag ∷ [])
    ++ where_so (general || within) (item_of_source source timing.elemental_duration_in_tc_minus1 ∷ []))

-- Timing if the source has it (clauses 7.3.5.1 and 7.3.5.2): its ticks, no HRD parameters, and that rate.
abbrev pub timing_items : List Item → List Item
timing_items source = where_so (is_set (number source sps.sps_timing_hrd_params_present_flag))
    (item_of_source source timing.num_units_in_tick ∷ item_of_source source timing.time_scale ∷ item timing.general_nal_hrd_params_present_flag 0
    ∷ item timing.general_vcl_hrd_params_present_flag 0
    ∷ (where_so (is_set (number source sps.sps_max_sublayers_minus1)) (item sps.sps_sublayer_cpb_params_present_flag 0 ∷ [])
    ++ rate_items source))

-- The picture: its size, and the subpictures (7.3.2.4).
abbrev pub picture_items : List Item → SpsShape → List Item
picture_items source shape =
    picture_size_items shape.width shape.height shape.window
    ++ subpic_items (quotient shape.width (ctb_size_of source)) (quotient shape.height (ctb_size_of source)) shape.subpics

-- All that is stated (7.3.2.4).
abbrev pub stated_sps_items : List Item → SpsShape → List Item
stated_sps_items source shape =
    sps_id_items shape.id
    ++ (profile_items source shape.level ++ (picture_items source shape ++ (dpb_items source shape.dpb ++ timing_items source)))

-- ---- shapes

-- A width or height in luma samples.
pub record IsSize (n : ℕ) : Type 0 where
  pub some : 0 < n
  pub small : n ≤ 16384
  pub whole : n % 8 ≡ 0

-- Rectangles that are parts of a picture with these columns and rows; the first begins at its first CTU, the last ends at its
-- last.
pub record AreParts (columns rows : ℕ) (rects : List Rect) : Type 0 where
  pub some : 0 < length rects
  pub few : length rects ≤ 1000
  pub parts : All (IsPart columns rows) rects
  pub begins : Begins (slice_index_or rects 0 no_rect)
  pub ends : Ends columns rows (slice_index_or rects (length rects - 1) no_rect)

abbrev pub IsPlan : ℕ → ℕ → SubpicPlan → Type 0
IsPlan columns rows Absent = Unit {0}
IsPlan columns rows (One id_len id) = (id_len ≤ 15) × IfSome id (λ n. n < 2 ^ (id_len + 1))
IsPlan columns rows (Many rects) = AreParts columns rows rects

-- Numbers that a set can have whose CTUs have this size.
pub record IsShape (ctb_size : ℕ) (shape : SpsShape) : Type 0 where
  pub id : shape.id < 16
  pub width : IsSize shape.width
  pub height : IsSize shape.height
  pub window : All IsCodeNumber shape.window
  pub dpb : All IsCodeNumber shape.dpb
  pub plan : IsPlan (quotient shape.width ctb_size) (quotient shape.height ctb_size) shape.subpics

-- ---- the rewritten set (our own)

-- The items are those of a set. Those of the fields that are copied are the source's, and the others are exactly what is
-- stated.
abbrev pub IsReshapedSps : List Item → SpsShape → List Item → Type 0
IsReshapedSps source shape items =
    IsRewritten sps_form taken_sps_fields (shown_items taken_sps_fields source) (stated_sps_items source shape) items
