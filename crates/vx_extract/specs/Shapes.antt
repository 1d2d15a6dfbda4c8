-- What the sets that are sent for a subpicture say (H.266 7.4.3.4, 7.4.3.5).
use Rattle.std.specs.Prelude.{ℕ, pos, ◌+◌, ◌==◌, Bool, false, cond, List, [], ◌∷◌, slice_index, Option, Some, None, unwrap_or}
use Rattle.vx_bits.specs.declared.list.Item.{Item}
use Rattle.vx_fields.specs.declared.ptl.TheConstants.{general_level_idc}
use Rattle.vx_fields.specs.declared.dpb.TheConstants as dpb
use Rattle.vx_fields.specs.declared.sps.TheConstants as sps
use Rattle.vx_fields.specs.declared.pps.TheConstants as pps
use Rattle.vx_table.specs.Scope.{is_set}
use Rattle.vx_table.specs.Loaded.{number}
use Rattle.vx_layout.specs.declared.rect.Rect.{Rect}
use Rattle.vx_layout.specs.Regions.{region_of}
use Rattle.vx_sps.specs.declared.shape.SpsShape.{SpsShape}
use Rattle.vx_sps.specs.declared.shape.SubpicPlan.{SubpicPlan}
use Rattle.vx_sps.specs.declared.shape.SubpicPlan.TheVariants.{Absent, One}
use Rattle.vx_sps.specs.Set.{ctu_columns_of, ctu_rows_of, ctb_size_of}
use Rattle.vx_sps.specs.Subpictures.{rect_of}
use Rattle.vx_pps.specs.declared.shape.PpsShape.{PpsShape}
use Rattle.vx_pic.specs.Sets.{sps_id, pps_id, referred_sps}
use Rattle.vx_pic.specs.PictureLayout.{needs_ids}
use Rattle.vx_pic.specs.Inputs.{luma_size}
use Rattle.vx_pic.specs.Parts.{Parts}

-- ---- the subpicture (C.7)

-- The size of the subpicture in luma samples (C.7).
abbrev pub width_in : Parts → ℕ → ℕ
width_in q target =
    luma_size (rect_of q.sps target).x (rect_of q.sps target).w (ctb_size_of q.sps) (number q.pps pps.pps_pic_width_in_luma_samples)

abbrev pub height_in : Parts → ℕ → ℕ
height_in q target =
    luma_size (rect_of q.sps target).y (rect_of q.sps target).h (ctb_size_of q.sps) (number q.pps pps.pps_pic_height_in_luma_samples)

-- The id of the subpicture (SubpicIdVal, 7.4.3.5).
abbrev pub id_in : Parts → ℕ → ℕ
id_in q target = slice_index q.ids target

-- ---- the SPS (C.7)

-- An offset of the source's window, if the subpicture touches that edge of the picture (C.7).
abbrev pub offset : List Item → Bool → ℕ → ℕ
offset source touches of = cond touches (number source of) 0

-- Left, right, top and bottom (C.7).
abbrev pub window_of : List Item → Rect → List ℕ
window_of source r =
    offset source (r.x == 0) sps.sps_conf_win_left_offset
    ∷ offset source (r.x + r.w == ctu_columns_of source) sps.sps_conf_win_right_offset
    ∷ offset source (r.y == 0) sps.sps_conf_win_top_offset
    ∷ offset source (r.y + r.h == ctu_rows_of source) sps.sps_conf_win_bottom_offset ∷ []

-- The DPB parameters of the source's highest sublayer, which come last (our own choice).
abbrev pub dpb_of : List Item → List ℕ
dpb_of source =
    number source dpb.dpb_max_dec_pic_buffering_minus1 ∷ number source dpb.dpb_max_num_reorder_pics
    ∷ number source dpb.dpb_max_latency_increase_plus1 ∷ []

-- The id of the subpicture is in the SPS, unless the source's ids are in the PPS (our own choice).
abbrev pub id_in_sps : Parts → ℕ → Option ℕ
id_in_sps q target = cond (needs_ids q.sps) None (Some (id_in q target))

-- One subpicture with the target's id, if the source describes subpictures (our own choice).
abbrev pub plan_of : Parts → ℕ → SubpicPlan
plan_of q target =
    cond (is_set (number q.sps sps.sps_subpic_info_present_flag)) (One (number q.sps sps.sps_subpic_id_len_minus1) (id_in_sps q target)) Absent

-- The level that is asked for, or else the source's (our own choice).
abbrev pub level_of : List Item → Option ℕ → ℕ
level_of source level = unwrap_or level (number source general_level_idc)

-- The SPS says this (C.7).
abbrev pub sps_shape : Parts → ℕ → Option ℕ → SpsShape
sps_shape q target level = record {
  id = sps_id q.sps;
  width = width_in q target;
  height = height_in q target;
  window = window_of q.sps (rect_of q.sps target);
  level = level_of q.sps level;
  dpb = dpb_of q.sps;
  subpics = plan_of q target;
}

-- ---- the PPS (C.7)

-- The id of the subpicture is in the PPS if the source's ids are there: the bits of an id, minus 1, and the id (our own choice).
abbrev pub id_in_pps : Parts → ℕ → Option (ℕ × ℕ)
id_in_pps q target = cond (needs_ids q.sps) (Some (number q.sps sps.sps_subpic_id_len_minus1, id_in q target)) None

-- Tiles and slices are the subpicture's (C.7), and whether loop filters cross their borders is the source's. If the source has
-- pps_no_pic_partition_flag 1, nothing is said of them. The QP is stated only for a frame.
abbrev pub pps_shape : Parts → ℕ → PpsShape
pps_shape q target = record {
  id = pps_id q.pps;
  sps_id = referred_sps q.pps;
  width = width_in q target;
  height = height_in q target;
  ctb = ctb_size_of q.sps;
  subpic_id = id_in_pps q target;
  tiles = record { columns = (region_of q.layout target).columns; rows = (region_of q.layout target).rows };
  slices = (region_of q.layout target).slices;
  across_tiles = is_set (number q.pps pps.pps_loop_filter_across_tiles_enabled_flag);
  across_slices = is_set (number q.pps pps.pps_loop_filter_across_slices_enabled_flag);
  init_qp = pos 0;
  merged = false;
}
