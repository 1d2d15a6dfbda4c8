-- What the sets of a frame of the pictures of a round say (H.266 7.4.3.4, 7.4.3.5).
use Rattle.std.specs.Prelude.{◌≡◌, ℕ, ◌+◌, ◌==◌, min, max, Bool, true, false, cond, List, [], ◌∷◌, map, filter, Option, None, unwrap_or}
use Rattle.std.specs.List.{list_any, zip}
use Rattle.vx_fields.specs.declared.ptl.TheConstants.{general_level_idc}
use Rattle.vx_fields.specs.declared.dpb.TheConstants as dpb
use Rattle.vx_fields.specs.declared.sps.TheConstants as sps
use Rattle.vx_fields.specs.declared.pps.TheConstants as pps
use Rattle.vx_table.specs.Loaded.{number}
use Rattle.vx_layout.specs.declared.numbers.Numbers.{Numbers}
use Rattle.vx_layout.specs.Frames.{frame_of}
use Rattle.vx_fit.specs.declared.placed.Placed.{Placed}
use Rattle.vx_fit.specs.FrameLines.{HaveLines}
use Rattle.vx_fit.specs.Placing.{frame_height, frame_width}
use Rattle.vx_sps.specs.declared.shape.SpsShape.{SpsShape}
use Rattle.vx_sps.specs.declared.shape.SubpicPlan.TheVariants.{Many}
use Rattle.vx_pps.specs.declared.shape.PpsShape.{PpsShape}
use Rattle.vx_pic.specs.Parts.{Parts}
use Rattle.vx_pic.specs.Sets.{signed}
use Rattle.vx_frame.specs.declared.corner.Corner.{Corner}
use Rattle.vx_frame.specs.Regions.{corners_in, ctb_of, layouts_in, placed_in}
use Rattle.vx_frame.specs.Rounds.{picture_at}
use Rattle.vx_frame.specs.Rules.{crosses_slices, crosses_tiles, has_slices, has_tiles}

-- ---- of several pictures (our own)

-- The least and the greatest of numbers; 0 of none.
abbrev pub least : List ℕ → ℕ
least [] = 0
least (n ∷ []) = n
least (n ∷ m ∷ more) = min n (least (m ∷ more))

abbrev pub greatest : List ℕ → ℕ
greatest [] = 0
greatest (n ∷ more) = max n (greatest more)

-- What the lowest picture of which something holds has.
abbrev pub of_lowest : {A : Type 0} → (Parts → Bool) → (Parts → A) → A → List Parts → A
of_lowest has f none [] = none
of_lowest has f none (q ∷ round) = cond (has q) (f q) (of_lowest has f none round)

-- The numbers that their SPSs give a field.
abbrev pub numbers_in_round : List Parts → ℕ → List ℕ
numbers_in_round round of = map (λ q. number q.sps of) round

-- ---- the SPS (our own choices)

-- The offsets, for an edge of the frame, of the windows of the regions that touch it.
abbrev pub offsets_at : (Placed → Bool) → ℕ → List Placed → List Parts → List ℕ
offsets_at touches of placed round = map (λ r. number r.1.sps of) (filter (λ r. touches r.0) (zip placed round))

-- Left, right, top and bottom: the least of these.
abbrev pub frame_window : List Placed → List Parts → List ℕ
frame_window placed round =
    least (offsets_at (λ p. p.x == 0) sps.sps_conf_win_left_offset placed round)
    ∷ least (offsets_at (λ p. p.x + p.w == frame_width placed) sps.sps_conf_win_right_offset placed round)
    ∷ least (offsets_at (λ p. p.y == 0) sps.sps_conf_win_top_offset placed round)
    ∷ least (offsets_at (λ p. p.y + p.h == frame_height placed) sps.sps_conf_win_bottom_offset placed round) ∷ []

-- The DPB parameters of the highest sublayer: the greatest of each. No latency is bounded if one isn't (7.4.5,
-- dpb_max_latency_increase_plus1).
abbrev pub latency_of : List ℕ → ℕ
latency_of latencies = cond (list_any (λ n. n == 0) latencies) 0 (greatest latencies)

abbrev pub frame_dpb : List Parts → List ℕ
frame_dpb round =
    greatest (numbers_in_round round dpb.dpb_max_dec_pic_buffering_minus1) ∷ greatest (numbers_in_round round dpb.dpb_max_num_reorder_pics)
    ∷ latency_of (numbers_in_round round dpb.dpb_max_latency_increase_plus1) ∷ []

-- The level that is asked for, or else the highest.
abbrev pub frame_level : List Parts → Option ℕ → ℕ
frame_level round level = unwrap_or level (greatest (numbers_in_round round general_level_idc))

-- What the SPS says: its id is 0, and each region is a subpicture.
abbrev pub frame_sps_shape : List Corner → List Parts → Option ℕ → SpsShape
frame_sps_shape corners round level = record {
  id = 0;
  width = frame_width (placed_in corners round);
  height = frame_height (placed_in corners round);
  window = frame_window (placed_in corners round) round;
  level = frame_level round level;
  dpb = frame_dpb round;
  subpics = Many (corners_in corners round);
}

-- ---- the PPS (our own choices)

-- The frame of the pictures: its tile lines, and their slices, by source and then by address.
pub record IsFrame (corners : List Corner) (round : List Parts) (frame : Numbers) : Type 0 where
  pub lines : HaveLines frame.columns frame.rows (corners_in corners round) (layouts_in round)
  pub pictures : frame ≡ frame_of frame.columns frame.rows (corners_in corners round) (layouts_in round)

-- What the PPS with this id says: loop filters cross the borders of tiles, and of slices, as in the lowest picture with several; the QP
-- is source 0's.
abbrev pub frame_pps_shape : List Corner → List Parts → Numbers → ℕ → PpsShape
frame_pps_shape corners round frame id = record {
  id = id;
  sps_id = 0;
  width = frame_width (placed_in corners round);
  height = frame_height (placed_in corners round);
  ctb = ctb_of round;
  subpic_id = None;
  tiles = record { columns = frame.columns; rows = frame.rows };
  slices = frame.slices;
  across_tiles = of_lowest has_tiles crosses_tiles false round;
  across_slices = of_lowest has_slices crosses_slices false round;
  init_qp = signed (picture_at round 0).pps pps.pps_init_qp_minus26;
  merged = true;
}
