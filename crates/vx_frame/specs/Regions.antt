-- The regions of the pictures of a round, and the layouts in them. Our own.
use Rattle.std.specs.Prelude.{ℕ, List, [], ◌∷◌, map}
use Rattle.vx_fields.specs.declared.pps.TheConstants as pps
use Rattle.vx_table.specs.Loaded.{number}
use Rattle.vx_layout.specs.declared.numbers.Numbers.{Numbers}
use Rattle.vx_layout.specs.declared.rect.Rect.{Rect}
use Rattle.vx_layout.specs.Regions.{region_of}
use Rattle.vx_fit.specs.declared.placed.Placed.{Placed}
use Rattle.vx_fit.specs.Placing.{in_ctus}
use Rattle.vx_sps.specs.Set.{ctb_size_of}
use Rattle.vx_pic.specs.Parts.{Parts}
use Rattle.vx_frame.specs.declared.corner.Corner.{Corner}
use Rattle.vx_frame.specs.Rounds.{picture_at}

-- A picture with its upper left corner here, in luma samples.
abbrev pub placed_at : Corner → Parts → Placed
placed_at corner q = record {
  x = corner.x;
  y = corner.y;
  w = number q.pps pps.pps_pic_width_in_luma_samples;
  h = number q.pps pps.pps_pic_height_in_luma_samples;
}

-- Each picture at its corner.
abbrev pub placed_in : List Corner → List Parts → List Placed
placed_in (corner ∷ corners) (q ∷ round) = placed_at corner q ∷ placed_in corners round
placed_in _ _ = []

-- CtbSizeY, which all have if their kept fields are the same (7.4.3.4).
abbrev pub ctb_of : List Parts → ℕ
ctb_of round = ctb_size_of (picture_at round 0).sps

-- The regions in CTUs.
abbrev pub corners_in : List Corner → List Parts → List Rect
corners_in corners round = map (in_ctus (ctb_of round)) (placed_in corners round)

-- The layout of a picture's one subpicture.
abbrev pub layout_of : Parts → Numbers
layout_of q = region_of q.layout 0

abbrev pub layouts_in : List Parts → List Numbers
layouts_in round = map layout_of round
