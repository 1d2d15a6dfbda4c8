-- The frame that the pictures of a round make up. Our own.
use Rattle.std.specs.Prelude.{◌≡◌, ℕ, ◌≤◌, ◌<◌, List, All, length, sum_by, Option}
use Rattle.std.specs.List.{AllByRecursion, AllZip}
use Rattle.vx_layout.specs.declared.numbers.Numbers.{Numbers}
use Rattle.vx_layout.specs.Faults.{IsInLimits, IsLayout}
use Rattle.vx_fit.specs.declared.placed.FitFault.{FitFault}
use Rattle.vx_fit.specs.declared.placed.Placed.{Placed}
use Rattle.vx_fit.specs.FitFaults.{IsFitFault}
use Rattle.vx_fit.specs.FrameLines.{HaveLines, IsLinesFault}
use Rattle.vx_fit.specs.Placing.{FitTogether, IsInRange, frame_height, frame_width}
use Rattle.vx_fit.specs.Sources.{IsSource}
use Rattle.vx_sps.specs.Reshaped as sps_reshaped
use Rattle.vx_pps.specs.Reshaped as pps_reshaped
use Rattle.vx_pic.specs.Parts.{Parts}
use Rattle.vx_write.specs.InForce.{AreInForce}
use Rattle.vx_frame.specs.declared.corner.Corner.{Corner}
use Rattle.vx_frame.specs.declared.geometry.FrameGeometry.{FrameGeometry}
use Rattle.vx_frame.specs.declared.geometry.FrameRegions.{FrameRegions}
use Rattle.vx_frame.specs.Corners.{AreCorners}
use Rattle.vx_frame.specs.Regions.{corners_in, ctb_of, layouts_in, placed_in}
use Rattle.vx_frame.specs.Rounds.{picture_at}
use Rattle.vx_frame.specs.Rules.{most_slices}
use Rattle.vx_frame.specs.Shapes.{IsFrame, frame_pps_shape, frame_sps_shape}
use Rattle.vx_frame.specs.Counts.{pps_slots}

-- ---- what the rules on sets find

-- Width and height of the frame of regions that fit together.
pub record IsFitSize (placed : List Placed) (ctb : ℕ) (size : ℕ × ℕ) : Type 0 where
  pub width : size.0 ≡ frame_width placed
  pub height : size.1 ≡ frame_height placed
  pub fit : FitTogether placed ctb

-- Each picture has all slices of its layout.
abbrev pub IsWhole : Parts → Type 0
IsWhole q = length q.slices ≡ length q.layout.slices

abbrev pub AreWhole : List Parts → Type 0
AreWhole round = All IsWhole round

-- ---- the frame

-- What is known of a round that breaks no rule, from which its frame is shown to exist. Regions and tile lines have no fault, each layout
-- is that of a source of its region's size, and there aren't too many slices.
pub record CanBeJoined (corners : List Corner) (round : List Parts) : Type 0 where
  pub are : AreCorners corners
  pub same : length corners ≡ length round
  pub fits : (e : FitFault) → ¬ IsFitFault (placed_in corners round) (ctb_of round) e
  pub lines : (k : ℕ) → ¬ IsLinesFault (corners_in corners round) (layouts_in round) k
  pub sources : AllZip IsSource (corners_in corners round) (layouts_in round)
  pub few : sum_by (λ n. length n.slices) (layouts_in round) ≤ most_slices

-- These are its regions, which fit together, and its tile lines, which are each region's own.
pub record AreRegionsOf (corners : List Corner) (round : List Parts) (r : FrameRegions) : Type 0 where
  pub placed : r.placed.items ≡ placed_in corners round
  pub range : All IsInRange r.placed.items
  pub regions : r.regions.items ≡ corners_in corners round
  pub width : r.width ≡ frame_width (placed_in corners round)
  pub height : r.height ≡ frame_height (placed_in corners round)
  pub fit : FitTogether (placed_in corners round) (ctb_of round)
  pub lines : HaveLines r.columns r.rows (corners_in corners round) (layouts_in round)

-- And such a round can be joined.
pub record HaveRegions (corners : List Corner) (round : List Parts) (r : FrameRegions) : Type 0 where
  pub are : AreRegionsOf corners round r
  pub can : CanBeJoined corners round

-- What is known of its frame.
pub record MakeFrame (corners : List Corner) (round : List Parts) (frame : Numbers) : Type 0 where
  pub can : CanBeJoined corners round
  pub fit : FitTogether (placed_in corners round) (ctb_of round)
  pub is : IsFrame corners round frame
  pub are : AllByRecursion AreInForce round

-- Its sets can say what they are to say, and it is a layout.
pub record HasShapes (corners : List Corner) (round : List Parts) (frame : Numbers) : Type 0 where
  pub sps : (level : Option ℕ) → sps_reshaped.IsShape (ctb_of round) (frame_sps_shape corners round level)
  pub pps : (id : ℕ) → id < pps_slots → pps_reshaped.IsShape (picture_at round 0).pps (frame_pps_shape corners round frame id)
  pub layout : IsLayout frame
  pub limits : IsInLimits frame

abbrev pub FramesHaveShapes : Type 0
FramesHaveShapes = (corners : List Corner) (round : List Parts) (frame : Numbers) → MakeFrame corners round frame → HasShapes corners round frame

-- It is that of the round, and sets can say what is said of it.
pub record IsGeometryOf (corners : List Corner) (round : List Parts) (frame : FrameGeometry) : Type 0 where
  pub same : length corners ≡ length round
  pub some : 0 < length round
  pub few : length round ≤ 64
  pub placed : frame.placed.items ≡ placed_in corners round
  pub range : All IsInRange frame.placed.items
  pub layouts : frame.layouts.items ≡ layouts_in round
  pub width : frame.width ≡ frame_width (placed_in corners round)
  pub height : frame.height ≡ frame_height (placed_in corners round)
  pub is : IsFrame corners round frame.numbers
  pub shapes : HasShapes corners round frame.numbers

-- A round's corners aren't part of its frame: what is said of it is said for those of which it is the frame.
abbrev pub IsSomeGeometry : List Parts → FrameGeometry → Type 0
IsSomeGeometry round frame = (corners : List Corner) × IsGeometryOf corners round frame

abbrev pub OfGeometry : List Parts → FrameGeometry → (List Corner → Type 0) → Type 0
OfGeometry round frame P = (corners : List Corner) → IsGeometryOf corners round frame → P corners

-- It is that of the round, and its frame can be made.
pub record IsRoundGeometry (corners : List Corner) (round : List Parts) (g : FrameGeometry) : Type 0 where
  pub is : IsGeometryOf corners round g
  pub made : MakeFrame corners round g.numbers
