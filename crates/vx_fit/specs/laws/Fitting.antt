-- Laws on regions that fit together and on their lines: there is one result for each list, and the frame is a layout whose
-- regions are the pictures.
use Rattle.std.specs.Prelude.{◌≡◌, ℕ, ◌+◌, ◌*◌, ◌-◌, ◌<◌, List, All, length, map, min}
use Rattle.std.specs.Int.{div_ceil}
use Rattle.std.specs.List.{AllZip, slice_index_or}
use Rattle.vx_layout.specs.declared.numbers.Numbers.{Numbers}
use Rattle.vx_layout.specs.declared.rect.Rect.{Rect}
use Rattle.vx_layout.specs.Borders.{Begins, Ends}
use Rattle.vx_layout.specs.Bounds.{last}
use Rattle.vx_layout.specs.Faults.{IsLayout}
use Rattle.vx_layout.specs.Frames.{frame_of, with_one_subpic}
use Rattle.vx_layout.specs.Regions.{region_of}
use Rattle.vx_layout.specs.Shapes.{AreListable}
use Rattle.vx_fit.specs.declared.placed.FitFault.{FitFault}
use Rattle.vx_fit.specs.declared.placed.Placed.{Placed}
use Rattle.vx_fit.specs.FitFaults.{IsFitFault}
use Rattle.vx_fit.specs.FrameLines.{HaveLines, IsLinesFault}
use Rattle.vx_fit.specs.Placing.{FitTogether, frame_height, frame_width, in_ctus}
use Rattle.vx_fit.specs.Sources.{IsSource}

-- Regions have at most one fault.
abbrev pub FitFaultIsOne : Type 0
FitFaultIsOne = (placed : List Placed) (ctb : ℕ) (d e : FitFault) → IsFitFault placed ctb d → IsFitFault placed ctb e → d ≡ e

-- If they fit together, they have none.
abbrev pub FittingHasNoFault : Type 0
FittingHasNoFault = (placed : List Placed) (ctb : ℕ) (e : FitFault) → FitTogether placed ctb → ¬ IsFitFault placed ctb e

-- If they have none, they fit together.
abbrev pub FaultlessFits : Type 0
FaultlessFits = (placed : List Placed) (ctb : ℕ) → ((e : FitFault) → ¬ IsFitFault placed ctb e) → FitTogether placed ctb

-- The part of the frame's samples in a region's CTUs is the region: the CTUs may be cut only at the frame's right and lower
-- border.
pub record AreItsSamples (placed : List Placed) (ctb : ℕ) (p : Placed) : Type 0 where
  pub left : (in_ctus ctb p).x * ctb ≡ p.x
  pub top : (in_ctus ctb p).y * ctb ≡ p.y
  pub wide : min (((in_ctus ctb p).x + (in_ctus ctb p).w) * ctb) (frame_width placed) - (in_ctus ctb p).x * ctb ≡ p.w
  pub high : min (((in_ctus ctb p).y + (in_ctus ctb p).h) * ctb) (frame_height placed) - (in_ctus ctb p).y * ctb ≡ p.h

-- Of regions that fit together and aren't empty, the CTUs of each have its samples.
abbrev pub BorderIsRegions : Type 0
BorderIsRegions =
    (placed : List Placed) (ctb : ℕ) → 0 < ctb → FitTogether placed ctb → All (λ p. (0 < p.w) × (0 < p.h)) placed
    → All (AreItsSamples placed ctb) placed

-- At most one region is the lowest that doesn't keep its lines.
abbrev pub LinesFaultIsOne : Type 0
LinesFaultIsOne =
    (corners : List Rect) (parts : List Numbers) (j k : ℕ)
    → IsLinesFault corners parts j → IsLinesFault corners parts k → j ≡ k

-- If all keep them, none is.
abbrev pub KeepingHasNoFault : Type 0
KeepingHasNoFault =
    (columns rows : List ℕ) (corners : List Rect) (parts : List Numbers) (k : ℕ)
    → HaveLines columns rows corners parts → ¬ IsLinesFault corners parts k

-- The lines make up one list of columns, and one of rows.
abbrev pub LinesAreOne : Type 0
LinesAreOne =
    (columns rows others below : List ℕ) (corners : List Rect) (parts : List Numbers)
    → HaveLines columns rows corners parts → HaveLines others below corners parts → (columns ≡ others) × (rows ≡ below)

-- The frame of these columns, rows and regions, with these pictures in them, is a layout by its regions and as one subpicture. Its
-- slices can be listed tile by tile, and its region k is picture k. It has the frame's size in CTUs; its first region begins it,
-- and its last one ends it.
pub record IsMergedLayout (placed : List Placed) (ctb : ℕ) (columns rows : List ℕ) (corners : List Rect) (parts : List Numbers) : Type 0 where
  pub layout : IsLayout (frame_of columns rows corners parts)
  pub alone : IsLayout (with_one_subpic (frame_of columns rows corners parts))
  pub listable : AreListable columns rows (frame_of columns rows corners parts).slices
  pub regions : (k : ℕ) (d : Numbers) → k < length corners → region_of (frame_of columns rows corners parts) k ≡ slice_index_or parts k d
  pub wide : last columns ≡ div_ceil (frame_width placed) ctb
  pub high : last rows ≡ div_ceil (frame_height placed) ctb
  pub begins : (d : Rect) → Begins (slice_index_or corners 0 d)
  pub ends : (d : Rect) → Ends (last columns) (last rows) (slice_index_or corners (length corners - 1) d)

-- This holds of regions that fit together, of sources of their sizes, and of the lines that they all keep.
abbrev pub FrameOfRegions : Type 0
FrameOfRegions =
    (placed : List Placed) (ctb : ℕ) (columns rows : List ℕ) (corners : List Rect) (parts : List Numbers)
    → 0 < length placed → 0 < ctb → FitTogether placed ctb → corners ≡ map (in_ctus ctb) placed
    → AllZip IsSource corners parts → HaveLines columns rows corners parts → IsMergedLayout placed ctb columns rows corners parts
