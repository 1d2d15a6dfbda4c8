-- A frame that is composed of pictures. Each is placed in a region, a rectangle of the frame, and its slices are moved to the
-- region's corner. The regions are the frame's subpictures. Our own. Laws on frames, here and in `vx_fit`, rely on it.
use Rattle.std.specs.Prelude.{◌≡◌, ℕ, List, [], ◌∷◌, All, length, map}
use Rattle.std.specs.List.{flat_map, zip}
use Rattle.vx_layout.specs.declared.numbers.Numbers.{Numbers}
use Rattle.vx_layout.specs.declared.rect.Rect.{Rect}
use Rattle.vx_layout.specs.Borders.{SameInside, SplitsAtLines}
use Rattle.vx_layout.specs.Faults.{height, width}
use Rattle.vx_layout.specs.Layouts.{HasLayout}
use Rattle.vx_layout.specs.Rects.{CoversOnce, IsPart, whole_picture}
use Rattle.vx_layout.specs.Regions.{moved_to}
use Rattle.vx_layout.specs.Shapes.{HasCtu}

-- The slices of a frame: those of the picture in each region, moved to its corner, in the order of the regions.
abbrev pub frame_slices : List Rect → List (List Rect) → List Rect
frame_slices regions pictures = flat_map (λ p. map (moved_to p.0) p.1) (zip regions pictures)

-- Slices that hold CTUs and make up a picture of the region's size.
pub record Fills (region : Rect) (slices : List Rect) : Type 0 where
  pub parts : All (IsPart region.w region.h) slices
  pub once : CoversOnce slices region.w region.h

-- A picture that can be placed in a region of a frame with these tile bounds: it has one subpicture and the region's size, and
-- each of its slices has a CTU. Strictly inside the region the frame's bounds are its own, and the region's borders split the
-- frame's tiles well.
pub record IsPlaced (columns rows : List ℕ) (region : Rect) (picture : Numbers) : Type 0 where
  pub layout : HasLayout picture
  pub lone : length picture.subpics ≡ 1
  pub slices : All HasCtu picture.slices
  pub wide : width picture ≡ region.w
  pub high : height picture ≡ region.h
  pub across : SameInside columns region.x picture.columns
  pub down : SameInside rows region.y picture.rows
  pub borders : SplitsAtLines columns rows region

-- The frame of these tile bounds with these pictures in its regions.
abbrev pub frame_of : List ℕ → List ℕ → List Rect → List Numbers → Numbers
frame_of columns rows regions pictures = record {
  columns = columns;
  rows = rows;
  slices = frame_slices regions (map (λ p. p.slices) pictures);
  subpics = regions;
}

-- A picture, as one subpicture that is all of it.
abbrev pub with_one_subpic : Numbers → Numbers
with_one_subpic n = record {
  columns = n.columns;
  rows = n.rows;
  slices = n.slices;
  subpics = whole_picture (width n) (height n) ∷ [];
}
