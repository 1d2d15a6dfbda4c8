-- Laws on frames that are composed of pictures. `regions` are the regions of a frame, and `pictures` the contents of the regions,
-- by index: for each picture its slices, or in the laws on whole frames its numbers.
use Rattle.std.specs.Prelude.{◌≡◌, ℕ, ◌+◌, ◌-◌, ◌<◌, ◌≤◌, ◌↔◌, ◌⊎◌, true, List, All, Contains, ◌++◌, length, map, take}
use Rattle.std.specs.List.{AllPairs, AllZip, Any, slice_index_or}
use Rattle.vx_layout.specs.declared.numbers.Numbers.{Numbers}
use Rattle.vx_layout.specs.declared.rect.Rect.{Rect}
use Rattle.vx_layout.specs.Borders.{Begins, Ends, SameInside, SplitsAtLines}
use Rattle.vx_layout.specs.Bounds.{Rises, last}
use Rattle.vx_layout.specs.Faults.{IsLayout, IsTile, SameSides, SplitsWell, SubpicsCover}
use Rattle.vx_layout.specs.Frames.{Fills, IsPlaced, frame_of, frame_slices, with_one_subpic}
use Rattle.vx_layout.specs.Rects.{CoversOnce, IsPart, Precedes, fits, in_order, slices_of_subpicture}
use Rattle.vx_layout.specs.Regions.{counted_from, cut_bounds, moved_to, region_of}
use Rattle.vx_layout.specs.Shapes.{AreListable, StandTogether}

-- The regions that lie in one tile are next to each other in the list.
abbrev pub TilesHoldRuns : List ℕ → List ℕ → List Rect → Type 0
TilesHoldRuns columns rows regions = (t : Rect) → IsTile columns rows t → StandTogether regions t

-- s begins at a tile row, or is directly below r with the same left and right borders.
abbrev pub BeginsOrFollows : List ℕ → Rect → Rect → Type 0
BeginsOrFollows rows r s = Contains rows s.y ⊎ (SameSides r s × (r.y + r.h ≡ s.y))

-- So does each region, after the one before it.
abbrev pub StandInRuns : List ℕ → List Rect → Type 0
StandInRuns rows regions =
    (k : ℕ) (d : Rect) → k + 1 < length regions → BeginsOrFollows rows (slice_index_or regions k d) (slice_index_or regions (k + 1) d)

-- Then the regions of one tile are next to each other, if they cover a frame once, in order, and their borders split the tiles
-- well.
abbrev pub RunsFillTiles : Type 0
RunsFillTiles =
    (columns rows : List ℕ) (regions : List Rect) → All (IsPart (last columns) (last rows)) regions
    → CoversOnce regions (last columns) (last rows) → AllPairs Precedes regions
    → All (SplitsAtLines columns rows) regions → StandInRuns rows regions → TilesHoldRuns columns rows regions

-- Counting from a corner that is not further right nor further down, and then moving back, changes nothing.
abbrev pub MovingUndoesCounting : Type 0
MovingUndoesCounting = (corner r : Rect) → corner.x ≤ r.x → corner.y ≤ r.y → moved_to corner (counted_from corner r) ≡ r

-- Tiles and a part of the picture split one another well exactly by the part's borders.
abbrev pub SplitByBorders : Type 0
SplitByBorders =
    (columns rows : List ℕ) (s : Rect) → Rises columns → Rises rows → IsPart (last columns) (last rows) s
    → SplitsWell columns rows s ↔ SplitsAtLines columns rows s

-- If the bounds inside a region are a picture's own, then so are the bounds cut to the region.
abbrev pub CutBoundsAreOwn : Type 0
CutBoundsAreOwn =
    (bounds own : List ℕ) (from : ℕ) → Rises bounds → Rises own → 0 < last own → SameInside bounds from own
    → cut_bounds bounds from (last own) ≡ own

-- The first of rectangles that cover a picture once and are in order begins it, if it is a part of it.
abbrev pub FirstBegins : Type 0
FirstBegins =
    (rects : List Rect) (w h : ℕ) (d : Rect) → CoversOnce rects w h → AllPairs Precedes rects → 0 < length rects
    → IsPart w h (slice_index_or rects 0 d) → Begins (slice_index_or rects 0 d)

-- The last one ends it.
abbrev pub LastEnds : Type 0
LastEnds =
    (rects : List Rect) (w h : ℕ) (d : Rect) → CoversOnce rects w h → AllPairs Precedes rects → 0 < length rects
    → IsPart w h (slice_index_or rects (length rects - 1) d) → Ends w h (slice_index_or rects (length rects - 1) d)

-- The slices of a picture that is placed in a region fill it.
abbrev pub PlacedFills : Type 0
PlacedFills =
    (columns rows : List ℕ) (region : Rect) (picture : Numbers) → IsPlaced columns rows region picture
    → Fills region picture.slices

-- Slices that fill each of the regions of their index do so pair by pair.
abbrev pub FillsByIndex : Type 0
FillsByIndex =
    (regions : List Rect) (pictures : List (List Rect)) → length regions ≡ length pictures
    → ((k : ℕ) (d : Rect) (e : List Rect) → k < length regions → Fills (slice_index_or regions k d) (slice_index_or pictures k e))
    → AllZip Fills regions pictures

-- So do pictures that are placed in them.
abbrev pub PlacedByIndex : Type 0
PlacedByIndex =
    (columns rows : List ℕ) (regions : List Rect) (pictures : List Numbers) → length regions ≡ length pictures
    → ((k : ℕ) (d : Rect) (e : Numbers) → k < length regions
    → IsPlaced columns rows (slice_index_or regions k d) (slice_index_or pictures k e))
    → AllZip (IsPlaced columns rows) regions pictures

-- The frame's slices cover it once if the regions do.
abbrev pub FrameSlicesCoverOnce : Type 0
FrameSlicesCoverOnce =
    (regions : List Rect) (pictures : List (List Rect)) (w h : ℕ) → CoversOnce regions w h → AllZip Fills regions pictures
    → CoversOnce (frame_slices regions pictures) w h

-- The frame's slices are in order if the regions are, and the slices of each picture.
abbrev pub FrameSlicesStandInOrder : Type 0
FrameSlicesStandInOrder =
    (regions : List Rect) (pictures : List (List Rect)) → AllPairs Precedes regions → AllZip Fills regions pictures
    → All (AllPairs Precedes) pictures
    → AllPairs Precedes (frame_slices regions pictures)

-- Region by region the frame's slices are its slice list itself.
abbrev pub FrameSlicesAreInOrder : Type 0
FrameSlicesAreInOrder =
    (regions : List Rect) (pictures : List (List Rect)) (w h : ℕ) → All (IsPart w h) regions → CoversOnce regions w h
    → AllZip Fills regions pictures
    → in_order (frame_slices regions pictures) regions ≡ frame_slices regions pictures

-- The frame's slices in a region are those of the picture there, moved to the region's corner.
abbrev pub FrameSlicesOfRegion : Type 0
FrameSlicesOfRegion =
    (regions : List Rect) (pictures : List (List Rect)) (w h k : ℕ) (d : Rect) (e : List Rect) → All (IsPart w h) regions
    → CoversOnce regions w h → AllZip Fills regions pictures → k < length regions
    → slices_of_subpicture (frame_slices regions pictures) (slice_index_or regions k d)
    ≡ map (moved_to (slice_index_or regions k d)) (slice_index_or pictures k e)

-- Counted from the corner they are the picture's own.
abbrev pub FrameSlicesOfRegionCounted : Type 0
FrameSlicesOfRegionCounted =
    (regions : List Rect) (pictures : List (List Rect)) (w h k : ℕ) (d : Rect) (e : List Rect) → All (IsPart w h) regions
    → CoversOnce regions w h → AllZip Fills regions pictures → k < length regions
    → map (counted_from (slice_index_or regions k d)) (slices_of_subpicture (frame_slices regions pictures) (slice_index_or regions k d))
    ≡ slice_index_or pictures k e

-- Each slice of the frame lies in a region.
abbrev pub FrameSlicesFit : Type 0
FrameSlicesFit =
    (regions : List Rect) (pictures : List (List Rect)) → AllZip Fills regions pictures
    → All (λ r. Any (λ s. fits r s ≡ true) regions) (frame_slices regions pictures)

-- The slices of one region more come after those so far.
abbrev pub FrameSlicesGrow : Type 0
FrameSlicesGrow =
    (regions : List Rect) (pictures : List (List Rect)) (k : ℕ) (d : Rect) (e : List Rect) → k < length regions → k < length pictures
    → frame_slices (take (k + 1) regions) (take (k + 1) pictures)
    ≡ frame_slices (take k regions) (take k pictures) ++ map (moved_to (slice_index_or regions k d)) (slice_index_or pictures k e)

-- A frame is a layout if the pictures are placed in its regions, and these cover it and are in order.
abbrev pub FrameIsLayout : Type 0
FrameIsLayout =
    (columns rows : List ℕ) (regions : List Rect) (pictures : List Numbers)
    → SubpicsCover (frame_of columns rows regions pictures) → AllPairs Precedes regions
    → AllZip (IsPlaced columns rows) regions pictures
    → IsLayout (frame_of columns rows regions pictures)

-- Its region k is picture k.
abbrev pub FrameHasPictures : Type 0
FrameHasPictures =
    (columns rows : List ℕ) (regions : List Rect) (pictures : List Numbers) (k : ℕ) (d : Numbers) → Rises columns
    → Rises rows → SubpicsCover (frame_of columns rows regions pictures) → AllZip (IsPlaced columns rows) regions pictures
    → k < length regions
    → region_of (frame_of columns rows regions pictures) k ≡ slice_index_or pictures k d

-- It is also a layout as one subpicture, if it has a region.
abbrev pub FrameAloneIsLayout : Type 0
FrameAloneIsLayout =
    (columns rows : List ℕ) (regions : List Rect) (pictures : List Numbers) → Rises columns → Rises rows
    → 0 < length regions → SubpicsCover (frame_of columns rows regions pictures) → AllPairs Precedes regions
    → AllZip (IsPlaced columns rows) regions pictures
    → IsLayout (with_one_subpic (frame_of columns rows regions pictures))

-- Its slices can be listed tile by tile if each picture's can, and the regions of one tile are next to each other.
abbrev pub FrameIsListable : Type 0
FrameIsListable =
    (columns rows : List ℕ) (regions : List Rect) (pictures : List Numbers) → Rises rows
    → SubpicsCover (frame_of columns rows regions pictures) → AllZip (IsPlaced columns rows) regions pictures
    → TilesHoldRuns columns rows regions → All (λ p. AreListable p.columns p.rows p.slices) pictures
    → AreListable columns rows (frame_of columns rows regions pictures).slices
