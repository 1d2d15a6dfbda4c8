-- Laws on all layouts and on all tile bounds.
use Rattle.std.specs.Prelude.{◌≡◌, ℕ, ◌+◌, ◌<◌, ◌≤◌, ◌↔◌, true, List, ◌∷◌, All, Contains, cond, count_by, length, map, sum}
use Rattle.vx_layout.specs.declared.numbers.Numbers.{Numbers}
use Rattle.vx_layout.specs.Bounds.{Rises, bounds_of, last, sizes_between, sums_after, tile_sizes}
use Rattle.vx_layout.specs.Borders.{Begins, Ends}
use Rattle.vx_layout.specs.Faults.{IsLayout, IsLowestFault, height, width}
use Rattle.vx_layout.specs.Heights.{written_heights}
use Rattle.vx_layout.specs.Layouts.{HasLayout, ordered_at, slice_at, slices_in, subpic_at}
use Rattle.vx_layout.specs.Rects.{CoversOnce, holds, in_order}
use Rattle.vx_layout.specs.Regions.{counted_from, cut_bounds, moved, region_of}
use Rattle.vx_layout.specs.Scan.{ctus}
use Rattle.vx_layout.specs.Shapes.{AreListable, HasCtu}

-- Numbers have one lowest fault at most.
abbrev pub LowestFaultIsOne : Type 0
LowestFaultIsOne = (n : Numbers) (j k : ℕ) → IsLowestFault n j → IsLowestFault n k → j ≡ k

-- A layout has none.
abbrev pub LayoutHasNoFault : Type 0
LayoutHasNoFault = (n : Numbers) (k : ℕ) → IsLayout n → ¬ IsLowestFault n k

-- Each CTU of the picture lies in exactly one of a layout's slices in order.
abbrev pub InOrderCoversOnce : Type 0
InOrderCoversOnce = (n : Numbers) → IsLayout n → CoversOnce (in_order n.slices n.subpics) (width n) (height n)

-- Each CTU of a subpicture lies in exactly one of its slices, and a CTU of the picture outside it in none.
abbrev pub SlicesCoverSubpicture : Type 0
SlicesCoverSubpicture =
    (n : Numbers) (k x y : ℕ) → IsLayout n → k < length n.subpics → x < width n → y < height n
    → count_by (λ r. holds r x y) (slices_in n k) ≡ cond (holds (subpic_at n k) x y) 1 0

-- A CTU of a slice is a CTU of the picture.
abbrev pub SlicesLieInPicture : Type 0
SlicesLieInPicture =
    (n : Numbers) (i x y : ℕ) → IsLayout n → i < length (in_order n.slices n.subpics) → holds (ordered_at n i) x y ≡ true
    → (x < width n) × (y < height n)

-- A slice that holds a CTU comes no later than a slice that holds one not further left and not further up.
abbrev pub SlicesRunRightAndDown : Type 0
SlicesRunRightAndDown =
    (n : Numbers) (i j x y v u : ℕ) → IsLayout n → i < length (in_order n.slices n.subpics) → j < length (in_order n.slices n.subpics)
    → holds (ordered_at n i) x y ≡ true → holds (ordered_at n j) v u ≡ true → x ≤ v → y ≤ u → i ≤ j

-- The first slice of the first subpicture begins the picture, if it has a CTU.
abbrev pub FirstSliceBegins : Type 0
FirstSliceBegins = (n : Numbers) → HasLayout n → HasCtu (slice_at n 0 0) → Begins (slice_at n 0 0)

-- The last slice of the last subpicture ends the picture, if it has a CTU.
abbrev pub LastSliceEnds : Type 0
LastSliceEnds =
    (n : Numbers) (k m : ℕ) → HasLayout n → k + 1 ≡ length n.subpics → m + 1 ≡ length (slices_in n k) → HasCtu (slice_at n k m)
    → Ends (width n) (height n) (slice_at n k m)

-- Bounds that are cut twice are cut once.
abbrev pub CutsNest : Type 0
CutsNest =
    (bounds : List ℕ) (from size inner_from inner_size : ℕ) → inner_from + inner_size ≤ size
    → cut_bounds (cut_bounds bounds from size) inner_from inner_size ≡ cut_bounds bounds (from + inner_from) inner_size

-- Slice m of a region is slice m of the subpicture, counted from its corner.
abbrev pub RegionKeepsSlices : Type 0
RegionKeepsSlices =
    (n : Numbers) (k m : ℕ) → m < length (slices_in n k)
    → slice_at (region_of n k) 0 m ≡ counted_from (subpic_at n k) (slice_at n k m)

-- The CTUs of the two are the same in the same order, except for the corner.
abbrev pub RegionKeepsCtus : Type 0
RegionKeepsCtus =
    (n : Numbers) (k m : ℕ) → HasLayout n → k < length n.subpics → m < length (slices_in n k)
    → ctus n.columns n.rows (slice_at n k m)
    ≡ map (moved (subpic_at n k).x (subpic_at n k).y) (ctus (region_of n k).columns (region_of n k).rows (slice_at (region_of n k) 0 m))

-- A region's slices can be listed tile by tile if a layout's can.
abbrev pub RegionIsListable : Type 0
RegionIsListable =
    (n : Numbers) (k : ℕ) → HasLayout n → k < length n.subpics → AreListable n.columns n.rows n.slices
    → AreListable (region_of n k).columns (region_of n k).rows (region_of n k).slices

-- Bounds with the same members are the same.
abbrev pub BoundsByMembers : Type 0
BoundsByMembers = (a b : List ℕ) → Rises a → Rises b → ((n : ℕ) → Contains a n ↔ Contains b n) → a ≡ b

-- The bounds of tiles rise from 0 to the total.
abbrev pub BoundsReachTotal : Type 0
BoundsReachTotal =
    (explicit : List ℕ) (total : ℕ) → 0 < length explicit → All (λ size. 1 ≤ size) explicit → 1 ≤ total → sum explicit ≤ total
    → Rises (bounds_of explicit total) × (last (bounds_of explicit total) ≡ total)

-- Sizes that are all listed are the tile sizes.
abbrev pub ListedAreSizes : Type 0
ListedAreSizes = (sizes : List ℕ) → 0 < length sizes → All (λ size. 1 ≤ size) sizes → tile_sizes sizes (sum sizes) ≡ sizes

-- The bounds are their partial sums.
abbrev pub ListedGiveSums : Type 0
ListedGiveSums = (sizes : List ℕ) → 0 < length sizes → All (λ size. 1 ≤ size) sizes → bounds_of sizes (sum sizes) ≡ 0 ∷ sums_after 0 sizes

-- The bounds are those of the sizes between them.
abbrev pub BoundsBySizes : Type 0
BoundsBySizes = (bounds : List ℕ) → Rises bounds → 2 ≤ length bounds → bounds_of (sizes_between bounds) (last bounds) ≡ bounds

-- From the heights that are written all heights follow, by the rule for tile sizes.
abbrev pub HeightsAreReadBack : Type 0
HeightsAreReadBack =
    (heights : List ℕ) → 0 < length heights → All (λ height. 1 ≤ height) heights
    → tile_sizes (written_heights heights) (sum heights) ≡ heights
