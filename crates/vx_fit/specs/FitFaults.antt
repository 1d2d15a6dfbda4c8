-- The faults for which regions don't fit together into a frame, and the region that is named. A fault counts only if none before it
-- is present: the frame's size, the regions' geometry by three causes, their order. Our own. The contract of `fit_regions` relies
-- on it.
use Rattle.std.specs.Prelude.{◌≡◌, ℕ, ◌<◌, ◌⊎◌, List, All, length}
use Rattle.std.specs.List.{AllPairs, slice_index_or}
use Rattle.vx_fit.specs.declared.placed.FitFault.{FitFault}
use Rattle.vx_fit.specs.declared.placed.FitFault.TheVariants.{TooLarge, Geometry, Order}
use Rattle.vx_fit.specs.declared.placed.Placed.{Placed}
use Rattle.vx_layout.specs.Rects.{Precedes}
use Rattle.vx_fit.specs.Lowest.{IsLowest}
use Rattle.vx_fit.specs.Placing.{IsCovered, IsFilled, IsOnGrid, IsTooLarge, Overlap, frame_height, frame_width, in_ctus}

-- No region: the value past the end of a list.
abbrev pub nowhere : Placed
nowhere = record { x = 0; y = 0; w = 0; h = 0 }

-- Region k.
abbrev pub region_at : List Placed → ℕ → Placed
region_at placed k = slice_index_or placed k nowhere

-- Region k has its corner off the grid (7.4.3.4).
abbrev pub IsOffGrid : List Placed → ℕ → ℕ → Type 0
IsOffGrid placed ctb k = ¬ IsOnGrid ctb (region_at placed k)

-- Region k overlaps one before it (6.3.1).
abbrev pub OverlapsLower : List Placed → ℕ → Type 0
OverlapsLower placed k = (j : ℕ) × (j < k) × Overlap (region_at placed j) (region_at placed k)

-- A position of the frame is in no region (6.3.1).
pub record HasGap (placed : List Placed) : Type 0 where
  pub x : ℕ
  pub y : ℕ
  pub in_width : x < frame_width placed
  pub in_height : y < frame_height placed
  pub uncovered : ¬ IsCovered placed x y

-- A CTU of region k has its left or upper neighbour in a later region (7.4.8, sh_slice_address).
abbrev pub ComesTooEarly : List Placed → ℕ → ℕ → Type 0
ComesTooEarly placed ctb k =
    (j : ℕ) × (k < j) × (j < length placed) × (¬ Precedes (in_ctus ctb (region_at placed k)) (in_ctus ctb (region_at placed j)))

-- k is the lowest region off the grid.
abbrev pub IsFirstOffGrid : List Placed → ℕ → ℕ → Type 0
IsFirstOffGrid placed ctb k = IsLowest (length placed) (IsOffGrid placed ctb) k

-- None is off the grid, and k is the lowest that overlaps one before it.
pub record IsFirstOverlap (placed : List Placed) (ctb k : ℕ) : Type 0 where
  pub grid : All (IsOnGrid ctb) placed
  pub lowest : IsLowest (length placed) (OverlapsLower placed) k

-- Nor do any overlap, and the frame has a gap, for which region 0 is named.
pub record LeavesGap (placed : List Placed) (ctb k : ℕ) : Type 0 where
  pub grid : All (IsOnGrid ctb) placed
  pub apart : AllPairs (λ p q. ¬ Overlap p q) placed
  pub gap : HasGap placed
  pub first : k ≡ 0

-- Region k is named for the regions' geometry.
pub record IsGeometryFault (placed : List Placed) (ctb k : ℕ) : Type 0 where
  pub small : ¬ IsTooLarge placed
  pub cause : IsFirstOffGrid placed ctb k ⊎ (IsFirstOverlap placed ctb k ⊎ LeavesGap placed ctb k)

-- Region k is named for their order.
pub record IsOrderFault (placed : List Placed) (ctb k : ℕ) : Type 0 where
  pub small : ¬ IsTooLarge placed
  pub grid : All (IsOnGrid ctb) placed
  pub apart : AllPairs (λ p q. ¬ Overlap p q) placed
  pub filled : IsFilled placed
  pub lowest : IsLowest (length placed) (ComesTooEarly placed ctb) k

-- The fault of these regions.
abbrev pub IsFitFault : List Placed → ℕ → FitFault → Type 0
IsFitFault placed ctb TooLarge = IsTooLarge placed
IsFitFault placed ctb (Geometry k) = IsGeometryFault placed ctb k
IsFitFault placed ctb (Order k) = IsOrderFault placed ctb k
