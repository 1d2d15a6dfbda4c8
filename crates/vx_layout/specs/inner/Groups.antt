-- The slices of each subpicture, gathered slice by slice.
use Rattle.std.specs.Prelude.{◌≡◌, ℕ, ◌<◌, true, List, [], ◌∷◌, ◌++◌, length, cond}
use Rattle.std.specs.List.{slice_index_or}
use Rattle.vx_layout.specs.declared.rect.Rect.{Rect}
use Rattle.vx_layout.specs.declared.numbers.Numbers.{Numbers}
use Rattle.vx_layout.specs.Layouts.{HasLayout}
use Rattle.vx_layout.specs.Rects.{fits, slices_of_subpicture}

-- Group i has the slices of subpicture i.
pub record AreGroups (groups : List (List Rect)) (slices subpics : List Rect) : Type 0 where
  pub long : length groups ≡ length subpics
  pub each : (i : ℕ) (d : Rect) (e : List Rect) → i < length subpics
      → slice_index_or groups i e ≡ slices_of_subpicture slices (slice_index_or subpics i d)

-- The slice r was added to each group in whose subpicture it lies.
pub record Adds (before after : List (List Rect)) (r : Rect) (subpics : List Rect) : Type 0 where
  pub long : length after ≡ length before
  pub each : (i : ℕ) (d : Rect) (e : List Rect) → i < length before
      → slice_index_or after i e ≡ slice_index_or before i e ++ cond (fits r (slice_index_or subpics i d)) (r ∷ []) []

-- r lies in subpicture i and in no other.
pub record IsOwner (subpics : List Rect) (r : Rect) (i : ℕ) : Type 0 where
  pub short : i < length subpics
  pub inside : (d : Rect) → fits r (slice_index_or subpics i d) ≡ true
  pub only : (j : ℕ) (d : Rect) → j < length subpics → fits r (slice_index_or subpics j d) ≡ true → j ≡ i

-- Numbers of a layout, and the groups that are stored with them.
pub record IsKept (n : Numbers) (groups : List (List Rect)) : Type 0 where
  pub layout : HasLayout n
  pub groups_are : AreGroups groups n.slices n.subpics
