-- A layout seen as its numbers, and the slices of its subpictures by their addresses. Our own, except for addresses. The contracts
-- of `Layout` rely on it.
use Rattle.std.specs.Prelude.{ℕ, List}
use Rattle.std.specs.List.{slice_index_or}
use Rattle.vx_layout.specs.declared.numbers.Numbers.{Numbers}
use Rattle.vx_layout.specs.declared.rect.Rect.{Rect}
use Rattle.vx_layout.specs.Bounds.{Rises}
use Rattle.vx_layout.specs.Faults.{IsInLimits, IsLayout}
use Rattle.vx_layout.specs.Rects.{in_order, slices_of_subpicture}

-- No rectangle: the value past the end of a list.
abbrev pub no_rect : Rect
no_rect = record { x = 0; y = 0; w = 0; h = 0 }

-- Subpicture k.
abbrev pub subpic_at : Numbers → ℕ → Rect
subpic_at n k = slice_index_or n.subpics k no_rect

-- Its slices, in the order of their addresses (7.4.8, sh_slice_address).
abbrev pub slices_in : Numbers → ℕ → List Rect
slices_in n k = slices_of_subpicture n.slices (subpic_at n k)

-- Its slice of address m (7.4.8, sh_slice_address).
abbrev pub slice_at : Numbers → ℕ → ℕ → Rect
slice_at n k m = slice_index_or (slices_in n k) m no_rect

-- Slice i of all slices, by rising subpicture and then by their place in the slice list.
abbrev pub ordered_at : Numbers → ℕ → Rect
ordered_at n i = slice_index_or (in_order n.slices n.subpics) i no_rect

-- Numbers of which `Layout::new` makes a layout.
pub record HasLayout (n : Numbers) : Type 0 where
  pub faultless : IsLayout n
  pub limits : IsInLimits n
  pub columns : Rises n.columns
  pub rows : Rises n.rows
