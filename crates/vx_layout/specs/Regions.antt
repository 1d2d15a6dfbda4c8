-- Rectangles counted from a corner and moved to it, and a subpicture as a layout of its own. Our own. The contract of
-- `Layout::region` relies on it.
use Rattle.std.specs.Prelude.{ℕ, ◌+◌, ◌-◌, ◌&&◌, nat_lt, List, [], ◌∷◌, ◌++◌, filter, map}
use Rattle.vx_layout.specs.declared.numbers.Numbers.{Numbers}
use Rattle.vx_layout.specs.declared.rect.Rect.{Rect}
use Rattle.vx_layout.specs.Layouts.{slices_in, subpic_at}
use Rattle.vx_layout.specs.Rects.{whole_picture}

-- The bounds strictly inside the `size` columns or rows that begin at `from`.
abbrev pub inner : List ℕ → ℕ → ℕ → List ℕ
inner bounds from size = filter (λ b. nat_lt from b && nat_lt b (from + size)) bounds

-- The bounds cut to these columns or rows, and counted from the first of them.
abbrev pub cut_bounds : List ℕ → ℕ → ℕ → List ℕ
cut_bounds bounds from size = 0 ∷ (map (λ b. b - from) (inner bounds from size) ++ size ∷ [])

-- A rectangle counted from the corner of another.
abbrev pub counted_from : Rect → Rect → Rect
counted_from corner r = record { x = r.x - corner.x; y = r.y - corner.y; w = r.w; h = r.h }

-- One that was counted from a corner, moved back to it.
abbrev pub moved_to : Rect → Rect → Rect
moved_to corner r = record { x = r.x + corner.x; y = r.y + corner.y; w = r.w; h = r.h }

-- The layout of subpicture k: its tile bounds, its slices by their addresses, and one subpicture that is all of it.
abbrev pub region_of : Numbers → ℕ → Numbers
region_of n k = record {
  columns = cut_bounds n.columns (subpic_at n k).x (subpic_at n k).w;
  rows = cut_bounds n.rows (subpic_at n k).y (subpic_at n k).h;
  slices = map (counted_from (subpic_at n k)) (slices_in n k);
  subpics = whole_picture (subpic_at n k).w (subpic_at n k).h ∷ [];
}

-- A CTU that was counted from the corner at a, b, moved back to it.
abbrev pub moved : ℕ → ℕ → ℕ × ℕ → ℕ × ℕ
moved a b c = (c.0 + a, c.1 + b)
