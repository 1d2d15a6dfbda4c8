-- The order of two rectangles by their borders.
use Rattle.std.specs.Prelude.{ℕ, ◌+◌, Bool, ◌&&◌, not, nat_lt, max, min}
use Rattle.vx_layout.specs.declared.rect.Rect.{Rect}

-- Whether one of the `size` numbers from `from` on is `step` above one of the other ones.
unfoldable pub meet : ℕ → ℕ → ℕ → ℕ → ℕ → Bool
meet from size other other_size step = nat_lt (max from (other + step)) (min (from + size) (other + other_size + step))

-- Whether no CTU of r has its left or its upper neighbour in s.
unfoldable pub precedes : Rect → Rect → Bool
precedes r s =
    not (meet r.x r.w s.x s.w 1 && meet r.y r.h s.y s.h 0) && not (meet r.x r.w s.x s.w 0 && meet r.y r.h s.y s.h 1)
