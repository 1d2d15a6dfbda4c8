-- Look-up tables of bounds.
use Rattle.std.specs.Prelude.{◌==◌, ℕ, ◌+◌, ◌<◌, ◌≤◌, Bool, ◌&&◌, ◌||◌, nat_le, List, Contains, length, slice_index}
use Rattle.vx_layout.specs.declared.rect.Rect.{Rect}
use Rattle.vx_layout.specs.Bounds.{last}

-- v is the first bound that isn't below x.
pub record IsNextBound (bounds : List ℕ) (x v : ℕ) : Type 0 where
  pub bound : Contains bounds v
  pub reaches : x ≤ v
  pub first : (c : ℕ) → Contains bounds c → x ≤ c → v ≤ c

-- `next` has at each number up to the last bound the first bound that isn't below it.
pub record AreNextBounds (bounds next : List ℕ) : Type 0 where
  pub long : last bounds < length next
  pub each : (x : ℕ) → x < length next → IsNextBound bounds x (slice_index next x)

-- By such a table: whether x is a bound.
abbrev pub is_line : List ℕ → ℕ → Bool
is_line next x = slice_index next x == x

-- Whether no bound is strictly between a and b.
abbrev pub none_between : List ℕ → ℕ → ℕ → Bool
none_between next a b = nat_le b (slice_index next (a + 1))

-- Whether the borders of a subpicture are where tiles allow them: left and right are bounds, and so are top and bottom, or no
-- bound at all passes through.
unfoldable pub splits_by : List ℕ → List ℕ → Rect → Bool
splits_by columns rows s =
    (is_line columns s.x && is_line columns (s.x + s.w)) &&
    ((is_line rows s.y && is_line rows (s.y + s.h)) || (none_between columns s.x (s.x + s.w) && none_between rows s.y (s.y + s.h)))
