-- The borders of a rectangle against the bounds of tiles, and against the borders of the picture. Our own. Definitions and laws on
-- frames rely on it.
use Rattle.std.specs.Prelude.{◌≡◌, ◌↔◌, ℕ, ◌+◌, ◌<◌, ◌⊎◌, List, Contains}
use Rattle.vx_layout.specs.declared.rect.Rect.{Rect}
use Rattle.vx_layout.specs.Bounds.{last}
use Rattle.vx_layout.specs.Faults.{NoneBetween}

-- The left and the right border are bounds, and so are the upper and the lower one, or no bound at all passes through. By this,
-- tiles and a subpicture split one another well (6.3.1).
pub record SplitsAtLines (columns rows : List ℕ) (s : Rect) : Type 0 where
  pub left : Contains columns s.x
  pub right : Contains columns (s.x + s.w)
  pub ends : (Contains rows s.y × Contains rows (s.y + s.h)) ⊎ (NoneBetween columns s.x (s.x + s.w) × NoneBetween rows s.y (s.y + s.h))

-- `own` are the bounds of a picture at `from`: strictly inside it the bounds are its own, moved there.
abbrev pub SameInside : List ℕ → ℕ → List ℕ → Type 0
SameInside bounds from own = (c : ℕ) → 0 < c → c < last own → Contains bounds (from + c) ↔ Contains own c

-- A rectangle in the upper left corner of the picture.
pub record Begins (r : Rect) : Type 0 where
  pub left : r.x ≡ 0
  pub top : r.y ≡ 0

-- A rectangle in the lower right corner of a picture of w times h CTUs.
pub record Ends (w h : ℕ) (r : Rect) : Type 0 where
  pub right : r.x + r.w ≡ w
  pub bottom : r.y + r.h ≡ h
