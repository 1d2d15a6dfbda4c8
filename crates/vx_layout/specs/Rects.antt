-- Rectangles of CTUs, and lists of them that represent the slices or the subpictures of a picture (H.266 6.3.1, 6.5.1). The
-- contracts of `Rect`, and all definitions of layouts, rely on it.
use Rattle.std.specs.Prelude.{◌≡◌, ◌==◌, ℕ, ◌+◌, ◌<◌, ◌≤◌, Bool, true, ◌&&◌, ◌||◌, nat_le, nat_lt, List, filter, count_by}
use Rattle.std.specs.List.{flat_map}
use Rattle.vx_layout.specs.declared.rect.Rect.{Rect}

-- Whether the CTU in column x and row y lies in the rectangle (our own).
unfoldable pub holds : Rect → ℕ → ℕ → Bool
holds r x y = (nat_le r.x x && nat_lt x (r.x + r.w)) && (nat_le r.y y && nat_lt y (r.y + r.h))

-- Whether all CTUs of inner lie in outer, by their borders; a rectangle without a CTU lies everywhere (our own).
unfoldable pub fits : Rect → Rect → Bool
fits inner outer =
    (inner.w == 0 || inner.h == 0) ||
    ((nat_le outer.x inner.x && nat_le (inner.x + inner.w) (outer.x + outer.w)) &&
    (nat_le outer.y inner.y && nat_le (inner.y + inner.h) (outer.y + outer.h)))

-- Each CTU of a picture of w times h CTUs lies in exactly one of the rectangles (6.3.1).
abbrev pub CoversOnce : List Rect → ℕ → ℕ → Type 0
CoversOnce rects w h = (x y : ℕ) → x < w → y < h → count_by (λ r. holds r x y) rects ≡ 1

-- The slices of a subpicture, in the order of the slice list: slice m of them has the slice address m (H.266 7.4.8,
-- sh_slice_address).
abbrev pub slices_of_subpicture : List Rect → Rect → List Rect
slices_of_subpicture slices subpic = filter (λ r. fits r subpic) slices

-- All slices, by rising subpicture index and then by their place in the slice list (7.4.8, sh_slice_address).
abbrev pub in_order : List Rect → List Rect → List Rect
in_order slices subpics = flat_map (slices_of_subpicture slices) subpics

-- No CTU of r has its left or its upper neighbour in s (7.4.8, sh_slice_address).
abbrev pub Precedes : Rect → Rect → Type 0
Precedes r s =
    (x y : ℕ) → holds s x y ≡ true → (¬ (holds r (x + 1) y ≡ true)) × (¬ (holds r x (y + 1) ≡ true))

-- A picture of w times h CTUs as a rectangle (our own).
abbrev pub whole_picture : ℕ → ℕ → Rect
whole_picture w h = record { x = 0; y = 0; w = w; h = h }

-- The rectangle holds a CTU and lies in a picture of w times h CTUs (6.3.1).
pub record IsPart (w h : ℕ) (r : Rect) : Type 0 where
  pub wide : 0 < r.w
  pub high : 0 < r.h
  pub across : r.x + r.w ≤ w
  pub down : r.y + r.h ≤ h
