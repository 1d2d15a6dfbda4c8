-- A picture's CTUs with a number at each, and the effect of painting rectangles on them.
use Rattle.std.specs.Prelude.{◌≡◌, ◌≢◌, ℕ, ◌+◌, ◌*◌, ◌-◌, ◌<◌, ◌≤◌, true, List, length, take, count_by, slice_index}
use Rattle.std.specs.List.{slice_index_or}
use Rattle.vx_layout.specs.declared.rect.Rect.{Rect}
use Rattle.vx_layout.specs.declared.grid.Grid.{Grid}
use Rattle.vx_layout.specs.Rects.{holds}

-- The number at the CTU in column x and row y.
unfoldable pub mark_at : Grid → ℕ → ℕ → ℕ
mark_at g x y = slice_index g.marks.items (y * g.width + x)

-- `after` is `before`, with the same size and the mark at each CTU of these columns and rows, where no mark was before.
pub record Paints (before after : Grid) (left right top bottom mark : ℕ) : Type 0 where
  pub same_width : after.width ≡ before.width
  pub same_height : after.height ≡ before.height
  pub inside : (x y : ℕ) → left ≤ x → x < right → top ≤ y → y < bottom → (mark_at before x y ≡ 0) × (mark_at after x y ≡ mark)
  pub outside : (x y : ℕ) → x < before.width → (left ≤ x → x < right → top ≤ y → y < bottom → ⊥) → mark_at after x y ≡ mark_at before x y

-- The same for the CTUs of a rectangle that lie in the picture.
pub record PaintsRect (before after : Grid) (r : Rect) (mark : ℕ) : Type 0 where
  pub same_width : after.width ≡ before.width
  pub same_height : after.height ≡ before.height
  pub inside : (x y : ℕ) → x < before.width → y < before.height → holds r x y ≡ true
      → (mark_at before x y ≡ 0) × (mark_at after x y ≡ mark)
  pub outside : (x y : ℕ) → x < before.width → y < before.height → ¬ (holds r x y ≡ true) → mark_at after x y ≡ mark_at before x y

-- A CTU of these columns and rows bears a mark.
pub record IsTaken (g : Grid) (left right top bottom : ℕ) : Type 0 where
  pub x : ℕ
  pub y : ℕ
  pub in_columns : (left ≤ x) × (x < right)
  pub in_rows : (top ≤ y) × (y < bottom)
  pub marked : mark_at g x y ≢ 0

-- A CTU of the rectangle bears a mark.
pub record IsTakenIn (g : Grid) (r : Rect) : Type 0 where
  pub x : ℕ
  pub y : ℕ
  pub in_picture : (x < g.width) × (y < g.height)
  pub inside : holds r x y ≡ true
  pub marked : mark_at g x y ≢ 0

-- A CTU bears no mark.
pub record IsBare (g : Grid) : Type 0 where
  pub x : ℕ
  pub y : ℕ
  pub in_picture : (x < g.width) × (y < g.height)
  pub unmarked : mark_at g x y ≡ 0

-- The first k rectangles were painted at the CTU, each with its number from 1: 0 if none contains it, otherwise the only one that
-- does.
pub record IsMark (rects : List Rect) (k x y mark : ℕ) : Type 0 where
  pub none : mark ≡ 0 → count_by (λ r. holds r x y) (take k rects) ≡ 0
  pub one : mark ≢ 0 → count_by (λ r. holds r x y) (take k rects) ≡ 1
  pub place : mark ≢ 0 → mark ≤ k
  pub holder : mark ≢ 0 → (d : Rect) → holds (slice_index_or rects (mark - 1) d) x y ≡ true

abbrev pub AreMarks : Grid → List Rect → ℕ → Type 0
AreMarks g rects k = (x y : ℕ) → x < g.width → y < g.height → IsMark rects k x y (mark_at g x y)

-- Each CTU has the number, from 1, of the one rectangle that contains it.
pub record IsMapOf (g : Grid) (rects : List Rect) (w h : ℕ) : Type 0 where
  pub width_is : g.width ≡ w
  pub height_is : g.height ≡ h
  pub marks : AreMarks g rects (length rects)
  pub all : (x y : ℕ) → x < w → y < h → mark_at g x y ≢ 0

-- The left and the upper neighbour of a CTU have no higher mark.
pub record RisesAt (g : Grid) (x y : ℕ) : Type 0 where
  pub across : (left : ℕ) → left + 1 ≡ x → mark_at g left y ≤ mark_at g x y
  pub down : (above : ℕ) → above + 1 ≡ y → mark_at g x above ≤ mark_at g x y

abbrev pub IsRising : Grid → Type 0
IsRising g = (x y : ℕ) → x < g.width → y < g.height → RisesAt g x y
