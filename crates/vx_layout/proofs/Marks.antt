-- Painting a picture's CTUs, part by part.
use Rattle.std.proofs.Common.{◌≡◌, ◌≢◌, ℕ, ◌+◌, ◌-◌, ◌*◌, ◌<◌, ◌≤◌, min, Bool, true, cond, List, length, get_or, set, take, count_by, refl, ap, sym, ◌∙◌, subst, inl, inr, arith}
use Rattle.std.proofs.lemmas.Nat.{same_from_place}
use Rattle.std.proofs.lemmas.List.{get_or-set_other, get_or_default}
use Rattle.std.proofs.Math.Seq.{take-length}
use Rattle.std.proofs.lemmas.List.Sums.{count_by_more_yes, count_by_more_no, sum_by-take-le}
use Rattle.std.proofs.lemmas.Bool.{cases_Bool, both_ways}
use Rattle.vx_layout.specs.declared.grid.Grid.{Grid}
use Rattle.vx_layout.specs.declared.rect.Rect.{Rect}
use Rattle.vx_layout.proofs.Holding.{holds_tells, holds_from}
use Rattle.vx_layout.specs.Rects.{holds, CoversOnce}
use Rattle.vx_layout.specs.inner.Marks.{mark_at, Paints, PaintsRect, IsTaken, IsTakenIn, IsBare, IsMark, AreMarks, IsMapOf}

pub other_column : (marks : List ℕ) (w x y column row m : ℕ) → x < w → column < w → column ≢ x → get_or (set marks (y * w + x) m) (row * w + column) 0 ≡ get_or marks (row * w + column) 0
other_column marks w x y column row m p q ne =
    let apart : row * w + column ≢ y * w + x = λ e. ne (same_from_place row column y x w q p e).1 in
    rw get_or-set_other refl

pub other_row : (marks : List ℕ) (w x y column row m : ℕ) → x < w → column < w → row ≢ y → get_or (set marks (y * w + x) m) (row * w + column) 0 ≡ get_or marks (row * w + column) 0
other_row marks w x y column row m p q ne =
    let apart : row * w + column ≢ y * w + x = λ e. ne (same_from_place row column y x w q p e).0 in
    rw get_or-set_other refl

-- the columns and rows that a rectangle has in the picture
pub PaintsRect-from : (a b : Grid) (r : Rect) (mark : ℕ) (columns rows : ℕ × ℕ) → columns ≡ (min r.x a.width, min (r.x + r.w) a.width) → rows ≡ (min r.y a.height, min (r.y + r.h) a.height) → Paints a b columns.0 columns.1 rows.0 rows.1 mark → PaintsRect a b r mark
PaintsRect-from a b r mark columns rows c d p =
    let left : columns.0 ≡ min r.x a.width = ap (λ (p : ℕ × ℕ). p.0) c in
    let right : columns.1 ≡ min (r.x + r.w) a.width = ap (λ (p : ℕ × ℕ). p.1) c in
    let top : rows.0 ≡ min r.y a.height = ap (λ (p : ℕ × ℕ). p.0) d in
    let bottom : rows.1 ≡ min (r.y + r.h) a.height = ap (λ (p : ℕ × ℕ). p.1) d in
    record {
      same_width = p.same_width;
      same_height = p.same_height;
      inside = λ x y v w h. let t = holds_tells r x y h in p.inside x y (omega (arith, t)) (omega (arith, t)) (omega (arith, t)) (omega (arith, t));
      outside = λ x y v w none. p.outside x y v (λ l m n o. none (holds_from r x y (omega arith) (omega arith) (omega arith) (omega arith)));
    }

pub IsTakenIn-from : (a : Grid) (r : Rect) (columns rows : ℕ × ℕ) → columns ≡ (min r.x a.width, min (r.x + r.w) a.width) → rows ≡ (min r.y a.height, min (r.y + r.h) a.height) → IsTaken a columns.0 columns.1 rows.0 rows.1 → IsTakenIn a r
IsTakenIn-from a r columns rows c d t =
    let left : columns.0 ≡ min r.x a.width = ap (λ (p : ℕ × ℕ). p.0) c in
    let right : columns.1 ≡ min (r.x + r.w) a.width = ap (λ (p : ℕ × ℕ). p.1) c in
    let top : rows.0 ≡ min r.y a.height = ap (λ (p : ℕ × ℕ). p.0) d in
    let bottom : rows.1 ≡ min (r.y + r.h) a.height = ap (λ (p : ℕ × ℕ). p.1) d in
    let x_in = t.in_columns in
    let y_in = t.in_rows in
    record {
      x = t.x;
      y = t.y;
      in_picture = (omega (arith, x_in), omega (arith, y_in));
      inside = holds_from r t.x t.y (omega (arith, x_in)) (omega (arith, x_in)) (omega (arith, y_in)) (omega (arith, y_in));
      marked = t.marked;
    }

-- rectangle k, painted with its place from 1 on
pub AreMarks-more : (a b : Grid) (rects : List Rect) (k : ℕ) (r : Rect) → k < length rects → r ≡ get_or rects k r → AreMarks a rects k → PaintsRect a b r (k + 1) → AreMarks b rects (k + 1)
AreMarks-more a b rects k r short is marks painted = λ x y v w.
    let v' : x < a.width = omega (arith, painted.same_width) in
    let w' : y < a.height = omega (arith, painted.same_height) in
    let was : IsMark rects k x y (mark_at a x y) = marks x y v' w' in
    let at : (d : Rect) → get_or rects k d ≡ r = λ d. get_or_default rects k d r short ∙ sym is in
    elim (cases_Bool (holds r x y)) [
      | inl here ↦
          let both = painted.inside x y v' w' here in
          let more : count_by (λ s. holds s x y) (take (k + 1) rects) ≡ count_by (λ s. holds s x y) (take k rects) + 1 =
          count_by_more_yes (λ s. holds s x y) rects k r short (rw (at r) here)
          in
          let kth : k + 1 - 1 ≡ k = omega arith in
          rw both.1
          (record {
            none = λ e. absurd (omega arith);
            one = λ _. more ∙ ap (λ n. n + 1) (was.none both.0);
            place = λ _. omega arith;
            holder = λ _ d. rw (kth, at d) here;
          })
      | inr off ↦
          let kept : mark_at b x y ≡ mark_at a x y = painted.outside x y v' w' (both_ways _ off) in
          let more : count_by (λ s. holds s x y) (take (k + 1) rects) ≡ count_by (λ s. holds s x y) (take k rects) =
          count_by_more_no (λ s. holds s x y) rects k r short (rw (at r) off)
          in
          rw kept
          (record {
            none = λ e. more ∙ was.none e;
            one = λ ne. more ∙ was.one ne;
            place = λ ne. omega (arith, was.place ne);
            holder = was.holder;
          })
    ]

-- rectangle k holds a CTU with a mark: the CTU lies in two rectangles
pub not_once-taken : (a : Grid) (rects : List Rect) (k : ℕ) (r : Rect) → k < length rects → r ≡ get_or rects k r → AreMarks a rects k → IsTakenIn a r → CoversOnce rects a.width a.height → ⊥
not_once-taken a rects k r short is marks t once =
    let p : Rect → Bool = λ s. holds s t.x t.y in
    let yes : p (get_or rects k r) ≡ true = subst (λ s. p s ≡ true) is t.inside in
    let more : count_by p (take (k + 1) rects) ≡ count_by p (take k rects) + 1 = count_by_more_yes p rects k r short yes in
    let before : count_by p (take k rects) ≡ 1 = (marks t.x t.y t.in_picture.0 t.in_picture.1).one t.marked in
    let all : count_by p (take (k + 1) rects) ≤ count_by p rects = sum_by-take-le (λ s. cond (p s) 1 0) rects (k + 1) in
    let one : count_by p rects ≡ 1 = once t.x t.y t.in_picture.0 t.in_picture.1 in
    omega arith

-- a CTU without a mark lies in no rectangle
pub not_once-bare : (a : Grid) (rects : List Rect) → AreMarks a rects (length rects) → IsBare a → CoversOnce rects a.width a.height → ⊥
not_once-bare a rects marks b once =
    let p : Rect → Bool = λ s. holds s b.x b.y in
    let none : count_by p (take (length rects) rects) ≡ 0 = (marks b.x b.y b.in_picture.0 b.in_picture.1).none b.unmarked in
    let same : count_by p rects ≡ 0 = ap (λ t. count_by p t) (sym (take-length rects)) ∙ none in
    let one : count_by p rects ≡ 1 = once b.x b.y b.in_picture.0 b.in_picture.1 in
    omega arith

-- a map shows that the rectangles cover the picture once
pub CoversOnce-map : (g : Grid) (rects : List Rect) (w h : ℕ) → IsMapOf g rects w h → CoversOnce rects w h
CoversOnce-map g rects w h map = λ x y v u.
    let mark = map.marks x y (omega (arith, map.width_is)) (omega (arith, map.height_is)) in
    ap (λ t. count_by (λ r. holds r x y) t) (sym (take-length rects)) ∙ mark.one (map.all x y v u)
