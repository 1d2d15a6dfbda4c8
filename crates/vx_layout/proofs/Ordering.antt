-- The order of slices, read off a map of them.
use Rattle.std.proofs.Common.{◌≡◌, ◌≢◌, ℕ, ◌+◌, ◌-◌, ◌*◌, ◌<◌, ◌≤◌, true, List, [], ◌∷◌, length, get_or, count_by, refl, ap, sym, ◌∙◌, subst, inl, inr, arith}
use Rattle.std.proofs.lemmas.Bool.{cases_lt}
use Rattle.std.proofs.lemmas.List.Elements.{All-append, All-nil, All-head, All-tail}
use Rattle.std.proofs.lemmas.List.Sums.{sum_by-le, length-filter, count_by-le-length}
use Rattle.std.proofs.lemmas.List.Concat.{length-flat_map}
use Rattle.std.proofs.Math.Nat.{mul-le-mul_right}
use Rattle.std.proofs.Math.Seq.{take-length}
use Rattle.std.specs.List.{All, AllPairs}
use Rattle.vx_layout.specs.declared.grid.Grid.{Grid}
use Rattle.vx_layout.specs.declared.rect.Rect.{Rect}
use Rattle.vx_layout.specs.declared.numbers.Numbers.{Numbers}
use Rattle.vx_layout.specs.Faults.{width, height}
use Rattle.vx_layout.specs.Layouts.{HasLayout, no_rect, slice_at, slices_in, subpic_at}
use Rattle.vx_layout.specs.inner.Marks.{IsMapOf, IsMark, IsRising, mark_at}
use Rattle.vx_layout.specs.Rects.{holds, fits, IsPart, Precedes, slices_of_subpicture, in_order}
use Rattle.vx_layout.proofs.Holding.{fits_tells, holds_tells}
use Rattle.vx_layout.proofs.Counting.{All-slices_of, holds-fits, same_place}

-- the mark of a CTU is the place of the rectangle that holds it
mark_is : (g : Grid) (rects : List Rect) (w h x y i : ℕ) (d : Rect) → IsMapOf g rects w h → x < w → y < h → i < length rects → holds (get_or rects i d) x y ≡ true → mark_at g x y ≡ i + 1
mark_is g rects w h x y i d map v u short here =
    let mark : IsMark rects (length rects) x y (mark_at g x y) = map.marks x y (omega (arith, map.width_is)) (omega (arith, map.height_is)) in
    let marked : mark_at g x y ≢ 0 = map.all x y v u in
    let low : mark_at g x y ≤ length rects = mark.place marked in
    let once : count_by (λ s. holds s x y) rects ≡ 1 = ap (λ t. count_by (λ s. holds s x y) t) (sym (take-length rects)) ∙ mark.one marked in
    let same : i ≡ mark_at g x y - 1 = same_place (λ s. holds s x y) rects i (mark_at g x y - 1) d (omega arith) short (omega (arith, marked)) here (mark.holder marked d) in
    omega (arith, marked)

-- the rectangles lie in a picture of w times h CTUs
abbrev pub AreWithin : List Rect → ℕ → ℕ → Type 0
AreWithin rects w h = All (λ r. (x y : ℕ) → holds r x y ≡ true → (x < w) × (y < h)) rects

pub AllPairs-rising : (g : Grid) (rects : List Rect) (w h : ℕ) → IsMapOf g rects w h → AreWithin rects w h → IsRising g → AllPairs Precedes rects
AllPairs-rising g rects w h map within rising = λ i j d less short x y on_j.
    let low : i < length rects = omega arith in
    let in_j = within j d short x y on_j in
    let at_j : mark_at g x y ≡ j + 1 = mark_is g rects w h x y j d map in_j.0 in_j.1 short on_j in (
      λ on_i.
          let in_i = within i d low (x + 1) y on_i in
          let at_i : mark_at g (x + 1) y ≡ i + 1 = mark_is g rects w h (x + 1) y i d map in_i.0 in_i.1 low on_i in
          let up : mark_at g x y ≤ mark_at g (x + 1) y = (rising (x + 1) y (omega (arith, in_i, map.width_is)) (omega (arith, in_i, map.height_is))).across x refl in
          omega arith,
      λ on_i.
          let in_i = within i d low x (y + 1) on_i in
          let at_i : mark_at g x (y + 1) ≡ i + 1 = mark_is g rects w h x (y + 1) i d map in_i.0 in_i.1 low on_i in
          let up : mark_at g x y ≤ mark_at g x (y + 1) = (rising x (y + 1) (omega (arith, in_i, map.width_is)) (omega (arith, in_i, map.height_is))).down y refl in
          omega arith,
    )

-- a CTU bears no higher mark than the one behind it
level : (g : Grid) (rects : List Rect) (w h x y v u : ℕ) (d : Rect) → IsMapOf g rects w h → AllPairs Precedes rects → x < w → y < h → v < w → u < h →
    ((r s : Rect) → Precedes r s → holds s x y ≡ true → holds r v u ≡ true → ⊥) → mark_at g x y ≤ mark_at g v u
level g rects w h x y v u d map pairs x_in y_in v_in u_in clash =
    elim (cases_lt (mark_at g v u) (mark_at g x y)) [
      | inr fine ↦ fine
      | inl above ↦
          let later : IsMark rects (length rects) x y (mark_at g x y) = map.marks x y (omega (arith, map.width_is)) (omega (arith, map.height_is)) in
          let earlier : IsMark rects (length rects) v u (mark_at g v u) = map.marks v u (omega (arith, map.width_is)) (omega (arith, map.height_is)) in
          let later_marked : mark_at g x y ≢ 0 = map.all x y x_in y_in in
          let earlier_marked : mark_at g v u ≢ 0 = map.all v u v_in u_in in
          let low : mark_at g x y ≤ length rects = later.place later_marked in
          absurd (clash _ _ (pairs (mark_at g v u - 1) (mark_at g x y - 1) d (omega (arith, earlier_marked)) (omega (arith, later_marked))) (later.holder later_marked d) (earlier.holder earlier_marked d))
    ]

pub rising-AllPairs : (g : Grid) (rects : List Rect) (w h : ℕ) → IsMapOf g rects w h → AllPairs Precedes rects → IsRising g
rising-AllPairs g rects w h map pairs = λ x y v u.
    let none : Rect = record { x = 0; y = 0; w = 0; h = 0 } in
    let v' : x < w = omega (arith, map.width_is) in
    let u' : y < h = omega (arith, map.height_is) in
    record {
      across = λ left e.
          level g rects w h left y x y none map pairs (omega arith) u' v' u'
          (λ r s before on_s on_r. (before left y on_s).0 (subst (λ n. holds r n y ≡ true) (sym e) on_r));
      down = λ above e.
          level g rects w h x above x y none map pairs v' (omega arith) v' u'
          (λ r s before on_s on_r. (before x above on_s).1 (subst (λ n. holds r x n ≡ true) (sym e) on_r));
    }

-- the slices of parts of a picture lie in it
pub AreWithin-in_order : (slices subpics : List Rect) (w h : ℕ) → All (IsPart w h) subpics → AreWithin (in_order slices subpics) w h
AreWithin-in_order slices [] w h parts = All-nil (λ r. (x y : ℕ) → holds r x y ≡ true → (x < w) × (y < h))
AreWithin-in_order slices (s ∷ ss) w h parts =
    let In : Rect → Type 0 = λ r. (x y : ℕ) → holds r x y ≡ true → (x < w) × (y < h) in
    let part : IsPart w h s = All-head (IsPart w h) s ss parts in
    All-append In (slices_of_subpicture slices s) (in_order slices ss)
    (All-slices_of slices s In (λ r f x y on. let p = holds_tells s x y (holds-fits r s x y f on) in (omega (arith, p, part.across), omega (arith, p, part.down))))
    (AreWithin-in_order slices ss w h (All-tail (IsPart w h) s ss parts))

-- there are at most so many of them
pub length-in_order-le : (slices subpics : List Rect) (m n : ℕ) → length slices ≤ m → length subpics ≤ n → length (in_order slices subpics) ≤ n * m
length-in_order-le slices subpics m n a b =
    let each : All (λ s. length (slices_of_subpicture slices s) ≤ m) subpics = λ i d short. omega (arith, length-filter (λ r. fits r (get_or subpics i d)) slices, count_by-le-length (λ r. fits r (get_or subpics i d)) slices) in
    let whole = sum_by-le (λ s. length (slices_of_subpicture slices s)) m subpics each in
    omega (arith, length-flat_map (slices_of_subpicture slices) subpics, whole, mul-le-mul_right m b)

-- a slice of a subpicture lies in the picture, where it has a CTU
pub slice_within : (n : Numbers) (k m : ℕ) → HasLayout n → k < length n.subpics → m < length (slices_in n k) → 0 < (slice_at n k m).w → 0 < (slice_at n k m).h → IsPart (width n) (height n) (slice_at n k m)
slice_within n k m layout short low wide high =
    let s : Rect = subpic_at n k in
    let r : Rect = slice_at n k m in
    let part : IsPart (width n) (height n) s = layout.faultless.subpics.parts k no_rect short in
    let inside : fits r s ≡ true = All-slices_of n.slices s (λ t. fits t s ≡ true) (λ t f. f) m no_rect low in
    elim (fits_tells r s inside) [
      | inl (inl e) ↦ absurd (omega (arith, e))
      | inl (inr e) ↦ absurd (omega (arith, e))
      | inr q ↦ record {
        wide = wide;
        high = high;
        across = omega (arith, q, part.across);
        down = omega (arith, q, part.down);
      }
    ]
