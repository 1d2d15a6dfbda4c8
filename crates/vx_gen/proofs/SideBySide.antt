-- Regions of 128 times 128 samples side by side fit together, and keep their tile lines.
use Rattle.std.proofs.Common.{◌≡◌, ℕ, zero, suc, ◌+◌, ◌*◌, ◌/◌, ◌<◌, ◌≤◌, ◌⊎◌, List, [], ◌∷◌, length, map, refl, ap, sym, subst, ◌∙◌, inl, inr, arith}
use Rattle.std.specs.List.{All, AllPairs, Contains, range_with_len, slice_index_or}
use Rattle.std.proofs.lemmas.List.FromFn.{get_or-map-range_with_len, length-map-range_with_len}
use Rattle.vx_layout.specs.declared.numbers.Numbers.{Numbers}
use Rattle.vx_layout.specs.declared.rect.Rect.{Rect}
use Rattle.vx_layout.specs.Layouts.{no_rect}
use Rattle.vx_layout.specs.Rects.{Precedes}
use Rattle.vx_layout.proofs.Holding.{holds_tells}
use Rattle.vx_fit.specs.declared.placed.Placed.{Placed}
use Rattle.vx_fit.specs.FrameLines.{HasBound, IsHorizontal, IsLinesFault, IsVertical, KeepsLines, PassesInside, corner_at, part_at}
use Rattle.vx_fit.specs.Placing.{FitTogether, IsCovered, IsOnGrid, IsTooLarge, Overlap, frame_height, frame_width, greatest_by, in_ctus}
use Rattle.vx_fit.proofs.Overlapping.{covers_from, covers_tells}

abbrev pub place : ℕ → Placed
place k = record { x = 128 * k; y = 0; w = 128; h = 128 }

abbrev pub row : ℕ → List Placed
row n = map place (range_with_len 0 n)

at : (n i : ℕ) (d : Placed) → i < n → slice_index_or (row n) i d ≡ place i
at n i d low = get_or-map-range_with_len place 0 n i i d low (omega arith)

long : (n : ℕ) → length (row n) ≡ n
long n = length-map-range_with_len place 0 n

-- ---- the frame

reach : (a n : ℕ) → greatest_by (λ p. p.x + p.w) (map place (range_with_len a n)) ≤ 128 * (a + n)
reach a zero = omega arith
reach a (suc n) = let more = reach (a + 1) n in omega (arith, more)

depth : (a n : ℕ) → greatest_by (λ p. p.y + p.h) (map place (range_with_len a n)) ≤ 128
depth a zero = omega arith
depth a (suc n) = let more = depth (a + 1) n in omega (arith, more)

small : (n : ℕ) → n ≤ 16 → IsTooLarge (row n) → ⊥
small n few (inl wide) = let most = reach 0 n in absurd (omega (arith, wide, most, few))
small n few (inr high) = let most = depth 0 n in absurd (omega (arith, high, most))

on_grid : (k : ℕ) → IsOnGrid 64 (place k)
on_grid k = (omega arith, refl)

grid : (n : ℕ) → All (IsOnGrid 64) (row n)
grid n i d low =
    let size = long n in
    subst (IsOnGrid 64) (sym (at n i d (omega (arith, low, size)))) (on_grid i)

overlap_none : (i j : ℕ) → i < j → Overlap (place i) (place j) → ⊥
overlap_none i j before (x, y, first, second) =
    let a = covers_tells (place i) x y first in
    let b = covers_tells (place j) x y second in
    omega (arith, a.1, b.0, before)

apart : (n : ℕ) → AllPairs (λ p q. Overlap p q → ⊥) (row n)
apart n i j d before within over =
    let size = long n in
    let one = at n i d (omega (arith, before, within, size)) in
    let other = at n j d (omega (arith, within, size)) in
    overlap_none i j before (subst (λ p. Overlap p (place j)) one (subst (λ q. Overlap (slice_index_or (row n) i d) q) other over))

filled : (n x y : ℕ) → x < frame_width (row n) → y < frame_height (row n) → IsCovered (row n) x y
filled n x y wide high =
    let most = reach 0 n in
    let deep = depth 0 n in
    let size = long n in
    let low : x / 128 < n = omega (arith, wide, most) in
    (x / 128, place (x / 128), omega (arith, low, size), at n (x / 128) (place (x / 128)) low, covers_from (place (x / 128)) x y (omega arith) (omega arith) (omega arith) (omega (arith, high, deep)))

-- ---- in CTUs

abbrev pub rect : ℕ → Rect
rect k = in_ctus 64 (place k)

left_of : (k : ℕ) → (rect k).x ≡ 2 * k
left_of k = omega arith

in_row : (a n : ℕ) → map (in_ctus 64) (map place (range_with_len a n)) ≡ map rect (range_with_len a n)
in_row a zero = refl
in_row a (suc n) = ap (λ rs. rect a ∷ rs) (in_row (a + 1) n)

rect_at : (n i : ℕ) (d : Rect) → i < n → slice_index_or (map (in_ctus 64) (row n)) i d ≡ rect i
rect_at n i d low = ap (λ rs. slice_index_or rs i d) (in_row 0 n) ∙ get_or-map-range_with_len rect 0 n i i d low (omega arith)

pub rects_long : (n : ℕ) → length (map (in_ctus 64) (row n)) ≡ n
rects_long n = ap length (in_row 0 n) ∙ length-map-range_with_len rect 0 n

precedes : (i j : ℕ) → i < j → Precedes (rect i) (rect j)
precedes i j before x y here =
    let a = holds_tells (rect j) x y here in
    let left = left_of j in
    let own = left_of i in (
      λ right. let b = holds_tells (rect i) (x + 1) y right in omega (arith, a.0, b.1, left, own, before),
      λ below. let b = holds_tells (rect i) x (y + 1) below in omega (arith, a.0, b.1, left, own, before),
    )

order : (n : ℕ) → AllPairs Precedes (map (in_ctus 64) (row n))
order n i j d before within =
    let size = rects_long n in
    let one = rect_at n i d (omega (arith, before, within, size)) in
    let other = rect_at n j d (omega (arith, within, size)) in
    subst (λ r. Precedes r (slice_index_or (map (in_ctus 64) (row n)) j d)) (sym one) (subst (λ s. Precedes (rect i) s) (sym other) (precedes i j before))

pub they_fit : (n : ℕ) → n ≤ 16 → FitTogether (row n) 64
they_fit n few = record { small = small n few; grid = grid n; apart = apart n; filled = filled n; order = order n }

-- ---- tile lines

-- each picture is one tile
pub record AreTiles (n : ℕ) (parts : List Numbers) : Type 0 where
  pub columns : (k : ℕ) → k < n → (part_at parts k).columns ≡ 0 ∷ 2 ∷ []
  pub rows : (k : ℕ) → k < n → (part_at parts k).rows ≡ 0 ∷ 2 ∷ []

bound_is : (c : ℕ) → Contains (0 ∷ 2 ∷ []) c → (c ≡ 0) ⊎ (c ≡ 2)
bound_is c (zero, low, is) = inl (sym is)
bound_is c (suc zero, low, is) = inr (sym is)
bound_is c (suc (suc k), low, is) = absurd (omega (arith, low))

module _ (n : ℕ) (parts : List Numbers) (tiles : AreTiles n parts) where
  abbrev corners : List Rect
  corners = map (in_ctus 64) (row n)

  here : (k : ℕ) → k < n → corner_at corners k ≡ rect k
  here k low = rect_at n k no_rect low

  bound_of : (k from m : ℕ) (own : List ℕ) → own ≡ 0 ∷ 2 ∷ [] → HasBound from own m → (m ≡ from) ⊎ (m ≡ from + 2)
  bound_of k from m own is (c, among, same) =
      elim (bound_is c (subst (λ xs. Contains xs c) is among)) [
        | inl none ↦ inl (omega (arith, none, same))
        | inr two ↦ inr (omega (arith, two, same))
      ]

  no_column : (k m : ℕ) → k < n → PassesInside (2 * k) 2 m → IsVertical corners parts m → ⊥
  no_column k m low inside (j, within, bound) =
      let size = rects_long n in
      let short : j < n = omega (arith, within, size) in
      let left : (corner_at corners j).x ≡ 2 * j = ap (λ (r : Rect). r.x) (here j short) ∙ left_of j in
      let after = inside.0 in
      let before = inside.1 in
      elim (bound_of j (corner_at corners j).x m (part_at parts j).columns (tiles.columns j short) bound) [
        | inl first ↦ absurd (omega (arith, first, left, after, before))
        | inr last ↦ absurd (omega (arith, last, left, after, before))
      ]

  no_row : (m : ℕ) → PassesInside 0 2 m → IsHorizontal corners parts m → ⊥
  no_row m inside ((j, within, bound), kept) =
      let size = rects_long n in
      let short : j < n = omega (arith, within, size) in
      let top : (corner_at corners j).y ≡ 0 = ap (λ (r : Rect). r.y) (here j short) in
      let after = inside.0 in
      let before = inside.1 in
      elim (bound_of j (corner_at corners j).y m (part_at parts j).rows (tiles.rows j short) bound) [
        | inl first ↦ absurd (omega (arith, first, top, after, before))
        | inr last ↦ absurd (omega (arith, last, top, after, before))
      ]

  own_bound : (from m : ℕ) (own : List ℕ) → own ≡ 0 ∷ 2 ∷ [] → PassesInside from 2 m → HasBound from own m → ⊥
  own_bound from m own is inside bound =
      let after = inside.0 in
      let before = inside.1 in
      elim (bound_of 0 from m own is bound) [ inl first ↦ absurd (omega (arith, first, after, before)) | inr last ↦ absurd (omega (arith, last, after, before)) ]

  keeps : (k : ℕ) → k < n → KeepsLines corners parts k
  keeps k low =
      let at_k = here k low in
      let left : (corner_at corners k).x ≡ 2 * k = ap (λ (r : Rect). r.x) at_k ∙ left_of k in
      let top : (corner_at corners k).y ≡ 0 = ap (λ (r : Rect). r.y) at_k in
      let wide : (corner_at corners k).w ≡ 2 = ap (λ (r : Rect). r.w) at_k in
      let high : (corner_at corners k).h ≡ 2 = ap (λ (r : Rect). r.h) at_k in
      record {
        columns = λ m inside.
            let is : PassesInside (2 * k) 2 m = (omega (arith, inside.0, left), omega (arith, inside.1, left, wide)) in (
              λ line. absurd (no_column k m low is line),
              λ bound. absurd (own_bound (corner_at corners k).x m (part_at parts k).columns (tiles.columns k low) (inside.0, omega (arith, inside.1, wide)) bound),
            );
        rows = λ m inside.
            let is : PassesInside 0 2 m = (omega (arith, inside.0, top), omega (arith, inside.1, top, high)) in (
              λ line. absurd (no_row m is line),
              λ bound. absurd (own_bound (corner_at corners k).y m (part_at parts k).rows (tiles.rows k low) (inside.0, omega (arith, inside.1, high)) bound),
            );
        above = λ dropped.
            let crossed = dropped.crosses in
            let size = rects_long n in
            let over = crossed.2.0.0 in
            absurd (omega (arith, over, top));
      }

  pub no_lines_fault : (k : ℕ) → IsLinesFault corners parts k → ⊥
  no_lines_fault k fault =
      let within = fault.in_range in
      let size = rects_long n in
      fault.breaks (keeps k (omega (arith, within, size)))
