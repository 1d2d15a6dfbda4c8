-- Rectangles in order that cover a picture once run right and down: the first one begins the picture, and the last one ends it.
use Rattle.std.proofs.Common.{◌≡◌, ℕ, suc, zero, ◌+◌, ◌-◌, ◌<◌, ◌≤◌, Bool, true, cond, List, [], ◌∷◌, ◌++◌, length, get_or, take, count_by, ap, sym, ◌∙◌, subst, inl, inr, arith, length-append}
use Rattle.std.proofs.lemmas.Bool.{cases_Bool, cases_lt}
use Rattle.std.proofs.lemmas.List.{append-nil, length-map, take_all, take_more}
use Rattle.std.proofs.lemmas.List.Concat.{flat_map-append, get_or-flat_map}
use Rattle.std.proofs.lemmas.List.Folds.{length-flat_map-take}
use Rattle.std.specs.List.{AllPairs, flat_map}
use Rattle.vx_layout.specs.declared.numbers.Numbers.{Numbers}
use Rattle.vx_layout.specs.declared.rect.Rect.{Rect}
use Rattle.vx_layout.specs.Borders.{Begins, Ends}
use Rattle.vx_layout.specs.Faults.{IsLayout, height, width}
use Rattle.vx_layout.specs.Layouts.{HasLayout, no_rect, ordered_at, slice_at, slices_in, subpic_at}
use Rattle.vx_layout.specs.Rects.{CoversOnce, IsPart, Precedes, holds, in_order, slices_of_subpicture}
use Rattle.vx_layout.specs.Regions.{counted_from}
use Rattle.vx_layout.specs.Shapes.{HasCtu}
use Rattle.vx_layout.proofs.Counting.{count_by-cons, in_order-once, same_place}
use Rattle.vx_layout.proofs.Holding.{holds_tells}
use Rattle.vx_layout.proofs.Moving.{HasLayout-region}
use Rattle.vx_layout.proofs.Ordering.{AreWithin-in_order, slice_within}
use Rattle.vx_layout.proofs.Owners.{corner_held}

-- where one passes, there it stands
pub record StandsAt {X : Type 0} (p : X → Bool) (xs : List X) : Type 0 where
  pub place : ℕ
  pub low : place < length xs
  pub passes : (d : X) → p (get_or xs place d) ≡ true

pub place_of : {X : Type 0} (p : X → Bool) (xs : List X) → 1 ≤ count_by p xs → StandsAt p xs
place_of p [] some = absurd (omega arith)
place_of p (x ∷ xs) some =
    elim (cases_Bool (p x)) [
      | inl on ↦ record { place = 0; low = omega arith; passes = λ d. on }
      | inr off ↦
          let first : cond {A = ℕ} (p x) 1 0 ≡ 0 = ap (λ t. cond t 1 0) off in
          let rest = place_of p xs (omega (arith, count_by-cons p x xs, first)) in
          record { place = suc rest.place; low = omega (arith, rest.low); passes = rest.passes }
    ]

-- rectangles in order that cover a picture once
pub record IsOrdered (rects : List Rect) (w h : ℕ) : Type 0 where
  pub once : CoversOnce rects w h
  pub order : AllPairs Precedes rects

pub holder : (rects : List Rect) (w h x y : ℕ) → IsOrdered rects w h → x < w → y < h → StandsAt (λ r. holds r x y) rects
holder rects w h x y ordered v u =
    let one = ordered.once x y v u in
    place_of (λ r. holds r x y) rects (omega arith)

-- the rectangles of a row come one behind the other, and so do those of a column
along : (rects : List Rect) (w h x y n i j : ℕ) (d : Rect) → IsOrdered rects w h → x + n < w → y < h → i < length rects → j < length rects → holds (get_or rects i d) x y ≡ true → holds (get_or rects j d) (x + n) y ≡ true → i ≤ j
along rects w h x y zero i j d ordered v u low_i low_j on_i on_j =
    let one = ordered.once x y (omega arith) u in
    let here : x + 0 ≡ x = omega arith in
    let same : i ≡ j = same_place (λ r. holds r x y) rects i j d (omega arith) low_i low_j on_i (subst (λ m. holds (get_or rects j d) m y ≡ true) here on_j) in
    omega arith
along rects w h x y (suc n) i j d ordered v u low_i low_j on_i on_j =
    let mid = holder rects w h (x + n) y ordered (omega arith) u in
    let before : i ≤ mid.place = along rects w h x y n i mid.place d ordered (omega arith) u low_i mid.low on_i (mid.passes d) in
    let next : x + suc n ≡ x + n + 1 = omega arith in
    elim (cases_lt j mid.place) [
      | inr fine ↦ omega arith
      | inl back ↦ absurd ((ordered.order j mid.place d back mid.low (x + n) y (mid.passes d)).0 (subst (λ m. holds (get_or rects j d) m y ≡ true) next on_j))
    ]

below : (rects : List Rect) (w h x y n i j : ℕ) (d : Rect) → IsOrdered rects w h → x < w → y + n < h → i < length rects → j < length rects → holds (get_or rects i d) x y ≡ true → holds (get_or rects j d) x (y + n) ≡ true → i ≤ j
below rects w h x y zero i j d ordered v u low_i low_j on_i on_j =
    let one = ordered.once x y v (omega arith) in
    let here : y + 0 ≡ y = omega arith in
    let same : i ≡ j = same_place (λ r. holds r x y) rects i j d (omega arith) low_i low_j on_i (subst (λ m. holds (get_or rects j d) x m ≡ true) here on_j) in
    omega arith
below rects w h x y (suc n) i j d ordered v u low_i low_j on_i on_j =
    let mid = holder rects w h x (y + n) ordered v (omega arith) in
    let before : i ≤ mid.place = below rects w h x y n i mid.place d ordered v (omega arith) low_i mid.low on_i (mid.passes d) in
    let next : y + suc n ≡ y + n + 1 = omega arith in
    elim (cases_lt j mid.place) [
      | inr fine ↦ omega arith
      | inl back ↦ absurd ((ordered.order j mid.place d back mid.low x (y + n) (mid.passes d)).1 (subst (λ m. holds (get_or rects j d) x m ≡ true) next on_j))
    ]

-- no rectangle that holds a CTU comes before one that holds a CTU above and to the left of it
pub no_later : (rects : List Rect) (w h x y v u i j : ℕ) (d : Rect) → IsOrdered rects w h → x ≤ v → y ≤ u → v < w → u < h → i < length rects → j < length rects → holds (get_or rects i d) x y ≡ true → holds (get_or rects j d) v u ≡ true → i ≤ j
no_later rects w h x y v u i j d ordered a b in_w in_h low_i low_j on_i on_j =
    let corner = holder rects w h v y ordered in_w (omega arith) in
    let across : x + (v - x) ≡ v = omega arith in
    let down : y + (u - y) ≡ u = omega arith in
    let first : i ≤ corner.place = along rects w h x y (v - x) i corner.place d ordered (omega arith) (omega arith) low_i corner.low on_i (subst (λ m. holds (get_or rects corner.place d) m y ≡ true) (sym across) (corner.passes d)) in
    let second : corner.place ≤ j = below rects w h v y (u - y) corner.place j d ordered in_w (omega arith) corner.low low_j (corner.passes d) (subst (λ m. holds (get_or rects j d) v m ≡ true) (sym down) on_j) in
    omega arith

pub first-begins : (rects : List Rect) (w h : ℕ) (d : Rect) → CoversOnce rects w h → AllPairs Precedes rects → 0 < length rects → IsPart w h (get_or rects 0 d) → Begins (get_or rects 0 d)
first-begins rects w h d cover pairs some part =
    let r : Rect = get_or rects 0 d in
    let ordered : IsOrdered rects w h = record { once = cover; order = pairs } in
    let in_w : r.x < w = omega (arith, part.wide, part.across) in
    let in_h : r.y < h = omega (arith, part.high, part.down) in
    let zero_in_w : 0 < w = omega arith in
    let zero_in_h : 0 < h = omega arith in
    let at = holder rects w h 0 0 ordered zero_in_w zero_in_h in
    let level : at.place ≤ 0 = no_later rects w h 0 0 r.x r.y at.place 0 d ordered (omega arith) (omega arith) in_w in_h at.low some (at.passes d) (corner_held r part.wide part.high) in
    let is : at.place ≡ 0 = omega arith in
    let p = holds_tells r 0 0 (subst (λ i. holds (get_or rects i d) 0 0 ≡ true) is (at.passes d)) in
    record { left = omega (arith, p); top = omega (arith, p) }

pub last-ends : (rects : List Rect) (w h : ℕ) (d : Rect) → CoversOnce rects w h → AllPairs Precedes rects → 0 < length rects → IsPart w h (get_or rects (length rects - 1) d) → Ends w h (get_or rects (length rects - 1) d)
last-ends rects w h d cover pairs some part =
    let r : Rect = get_or rects (length rects - 1) d in
    let ordered : IsOrdered rects w h = record { once = cover; order = pairs } in
    let in_w : r.x < w = omega (arith, part.wide, part.across) in
    let in_h : r.y < h = omega (arith, part.high, part.down) in
    let at = holder rects w h (w - 1) (h - 1) ordered (omega arith) (omega arith) in
    let level : length rects - 1 ≤ at.place = no_later rects w h r.x r.y (w - 1) (h - 1) (length rects - 1) at.place d ordered (omega arith) (omega arith) (omega arith) (omega arith) (omega arith) at.low (corner_held r part.wide part.high) (at.passes d) in
    let is : at.place ≡ length rects - 1 = omega (arith, at.low) in
    let p = holds_tells r (w - 1) (h - 1) (subst (λ i. holds (get_or rects i d) (w - 1) (h - 1) ≡ true) is (at.passes d)) in
    record { right = omega (arith, p, part.across); bottom = omega (arith, p, part.down) }

in_order-ordered : (n : Numbers) → IsLayout n → IsOrdered (in_order n.slices n.subpics) (width n) (height n)
in_order-ordered n l = record { once = in_order-once n.slices n.subpics (width n) (height n) l.split l.subpics.once l.slices; order = l.order }

-- the slices of a layout
pub slices-inside : (n : Numbers) (i x y : ℕ) → IsLayout n → i < length (in_order n.slices n.subpics) → holds (ordered_at n i) x y ≡ true → (x < width n) × (y < height n)
slices-inside n i x y l short on = AreWithin-in_order n.slices n.subpics (width n) (height n) l.subpics.parts i no_rect short x y on

pub slices-run : (n : Numbers) (i j x y v u : ℕ) → IsLayout n → i < length (in_order n.slices n.subpics) → j < length (in_order n.slices n.subpics) → holds (ordered_at n i) x y ≡ true → holds (ordered_at n j) v u ≡ true → x ≤ v → y ≤ u → i ≤ j
slices-run n i j x y v u l short_i short_j on_i on_j across down =
    let within = slices-inside n j v u l short_j on_j in
    no_later (in_order n.slices n.subpics) (width n) (height n) x y v u i j no_rect (in_order-ordered n l) across down within.0 within.1 short_i short_j on_i on_j

-- a subpicture of a sound layout has a slice
some_slice : (n : Numbers) (k : ℕ) → HasLayout n → k < length n.subpics → 0 < length (slices_in n k)
some_slice n k layout short =
    let some = (HasLayout-region n k layout short).limits.slices.0 in
    omega (arith, some, length-map (slices_in n k) (counted_from (subpic_at n k)))

pub slice-begins : (n : Numbers) → HasLayout n → HasCtu (slice_at n 0 0) → Begins (slice_at n 0 0)
slice-begins n layout some =
    let all : List Rect = in_order n.slices n.subpics in
    let l = layout.faultless in
    let short : 0 < length n.subpics = omega (arith, layout.limits.subpics) in
    let low : 0 < length (slices_in n 0) = some_slice n 0 layout short in
    let is : get_or all 0 no_rect ≡ slice_at n 0 0 = get_or-flat_map (slices_of_subpicture n.slices) n.subpics 0 0 no_rect no_rect short low in
    let upto = length-flat_map-take (slices_of_subpicture n.slices) n.subpics 0 no_rect short in
    let part : IsPart (width n) (height n) (slice_at n 0 0) = slice_within n 0 0 layout short low some.0 some.1 in
    subst Begins is
    (first-begins all (width n) (height n) no_rect (in_order-once n.slices n.subpics (width n) (height n) l.split l.subpics.once l.slices) l.order (omega (arith, upto, low))
    (subst (λ r. IsPart (width n) (height n) r) (sym is) part))

pub slice-ends : (n : Numbers) (k m : ℕ) → HasLayout n → k + 1 ≡ length n.subpics → m + 1 ≡ length (slices_in n k) → HasCtu (slice_at n k m) → Ends (width n) (height n) (slice_at n k m)
slice-ends n k m layout last_k last_m some =
    let f : Rect → List Rect = slices_of_subpicture n.slices in
    let all : List Rect = in_order n.slices n.subpics in
    let before : List Rect = flat_map f (take k n.subpics) in
    let l = layout.faultless in
    let short : k < length n.subpics = omega arith in
    let low : m < length (slices_in n k) = omega arith in
    let at : get_or all (length before + m) no_rect ≡ slice_at n k m = get_or-flat_map f n.subpics k m no_rect no_rect short low in
    let split : n.subpics ≡ take k n.subpics ++ subpic_at n k ∷ [] = sym (take_all (k + 1) n.subpics (omega arith)) ∙ take_more n.subpics k no_rect short in
    let parts : all ≡ before ++ (slices_in n k ++ []) = ap (λ t. flat_map f t) split ∙ flat_map-append f (take k n.subpics) (subpic_at n k ∷ []) in
    let long : length all ≡ length before + length (slices_in n k) = ap length parts ∙ (length-append before (slices_in n k ++ []) ∙ ap (λ t. length before + length t) (append-nil (slices_in n k))) in
    let place : length before + m ≡ length all - 1 = omega arith in
    let is : get_or all (length all - 1) no_rect ≡ slice_at n k m = ap (λ i. get_or all i no_rect) (sym place) ∙ at in
    let part : IsPart (width n) (height n) (slice_at n k m) = slice_within n k m layout short low some.0 some.1 in
    subst (λ r. Ends (width n) (height n) r) is
    (last-ends all (width n) (height n) no_rect (in_order-once n.slices n.subpics (width n) (height n) l.split l.subpics.once l.slices) l.order (omega arith)
    (subst (λ r. IsPart (width n) (height n) r) (sym is) part))
