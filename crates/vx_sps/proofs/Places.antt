-- The rectangles that are stated are read back: corners and sizes of each axis, from the items of their fields.
use Rattle.std.proofs.Common.{◌≡◌, inl, inr, ℕ, pos, zero, suc, ◌+◌, ◌-◌, ◌<◌, ◌≤◌, true, false, cond, ◌==◌, ◌&&◌, List, [], ◌∷◌, ◌++◌, length, map, slice_index, refl, ap, sym, ◌∙◌, arith}
use Rattle.std.specs.Prelude.{Bool, nat_lt, slice_index_or}
use Rattle.std.proofs.lemmas.Bool.{cases_Bool, cases_lt, lt-ltb, le-ltb, ltb-true, ltb-false}
use Rattle.std.proofs.lemmas.Bool.Decides.{eqb_tells}
use Rattle.std.proofs.lemmas.List.Elements.{All-get_or}
use Rattle.vx_bits.specs.declared.list.Item.{Item}
use Rattle.vx_layout.specs.declared.rect.Rect.{Rect}
use Rattle.vx_layout.specs.Layouts.{no_rect}
use Rattle.vx_layout.specs.Rects.{IsPart}
use Rattle.vx_table.specs.Scope.{natural, is_set}
use Rattle.vx_table.specs.Rewrites.{in_all_turns}
use Rattle.vx_sps.specs.Subpictures.{ctu_top_left_at, size_at}
use Rattle.vx_table.specs.Loaded.{numbers_of}
use Rattle.vx_sps.specs.Reshaped.{item, place_items, places_items, AreParts}
use Rattle.vx_table.specs.Rewritten.{where_so}
use Rattle.vx_sps.proofs.Pushed.{turn_more}
use Rattle.vx_table.proofs.With.{with_field, Passing, passing_append, passing_where, passing_turns, lacks, with_first, with_second}
use Rattle.vx_sps.proofs.With.{where_has, values, length-values, values_at, numbers_turns, no_numbers}

-- ---- one axis

natural_small : (n : ℕ) → n ≤ 16384 → natural (pos n) ≡ n
unfolding natural
natural_small n few = omega arith

-- numbers of each axis: where they stand, how long they are, and the border, where the first begins and the last ends
pub record Fills (n border : ℕ) (at long : ℕ → ℕ) : Type 0 where
  pub some : 0 < n
  pub few : border ≤ 16384
  pub longs : (i : ℕ) → i < n → 0 < long i
  pub ends : (i : ℕ) → i < n → at i + long i ≤ border
  pub first : at 0 ≡ 0
  pub last : at (n - 1) + long (n - 1) ≡ border

-- the corners of all but the first, and the sizes of all but the last, where there are several and several columns or rows
abbrev pub corners : ℕ → ℕ → (ℕ → ℕ) → List ℕ
corners n border at = cond (nat_lt 1 n && nat_lt 1 border) (values at 1 (n - 1)) []

abbrev pub sizes : ℕ → ℕ → (ℕ → ℕ) → List ℕ
sizes n border long = cond (nat_lt 1 n && nat_lt 1 border) (values (λ i. long i - 1) 0 (n - 1)) []

-- there are none where there is one, or one column or row
one_of : (n border : ℕ) → (nat_lt 1 n && nat_lt 1 border) ≡ false → (i : ℕ) (at long : ℕ → ℕ) → i < n → Fills n border at long
    → (at i ≡ 0) × (border - at i ≡ long i)
one_of n border none i at long within fills = elim (cases_lt 1 n) [
  | inl several ↦
      let narrow : border ≤ 1 = ltb-false 1 border (rw (lt-ltb 1 n several) at none) in
      let some = fills.longs i within in
      let end = fills.ends i within in
      (omega (arith, narrow, some, end), omega (arith, narrow, some, end))
  | inr one ↦
      let here : i ≡ 0 = omega (arith, within, one) in
      let last : n - 1 ≡ 0 = omega (arith, one) in
      let start : at i ≡ 0 = ap at here ∙ fills.first in
      let whole : at 0 + long 0 ≡ border = rw last at fills.last in
      let size : long i ≡ long 0 = ap long here in
      let zero_at = fills.first in
      (start, omega (arith, start, whole, size, zero_at))
]

not_zero : (i : ℕ) → (suc i == 0) ≡ false
not_zero i = elim (eqb_tells (suc i) 0) [ inl is ↦ absurd (omega (arith, is.1)) | inr other ↦ other.0 ]

pub corner_back : (n border i : ℕ) (at long : ℕ → ℕ) → i < n → Fills n border at long → ctu_top_left_at (corners n border at) i ≡ at i
corner_back n border zero at long within fills = sym fills.first
corner_back n border (suc i) at long within fills =
    let back : suc i - 1 ≡ i = omega arith in
    rw (not_zero i, back) (elim (cases_Bool (nat_lt 1 n && nat_lt 1 border)) [
      | inl several ↦
          let small : at (suc i) ≤ 16384 = omega (arith, fills.ends (suc i) within, fills.few) in
          let one : 1 + i ≡ suc i = omega arith in
          rw several (values_at at 1 (n - 1) i (omega (arith, within)) ∙ ap (λ k. natural (pos (at k))) one ∙ natural_small (at (suc i)) small)
      | inr none ↦ rw none (sym (one_of n border none (suc i) at long within fills).0)
    ])

pub size_back : (n border i : ℕ) (at long : ℕ → ℕ) → i < n → Fills n border at long → size_at (sizes n border long) border (at i) i ≡ long i
size_back n border i at long within fills = elim (cases_Bool (nat_lt 1 n && nat_lt 1 border)) [
  | inl several ↦ rw several (rw (length-values (λ k. long k - 1) 0 (n - 1)) (elim (cases_lt i (n - 1)) [
    | inl before ↦
        let test : nat_lt i (n - 1) ≡ true = lt-ltb i (n - 1) before in
        let some = fills.longs i within in
        let end = fills.ends i within in
        let few = fills.few in
        let small : natural (pos (long i - 1)) ≡ long i - 1 = natural_small (long i - 1) (omega (arith, end, few)) in
        let same : 0 + i ≡ i = omega arith in
        let read : slice_index (values (λ k. long k - 1) 0 (n - 1)) i ≡ long i - 1 = values_at (λ k. long k - 1) 0 (n - 1) i before ∙ ap (λ k. natural (pos (long k - 1))) same ∙ small in
        rw (test, read) (omega (arith, some, end, few))
    | inr past ↦
        let test : nat_lt i (n - 1) ≡ false = le-ltb i (n - 1) past in
        let here : i ≡ n - 1 = omega (arith, within, past) in
        let whole : at i + long i ≡ border = rw here fills.last in
        rw test (omega (arith, whole))
  ]))
  | inr none ↦ let past : nat_lt i 0 ≡ false = le-ltb i 0 (omega arith) in rw none (rw past (one_of n border none i at long within fills).1)
]

-- ---- the items of a place

abbrev pub rect_at : List Rect → ℕ → Rect
rect_at rects i = slice_index_or rects i no_rect

pub place_passes : (test : ℕ → Bool) → test 120 ≡ true → test 121 ≡ true → test 122 ≡ true → test 123 ≡ true → (columns rows : ℕ) (rects : List Rect) (i : ℕ) → Passing test (place_items columns rows rects i)
place_passes test a b c d columns rows rects i =
    passing_append test (where_so (is_set i && nat_lt 1 columns) (item 120 (rect_at rects i).x ∷ [])) _ (passing_where test (is_set i && nat_lt 1 columns) _ (a, tt))
    (passing_append test (where_so (is_set i && nat_lt 1 rows) (item 121 (rect_at rects i).y ∷ [])) _ (passing_where test (is_set i && nat_lt 1 rows) _ (b, tt))
    (passing_append test (where_so (nat_lt i (length rects - 1) && nat_lt 1 columns) (item 122 ((rect_at rects i).w - 1) ∷ [])) _ (passing_where test (nat_lt i (length rects - 1) && nat_lt 1 columns) _ (c, tt))
    (passing_where test (nat_lt i (length rects - 1) && nat_lt 1 rows) _ (d, tt))))

pub places_pass : (test : ℕ → Bool) → test 118 ≡ true → test 119 ≡ true → test 120 ≡ true → test 121 ≡ true → test 122 ≡ true → test 123 ≡ true → (columns rows : ℕ) (rects : List Rect)
    → Passing test (places_items columns rows rects)
places_pass test f g a b c d columns rows rects =
    passing_where test (nat_lt 1 (length rects)) _ (f, (g, passing_turns test (place_items columns rows rects) 0 (length rects) (λ i. place_passes test a b c d columns rows rects i)))

-- the four items of a place
four_x : (i : ℕ) (columns rows : ℕ) (rects : List Rect) → with_field 120 (place_items columns rows rects i) ≡ where_so (is_set i && nat_lt 1 columns) (item 120 (rect_at rects i).x ∷ [])
four_x i columns rows rects =
    with_first 120 (where_so (is_set i && nat_lt 1 columns) (item 120 (rect_at rects i).x ∷ [])) _
    (lacks (λ f. nat_lt 120 f) 120 _ refl
    (passing_append (λ f. nat_lt 120 f) (where_so (is_set i && nat_lt 1 rows) (item 121 (rect_at rects i).y ∷ [])) _ (passing_where (λ f. nat_lt 120 f) (is_set i && nat_lt 1 rows) _ (refl, tt))
    (passing_append (λ f. nat_lt 120 f) (where_so (nat_lt i (length rects - 1) && nat_lt 1 columns) (item 122 ((rect_at rects i).w - 1) ∷ [])) _
    (passing_where (λ f. nat_lt 120 f) (nat_lt i (length rects - 1) && nat_lt 1 columns) _ (refl, tt))
    (passing_where (λ f. nat_lt 120 f) (nat_lt i (length rects - 1) && nat_lt 1 rows) _ (refl, tt)))))
    ∙ where_has 120 (rect_at rects i).x (is_set i && nat_lt 1 columns)

four_y : (i : ℕ) (columns rows : ℕ) (rects : List Rect) → with_field 121 (place_items columns rows rects i) ≡ where_so (is_set i && nat_lt 1 rows) (item 121 (rect_at rects i).y ∷ [])
four_y i columns rows rects =
    with_second 121 (where_so (is_set i && nat_lt 1 columns) (item 120 (rect_at rects i).x ∷ [])) _
    (lacks (λ f. nat_lt f 121) 121 _ refl (passing_where (λ f. nat_lt f 121) (is_set i && nat_lt 1 columns) _ (refl, tt)))
    ∙ with_first 121 (where_so (is_set i && nat_lt 1 rows) (item 121 (rect_at rects i).y ∷ [])) _
    (lacks (λ f. nat_lt 121 f) 121 _ refl
    (passing_append (λ f. nat_lt 121 f) (where_so (nat_lt i (length rects - 1) && nat_lt 1 columns) (item 122 ((rect_at rects i).w - 1) ∷ [])) _
    (passing_where (λ f. nat_lt 121 f) (nat_lt i (length rects - 1) && nat_lt 1 columns) _ (refl, tt))
    (passing_where (λ f. nat_lt 121 f) (nat_lt i (length rects - 1) && nat_lt 1 rows) _ (refl, tt))))
    ∙ where_has 121 (rect_at rects i).y (is_set i && nat_lt 1 rows)

behind_corner : (of : ℕ) → nat_lt of 122 ≡ false → (i : ℕ) (columns rows : ℕ) (rects : List Rect)
    → with_field of (place_items columns rows rects i)
    ≡ with_field of (where_so (nat_lt i (length rects - 1) && nat_lt 1 columns) (item 122 ((rect_at rects i).w - 1) ∷ [])
    ++ where_so (nat_lt i (length rects - 1) && nat_lt 1 rows) (item 123 ((rect_at rects i).h - 1) ∷ []))
behind_corner of past i columns rows rects =
    with_second of (where_so (is_set i && nat_lt 1 columns) (item 120 (rect_at rects i).x ∷ [])) _
    (lacks (λ f. nat_lt f 122) of _ past (passing_where (λ f. nat_lt f 122) (is_set i && nat_lt 1 columns) _ (refl, tt)))
    ∙ with_second of (where_so (is_set i && nat_lt 1 rows) (item 121 (rect_at rects i).y ∷ [])) _
    (lacks (λ f. nat_lt f 122) of _ past (passing_where (λ f. nat_lt f 122) (is_set i && nat_lt 1 rows) _ (refl, tt)))

four_w : (i : ℕ) (columns rows : ℕ) (rects : List Rect) → with_field 122 (place_items columns rows rects i) ≡ where_so (nat_lt i (length rects - 1) && nat_lt 1 columns) (item 122 ((rect_at rects i).w - 1) ∷ [])
four_w i columns rows rects =
    behind_corner 122 refl i columns rows rects
    ∙ with_first 122 (where_so (nat_lt i (length rects - 1) && nat_lt 1 columns) (item 122 ((rect_at rects i).w - 1) ∷ [])) _
    (lacks (λ f. nat_lt 122 f) 122 _ refl (passing_where (λ f. nat_lt 122 f) (nat_lt i (length rects - 1) && nat_lt 1 rows) _ (refl, tt)))
    ∙ where_has 122 ((rect_at rects i).w - 1) (nat_lt i (length rects - 1) && nat_lt 1 columns)

four_h : (i : ℕ) (columns rows : ℕ) (rects : List Rect) → with_field 123 (place_items columns rows rects i) ≡ where_so (nat_lt i (length rects - 1) && nat_lt 1 rows) (item 123 ((rect_at rects i).h - 1) ∷ [])
four_h i columns rows rects =
    behind_corner 123 refl i columns rows rects
    ∙ with_second 123 (where_so (nat_lt i (length rects - 1) && nat_lt 1 columns) (item 122 ((rect_at rects i).w - 1) ∷ [])) _
    (lacks (λ f. nat_lt f 123) 123 _ refl (passing_where (λ f. nat_lt f 123) (nat_lt i (length rects - 1) && nat_lt 1 columns) _ (refl, tt)))
    ∙ where_has 123 ((rect_at rects i).h - 1) (nat_lt i (length rects - 1) && nat_lt 1 rows)

-- ---- all places

set_suc : (i : ℕ) → 1 ≤ i → is_set i ≡ true
set_suc zero some = absurd (omega arith)
set_suc (suc i) some = rw (not_zero i) refl

-- a field of all turns but the first
corners_of : (of border n : ℕ) (f : ℕ → ℕ) (items : ℕ → List Item) → 1 < n → ((i : ℕ) → with_field of (items i) ≡ where_so (is_set i && nat_lt 1 border) (item of (f i) ∷ []))
    → numbers_of (in_all_turns items 0 n) of ≡ cond (nat_lt 1 border) (values f 1 (n - 1)) []
corners_of of border zero f items several each = absurd (omega arith)
corners_of of border (suc n) f items several each =
    let back : suc n - 1 ≡ n = omega arith in
    rw back (ap (λ xs. map (λ item. natural item.value) xs) (with_second of (items 0) (in_all_turns items 1 n) (each 0)) ∙ elim (cases_Bool (nat_lt 1 border)) [
      | inl wide ↦ rw wide (numbers_turns of f items 1 n (λ i from within. each i ∙ rw (set_suc i from, wide) refl))
      | inr narrow ↦ rw narrow (ap (λ xs. map (λ item. natural item.value) xs) (no_numbers of items 1 n (λ i from within. each i ∙ rw (set_suc i from, narrow) refl)))
    ])

-- and of all but the last
sizes_of : (of border n : ℕ) (f : ℕ → ℕ) (items : ℕ → List Item) → 1 < n → ((i : ℕ) → with_field of (items i) ≡ where_so (nat_lt i (n - 1) && nat_lt 1 border) (item of (f i) ∷ []))
    → numbers_of (in_all_turns items 0 n) of ≡ cond (nat_lt 1 border) (values f 0 (n - 1)) []
sizes_of of border n f items several each =
    let one : n - 1 + 1 ≡ n = omega arith in
    let last : with_field of (items (n - 1)) ≡ [] = each (n - 1) ∙ rw (le-ltb (n - 1) (n - 1) (omega arith)) refl in
    ap (λ k. numbers_of (in_all_turns items 0 k) of) (sym one) ∙ ap (λ xs. numbers_of xs of) (turn_more items (n - 1))
    ∙ ap (λ xs. map (λ item. natural item.value) xs) (with_first of (in_all_turns items 0 (n - 1)) (items (n - 1)) last)
    ∙ elim (cases_Bool (nat_lt 1 border)) [
      | inl wide ↦ rw wide (numbers_turns of f items 0 (n - 1) (λ i from within. each i ∙ rw (lt-ltb i (n - 1) (omega (arith, within)), wide) refl))
      | inr narrow ↦ rw narrow (ap (λ xs. map (λ item. natural item.value) xs) (no_numbers of items 0 (n - 1) (λ i from within. each i ∙ rw (lt-ltb i (n - 1) (omega (arith, within)), narrow) refl)))
    ]

-- where there are several
several_of : (of n : ℕ) (items : List Item) (flags : List Item) (b : Bool) (wanted : List ℕ) → with_field of flags ≡ [] → (1 < n → numbers_of items of ≡ cond b wanted [])
    → numbers_of (where_so (nat_lt 1 n) (flags ++ items)) of ≡ cond (nat_lt 1 n && b) wanted []
several_of of n items flags b wanted none each = elim (cases_Bool (nat_lt 1 n)) [
  | inl several ↦ rw several (ap (λ xs. map (λ item. natural item.value) xs) (with_second of flags items none) ∙ each (ltb-true 1 n several))
  | inr one ↦ rw one refl
]

pub xs_of : (columns rows : ℕ) (rects : List Rect) → numbers_of (places_items columns rows rects) 120 ≡ corners (length rects) columns (λ i. (rect_at rects i).x)
xs_of columns rows rects =
    several_of 120 (length rects) (in_all_turns (place_items columns rows rects) 0 (length rects)) (item 118 1 ∷ item 119 0 ∷ []) (nat_lt 1 columns) (values (λ i. (rect_at rects i).x) 1 (length rects - 1)) refl
    (λ several. corners_of 120 columns (length rects) (λ i. (rect_at rects i).x) (place_items columns rows rects) several (λ i. four_x i columns rows rects))

pub ys_of : (columns rows : ℕ) (rects : List Rect) → numbers_of (places_items columns rows rects) 121 ≡ corners (length rects) rows (λ i. (rect_at rects i).y)
ys_of columns rows rects =
    several_of 121 (length rects) (in_all_turns (place_items columns rows rects) 0 (length rects)) (item 118 1 ∷ item 119 0 ∷ []) (nat_lt 1 rows) (values (λ i. (rect_at rects i).y) 1 (length rects - 1)) refl
    (λ several. corners_of 121 rows (length rects) (λ i. (rect_at rects i).y) (place_items columns rows rects) several (λ i. four_y i columns rows rects))

pub ws_of : (columns rows : ℕ) (rects : List Rect) → numbers_of (places_items columns rows rects) 122 ≡ sizes (length rects) columns (λ i. (rect_at rects i).w)
ws_of columns rows rects =
    several_of 122 (length rects) (in_all_turns (place_items columns rows rects) 0 (length rects)) (item 118 1 ∷ item 119 0 ∷ []) (nat_lt 1 columns) (values (λ i. (rect_at rects i).w - 1) 0 (length rects - 1)) refl
    (λ several. sizes_of 122 columns (length rects) (λ i. (rect_at rects i).w - 1) (place_items columns rows rects) several (λ i. four_w i columns rows rects))

pub hs_of : (columns rows : ℕ) (rects : List Rect) → numbers_of (places_items columns rows rects) 123 ≡ sizes (length rects) rows (λ i. (rect_at rects i).h)
hs_of columns rows rects =
    several_of 123 (length rects) (in_all_turns (place_items columns rows rects) 0 (length rects)) (item 118 1 ∷ item 119 0 ∷ []) (nat_lt 1 rows) (values (λ i. (rect_at rects i).h - 1) 0 (length rects - 1)) refl
    (λ several. sizes_of 123 rows (length rects) (λ i. (rect_at rects i).h - 1) (place_items columns rows rects) several (λ i. four_h i columns rows rects))

-- ---- rectangles that are parts fill both axes

pub fills_across : (columns rows : ℕ) (rects : List Rect) → columns ≤ 16384 → AreParts columns rows rects → Fills (length rects) columns (λ i. (rect_at rects i).x) (λ i. (rect_at rects i).w)
fills_across columns rows rects few are = record {
  some = are.some;
  few = few;
  longs = λ i within. (All-get_or (IsPart columns rows) rects i no_rect within are.parts).wide;
  ends = λ i within. (All-get_or (IsPart columns rows) rects i no_rect within are.parts).across;
  first = are.begins.left;
  last = are.ends.right;
}

pub fills_down : (columns rows : ℕ) (rects : List Rect) → rows ≤ 16384 → AreParts columns rows rects → Fills (length rects) rows (λ i. (rect_at rects i).y) (λ i. (rect_at rects i).h)
fills_down columns rows rects few are = record {
  some = are.some;
  few = few;
  longs = λ i within. (All-get_or (IsPart columns rows) rects i no_rect within are.parts).high;
  ends = λ i within. (All-get_or (IsPart columns rows) rects i no_rect within are.parts).down;
  first = are.begins.top;
  last = are.ends.bottom;
}
