-- Items put one behind another: sizes, heights, groups.
use Rattle.std.proofs.Common.{neg_ℤ, ◌+ℤ◌}
use Rattle.std.proofs.Common.{◌≡◌, ℕ, pos, suc, ◌*◌, ◌+◌, ◌-◌, ◌<◌, ◌≤◌, leb, eqb, ltb, ◌&&◌, Bool, true, false, cond, List, [], ◌∷◌, ◌++◌, length, map, take, drop, get_or, sym, ap, ◌∙◌, inl, inr, arith, refl, append_assoc, drop-cons, length-append}
use Rattle.std.proofs.lemmas.Bool.{cases_Bool, cases_lt, false_from_ne_true, eqb-false, eqb-true, le-leb, leb-true, ne_eqb, true≢false}
use Rattle.std.proofs.lemmas.List.{append-nil, drop_all, get_or_append_left, get_or-map, get_or-take, length-map, length-take-le, take-map}
use Rattle.std.specs.List.{All}
use Rattle.std.proofs.lemmas.List.Elements.{All-cons, All-head, All-nil, All-tail}
use Rattle.vx_fields.specs.declared.pps.TheConstants as pps
use Rattle.vx_bits.specs.declared.list.Item.{Item}
use Rattle.vx_layout.specs.declared.rect.Rect.{Rect}
use Rattle.vx_layout.specs.Bounds.{gaps_after, last, sizes_between}
use Rattle.vx_layout.specs.Heights.{all_but_last, written_heights}
use Rattle.vx_layout.proofs.Tiling.{last-get_or}
use Rattle.vx_pps.specs.declared.groups.Span.{Span}
use Rattle.vx_pps.specs.declared.tiles.Tiles.{Tiles}
use Rattle.vx_pps.specs.Tiles.{across, block, column, down, row, tile}
use Rattle.vx_pps.specs.Groups.{Follow, Group, InGroups, cut, high_of, slices_of_group, slices_of_all, first_tile_of, strips, whole}
use Rattle.vx_pps.specs.Written.{delta_items, height_items, heights_items, only_item, list_items, tile_size_items, strip_items, width_items}
use Rattle.vx_pps.specs.inner.Found.{AreGroups, IsSpan, LiesInside, Stand, delta_behind, group_items}
use Rattle.vx_pps.proofs.Few.{group_some, strips_length}

-- ---- sizes

-- what was appended so far, and what is left
pub record SizesLeft (before items : List Item) (of : ℕ) (bounds : List ℕ) (i : ℕ) : Type 0 where
  pub same : before ++ tile_size_items of (sizes_between bounds) ≡ items ++ tile_size_items of (gaps_after (get_or bounds (i - 1) 0) (drop i bounds))

pub sizes_first : (before : List Item) (of : ℕ) (bounds : List ℕ) → SizesLeft before before of bounds 1
sizes_first before of [] = record { same = refl }
sizes_first before of (a ∷ bounds) = record { same = refl }

pub sizes_more : (before items new : List Item) (of : ℕ) (bounds : List ℕ) (i size : ℕ) → SizesLeft before items of bounds i → 1 ≤ i → i < length bounds → size ≡ get_or bounds i 0 - get_or bounds (i - 1) 0 - 1 → new ≡ items ++ only_item of (pos size)
    → SizesLeft before new of bounds (i + 1)
sizes_more before items new of bounds i size left from short is pushed =
    let b : ℕ = get_or bounds i 0 in
    let up : suc i ≡ i + 1 = omega arith in
    let front : drop i bounds ≡ b ∷ drop (i + 1) bounds = drop-cons bounds i 0 short ∙ ap (λ n. b ∷ drop n bounds) up in
    let back : i + 1 - 1 ≡ i = omega arith in
    let rest : List Item = tile_size_items of (gaps_after b (drop (i + 1) bounds)) in
    record {
      same = left.same ∙ ap (λ bs. items ++ tile_size_items of (gaps_after (get_or bounds (i - 1) 0) bs)) front
          ∙ ap (λ n. items ++ (only_item of (pos n) ++ rest)) (sym is) ∙ sym (append_assoc items (only_item of (pos size)) rest)
          ∙ ap (λ xs. xs ++ rest) (sym pushed) ∙ ap (λ n. new ++ tile_size_items of (gaps_after (get_or bounds n 0) (drop (i + 1) bounds))) (sym back);
    }

pub sizes_done : (before items : List Item) (of : ℕ) (bounds : List ℕ) (i : ℕ) → SizesLeft before items of bounds i → length bounds ≤ i → items ≡ before ++ tile_size_items of (sizes_between bounds)
sizes_done before items of bounds i left end =
    sym (left.same ∙ ap (λ bs. items ++ tile_size_items of (gaps_after (get_or bounds (i - 1) 0) bs)) (drop_all i bounds end) ∙ append-nil items)

-- ---- heights

abbrev pub heights_in : List Rect → List ℕ
heights_in rects = map (λ (r : Rect). r.h) rects

last_height : (rects : List Rect) (d : Rect) → 0 < length rects → last (heights_in rects) ≡ (get_or rects (length rects - 1) d).h
last_height rects d some =
    let long = length-map rects (λ (r : Rect). r.h) in
    sym (last-get_or (heights_in rects) (omega (arith, long))) ∙ ap (λ n. get_or (heights_in rects) (n - 1) 0) long ∙ get_or-map (λ (r : Rect). r.h) rects (length rects - 1) d 0 (omega arith)

before_last : (rects : List Rect) (d : Rect) → 2 ≤ length rects → last (all_but_last (heights_in rects)) ≡ (get_or rects (length rects - 1 - 1) d).h
before_last rects d some =
    let long = length-map rects (λ (r : Rect). r.h) in
    let n : ℕ = length rects - 1 in
    let cut_ : all_but_last (heights_in rects) ≡ heights_in (take n rects) = ap (λ k. take (k - 1) (heights_in rects)) long ∙ take-map (λ (r : Rect). r.h) n rects in
    let short : length (take n rects) ≡ n = length-take-le n rects (omega arith) in
    ap last cut_ ∙ last_height (take n rects) d (omega (arith, short)) ∙ ap (λ k. (get_or (take n rects) (k - 1) d).h) short ∙ ap (λ (r : Rect). r.h) (get_or-take n rects (n - 1) d (omega arith))

pub written_less : (rects : List Rect) (d : Rect) → 2 ≤ length rects → (get_or rects (length rects - 1) d).h ≤ (get_or rects (length rects - 1 - 1) d).h → heights_in (take (length rects - 1) rects) ≡ written_heights (heights_in rects)
written_less rects d some low =
    let long = length-map rects (λ (r : Rect). r.h) in
    let level : leb (last (heights_in rects)) (last (all_but_last (heights_in rects))) ≡ true = le-leb _ _ (omega (arith, low, last_height rects d (omega arith), before_last rects d some)) in
    rw level (sym (ap (λ k. take (k - 1) (heights_in rects)) long ∙ take-map (λ (r : Rect). r.h) (length rects - 1) rects))

pub written_all : (rects : List Rect) (d : Rect) → 2 ≤ length rects → (get_or rects (length rects - 1 - 1) d).h < (get_or rects (length rects - 1) d).h → heights_in rects ≡ written_heights (heights_in rects)
written_all rects d some high =
    let level : leb (last (heights_in rects)) (last (all_but_last (heights_in rects))) ≡ false
    = false_from_ne_true _ (λ e. let low : last (heights_in rects) ≤ last (all_but_last (heights_in rects)) = leb-true _ _ e in omega (arith, low, high, last_height rects d (omega arith), before_last rects d some)) in
    rw level refl

-- heights that are left
pub record HeightsLeft (all items : List Item) (rects : List Rect) (i : ℕ) : Type 0 where
  pub same : all ≡ items ++ strip_items (heights_in (drop i rects))

pub heights_first : (before items : List Item) (rects : List Rect) (n : ℕ) → items ≡ before ++ only_item pps.pps_num_exp_slices_in_tile (pos n) → HeightsLeft (before ++ (only_item pps.pps_num_exp_slices_in_tile (pos n) ++ strip_items (heights_in rects))) items rects 0
heights_first before items rects n pushed = record { same = sym (append_assoc before (only_item pps.pps_num_exp_slices_in_tile (pos n)) (strip_items (heights_in rects))) ∙ ap (λ xs. xs ++ strip_items (heights_in rects)) (sym pushed) }

pub heights_more : (all items new : List Item) (rects : List Rect) (i size : ℕ) (d : Rect) → HeightsLeft all items rects i → i < length rects → size ≡ (get_or rects i d).h - 1 → new ≡ items ++ only_item pps.pps_exp_slice_height_in_ctus_minus1 (pos size) → HeightsLeft all new rects (i + 1)
heights_more all items new rects i size d left short is pushed =
    let up : suc i ≡ i + 1 = omega arith in
    let front : drop i rects ≡ get_or rects i d ∷ drop (i + 1) rects = drop-cons rects i d short ∙ ap (λ n. get_or rects i d ∷ drop n rects) up in
    let rest : List Item = strip_items (heights_in (drop (i + 1) rects)) in
    record {
      same = left.same ∙ ap (λ rs. items ++ strip_items (heights_in rs)) front ∙ ap (λ n. items ++ (only_item pps.pps_exp_slice_height_in_ctus_minus1 (pos n) ++ rest)) (sym is)
          ∙ sym (append_assoc items (only_item pps.pps_exp_slice_height_in_ctus_minus1 (pos size)) rest) ∙ ap (λ xs. xs ++ rest) (sym pushed);
    }

pub heights_done : (all items : List Item) (rects : List Rect) (i : ℕ) → HeightsLeft all items rects i → length rects ≤ i → items ≡ all
heights_done all items rects i left end = sym (left.same ∙ ap (λ rs. items ++ strip_items (heights_in rs)) (drop_all i rects end) ∙ append-nil items)

-- the heights of the slices of a tile
strip_heights : (t : Rect) (y : ℕ) (heights : List ℕ) → heights_in (strips t y heights) ≡ heights
strip_heights t y [] = refl
strip_heights t y (h ∷ heights) = ap (λ hs. h ∷ hs) (strip_heights t (y + h) heights)

pub several_heights : (g : Tiles) (group : Group) (rects : List Rect) → LiesInside g group → slices_of_group g group ≡ rects → 1 < length rects
    → heights_items g group ≡ (only_item pps.pps_num_exp_slices_in_tile (pos (length (written_heights (heights_in rects)))) ++ strip_items (written_heights (heights_in rects)))
several_heights g (whole t wide high) rects is same several = absurd (omega (arith, several, ap length same))
several_heights g (cut t heights) rects is same several =
    let e : heights ≡ heights_in rects = sym (strip_heights (tile g t) (tile g t).y heights) ∙ ap heights_in same in
    ap (λ hs. only_item pps.pps_num_exp_slices_in_tile (pos (length (written_heights hs))) ++ strip_items (written_heights hs)) e

-- whether one slice is a tile that might have several
one_less : (n : ℕ) → 1 ≤ n → eqb (n - 1) 0 ≡ eqb n 1
one_less n some = elim (cases_Bool (eqb n 1)) [
  | inl one ↦ let e : n ≡ 1 = eqb-true _ _ one in rw e refl
  | inr more ↦ let other = eqb-false _ _ more in ne_eqb (n - 1) 0 (λ e. other (omega (arith, e))) ∙ sym more
]

pub one_height : (g : Tiles) (span : Span) (group : Group) (rects : List Rect) (d : Rect) → LiesInside g group → IsSpan span group → slices_of_group g group ≡ rects → length rects ≤ 1
    → heights_items g group ≡ cond ((eqb span.wide 1 && eqb span.high 1) && ltb 1 (get_or rects 0 d).h) (only_item pps.pps_num_exp_slices_in_tile (pos 0)) []
one_height g span (cut t heights) rects d is s same one = absurd (omega (arith, one, is.lies.0, ap length same, strips_length (tile g t) (tile g t).y heights))
one_height g span (whole t wide high) rects d is s same one =
    let here : get_or rects 0 d ≡ block g t wide high = ap (λ rs. get_or rs 0 d) (sym same) in
    rw (s.wide_is, s.high_is, here, ← one_less wide is.lies.0, ← one_less high is.lies.1)
    (elim (cases_Bool (eqb (wide - 1) 0)) [
      | inr wider ↦ rw wider refl
      | inl narrow ↦ elim (cases_Bool (eqb (high - 1) 0)) [
        | inr higher ↦ rw (narrow, higher) refl
        | inl low ↦
            let e : wide - 1 ≡ 0 = eqb-true _ _ narrow in
            let f : high - 1 ≡ 0 = eqb-true _ _ low in
            let one_wide : 1 ≡ wide = omega (arith, is.lies.0) in
            let one_high : 1 ≡ high = omega (arith, is.lies.1) in
            rw (narrow, low) (ap (λ n. cond (ltb 1 (block g t n 1).h) (only_item pps.pps_num_exp_slices_in_tile (pos 0)) []) one_wide ∙ ap (λ n. cond (ltb 1 (block g t wide n).h) (only_item pps.pps_num_exp_slices_in_tile (pos 0)) []) one_high)
      ]
    ])

-- ---- groups

no_groups : (g : Tiles) (groups : List Group) → AreGroups g groups [] → groups ≡ []
no_groups g [] are = refl
no_groups g (group ∷ groups) are =
    let some = group_some g group (All-head (LiesInside g) group groups are.inside).lies in
    absurd (omega (arith, some, ap length are.same, length-append (slices_of_group g group) (slices_of_all g groups)))

-- what comes behind a group is known by the slices behind it
pub none_behind : (g : Tiles) (deltas : Bool) (tile : ℕ) (groups : List Group) (behind : List Rect) → AreGroups g groups behind → length behind ≡ 0 → delta_behind deltas tile groups ≡ []
none_behind g deltas tile groups [] are none = ap (delta_behind deltas tile) (no_groups g groups are)
none_behind g deltas tile groups (r ∷ behind) are none = absurd (omega arith)

pub unspelled_behind : (tile : ℕ) (groups : List Group) → delta_behind false tile groups ≡ []
unspelled_behind tile [] = refl
unspelled_behind tile (next ∷ more) = refl

append-parts : (xs ys cs ds : List Rect) → length xs ≡ length cs → xs ++ ys ≡ cs ++ ds → (xs ≡ cs) × (ys ≡ ds)
append-parts [] ys [] ds long same = (refl, same)
append-parts [] ys (c ∷ cs) ds long same = absurd (omega arith)
append-parts (x ∷ xs) ys [] ds long same = absurd (omega arith)
append-parts (x ∷ xs) ys (c ∷ cs) ds long same =
    let first : x ≡ c = cc in
    let rest : xs ++ ys ≡ cs ++ ds = cc in
    let both = append-parts xs ys cs ds (omega arith) rest in
    (ap (λ r. r ∷ xs) first ∙ ap (λ rs. c ∷ rs) both.0, both.1)

pub groups_of : (g : Tiles) (group : Group) (groups : List Group) (slices here behind : List Rect) → AreGroups g (group ∷ groups) slices → here ++ behind ≡ slices → length here ≡ length (slices_of_group g group) → Stand g here behind group groups
groups_of g group groups slices here behind are parts long =
    let cut_ = append-parts here behind (slices_of_group g group) (slices_of_all g groups) long (parts ∙ sym are.same) in
    record {
      same = sym cut_.0;
      inside = All-head (LiesInside g) group groups are.inside;
      others = record { same = sym cut_.1; inside = All-tail (LiesInside g) group groups are.inside };
    }

-- a group is written as its parts are, one behind another
four_parts : (before w h s d one two three four : List Item) → one ≡ before ++ w → two ≡ one ++ h → three ≡ two ++ s → four ≡ three ++ d → four ≡ before ++ (w ++ (h ++ (s ++ d)))
four_parts before w h s d one two three four is_one is_two is_three is_four =
    is_four ∙ ap (λ xs. xs ++ d) (is_three ∙ ap (λ xs. xs ++ s) (is_two ∙ ap (λ xs. xs ++ h) is_one)) ∙ simp append_assoc

pub group_pushed : (g : Tiles) (deltas : Bool) (span : Span) (group : Group) (groups : List Group) (here behind : List Rect) (before one two three four : List Item) → Stand g here behind group groups → IsSpan span group → (length behind ≡ 0 → 1 < length here)
    → one ≡ before ++ width_items g span.start span.wide → two ≡ one ++ height_items g deltas span.start span.high → three ≡ two ++ heights_items g group → four ≡ three ++ delta_behind deltas span.start groups
    → four ≡ before ++ group_items g deltas group groups
group_pushed g deltas span (whole t wide high) [] here behind before one two three four stand s several e1 e2 e3 e4 = absurd (omega (arith, several (ap length (sym stand.others.same)), ap length stand.same))
group_pushed g deltas span (cut t heights) [] here behind before one two three four stand s several e1 e2 e3 e4 =
    four_parts before (width_items g t 1) (height_items g deltas t 1) (heights_items g (cut t heights)) [] one two three four
    (e1 ∙ rw (s.start_is, s.wide_is) refl) (e2 ∙ rw (s.start_is, s.high_is) refl) e3 e4
group_pushed g deltas span group (next ∷ more) here behind before one two three four stand s several e1 e2 e3 e4 =
    four_parts before _ _ (heights_items g group) (delta_items deltas (first_tile_of group) (first_tile_of next)) one two three four
    (e1 ∙ rw (s.start_is, s.wide_is) refl) (e2 ∙ rw (s.start_is, s.high_is) refl) e3 (e4 ∙ rw s.start_is refl)

pub several_left : (behind here : ℕ) → (eqb behind 0 && eqb here 1) ≡ false → 0 < here → behind ≡ 0 → 1 < here
several_left behind here others some none =
    elim (cases_lt 1 here) [
      | inl more ↦ more
      | inr one ↦
          let e : here ≡ 1 = omega arith in
          let both : (eqb behind 0 && eqb here 1) ≡ true = rw (none, e) refl in
          absurd (true≢false (sym both ∙ others))
    ]

pub last_unspelled : (g : Tiles) (deltas : Bool) (group : Group) (groups : List Group) (here behind : List Rect) → Stand g here behind group groups → length behind ≡ 0 → length here ≡ 1 → group_items g deltas group groups ≡ []
last_unspelled g deltas (whole t wide high) [] here behind stand none one = refl
last_unspelled g deltas (cut t heights) [] here behind stand none one = absurd (omega (arith, one, ap length stand.same, strips_length (tile g t) (tile g t).y heights, stand.inside.lies.0))
last_unspelled g deltas group (next ∷ more) here behind stand none one =
    let some = group_some g next (All-head (LiesInside g) next more stand.others.inside).lies in
    absurd (omega (arith, some, none, ap length stand.others.same, length-append (slices_of_group g next) (slices_of_all g more)))

-- ---- the list

pub group_first : (g : Tiles) (deltas : Bool) (group : Group) (groups : List Group) → list_items g deltas (group ∷ groups) ≡ (group_items g deltas group groups ++ list_items g deltas groups)
group_first g deltas group [] = sym (append-nil (group_items g deltas group []))
group_first g deltas group (next ∷ more) = refl

-- groups that are left, and what was appended of those before
pub record ListLeft (g : Tiles) (deltas : Bool) (all items : List Item) (left : List Rect) : Type 0 where
  pub groups : List Group
  pub are : AreGroups g groups left
  pub same : all ≡ items ++ list_items g deltas groups

pub list_done : (g : Tiles) (deltas : Bool) (all items : List Item) (left : List Rect) → ListLeft g deltas all items left → length left ≡ 0 → items ≡ all
list_done g deltas all items [] l none = sym (l.same ∙ ap (λ gs. items ++ list_items g deltas gs) (no_groups g l.groups l.are) ∙ append-nil items)
list_done g deltas all items (r ∷ left) l none = absurd (omega arith)

more_of : (g : Tiles) (deltas : Bool) (all items new : List Item) (left here behind : List Rect) (groups : List Group) → AreGroups g groups left → all ≡ items ++ list_items g deltas groups → 0 < length left → here ++ behind ≡ left
    → ((group : Group) (after : List Rect) → LiesInside g group → left ≡ slices_of_group g group ++ after → length here ≡ length (slices_of_group g group))
    → ((group : Group) (groups : List Group) → Stand g here behind group groups → new ≡ items ++ group_items g deltas group groups)
    → ListLeft g deltas all new behind
more_of g deltas all items new left here behind [] are same some parts long pushed = absurd (omega (arith, some, ap length are.same))
more_of g deltas all items new left here behind (group ∷ groups) are same some parts long pushed =
    let inside = All-head (LiesInside g) group groups are.inside in
    let stand = groups_of g group groups left here behind are parts (long group (slices_of_all g groups) inside (sym are.same)) in
    record {
      groups = groups;
      are = stand.others;
      same = same ∙ ap (λ xs. items ++ xs) (group_first g deltas group groups) ∙ sym (append_assoc items (group_items g deltas group groups) (list_items g deltas groups))
          ∙ ap (λ xs. xs ++ list_items g deltas groups) (sym (pushed group groups stand));
    }

pub list_more : (g : Tiles) (deltas : Bool) (all items new : List Item) (left here behind : List Rect) → ListLeft g deltas all items left → 0 < length left → here ++ behind ≡ left
    → ((group : Group) (after : List Rect) → LiesInside g group → left ≡ slices_of_group g group ++ after → length here ≡ length (slices_of_group g group))
    → ((group : Group) (groups : List Group) → Stand g here behind group groups → new ≡ items ++ group_items g deltas group groups)
    → ListLeft g deltas all new behind
list_more g deltas all items new left here behind l some parts long pushed = more_of g deltas all items new left here behind l.groups l.are l.same some parts long pushed

-- ---- how far on the next group is

-- the tile where the slices of a group begin
pub corner : (g : Tiles) (group : Group) (d : Rect) → LiesInside g group
    → (get_or g.columns (column g (first_tile_of group)) 0 ≡ (get_or (slices_of_group g group) 0 d).x) × (get_or g.rows (row g (first_tile_of group)) 0 ≡ (get_or (slices_of_group g group) 0 d).y)
corner g (whole t wide high) d is = (refl, refl)
corner g (cut t []) d is = absurd (omega (arith, is.lies.0))
corner g (cut t (h ∷ heights)) d is = (refl, refl)

pub delta_pushed : (g : Tiles) (tile_ next : ℕ) (r : Rect) (groups : List Group) (behind : List Rect) (items new : List Item) → AreGroups g groups behind → 0 < length behind → r ≡ get_or behind 0 r
    → ((t : ℕ) → t < across g * down g → get_or g.columns (column g t) 0 ≡ r.x → get_or g.rows (row g t) 0 ≡ r.y → next ≡ t) → new ≡ items ++ only_item pps.pps_tile_idx_delta_val (pos next +ℤ neg_ℤ (pos tile_)) → new ≡ items ++ delta_behind true tile_ groups
delta_pushed g tile_ next r [] behind items new are some first found pushed = absurd (omega (arith, some, ap length are.same))
delta_pushed g tile_ next r (group ∷ more) behind items new are some first found pushed =
    let is = All-head (LiesInside g) group more are.inside in
    let here : r ≡ get_or (slices_of_group g group) 0 r = first ∙ ap (λ rs. get_or rs 0 r) (sym are.same) ∙ get_or_append_left (slices_of_group g group) (slices_of_all g more) r 0 (omega (arith, group_some g group is.lies)) in
    let at = corner g group r is in
    let next_is : next ≡ first_tile_of group = found (first_tile_of group) is.inside (at.0 ∙ ap (λ (q : Rect). q.x) (sym here)) (at.1 ∙ ap (λ (q : Rect). q.y) (sym here)) in
    pushed ∙ ap (λ n. items ++ only_item pps.pps_tile_idx_delta_val (pos n +ℤ neg_ℤ (pos tile_))) next_is

-- ---- parts one behind another

pub three_parts : (before a b c one two three : List Item) → one ≡ before ++ a → two ≡ one ++ b → three ≡ two ++ c → three ≡ before ++ (a ++ (b ++ c))
three_parts before a b c one two three is_one is_two is_three = is_three ∙ ap (λ xs. xs ++ c) (is_two ∙ ap (λ xs. xs ++ b) is_one) ∙ simp append_assoc

pub five_parts : (before a b c d e one two three four five : List Item) → one ≡ before ++ a → two ≡ one ++ b → three ≡ two ++ c → four ≡ three ++ d → five ≡ four ++ e → five ≡ before ++ (a ++ (b ++ (c ++ (d ++ e))))
five_parts before a b c d e one two three four five is_one is_two is_three is_four is_five =
    is_five ∙ ap (λ xs. xs ++ e) (four_parts before a b c d one two three four is_one is_two is_three is_four) ∙ simp append_assoc

-- groups that can be listed lie in the picture
follow_inside : (g : Tiles) (deltas : Bool) (before : ℕ) (groups : List Group) → Follow g deltas before groups → All (LiesInside g) groups
follow_inside g deltas before [] follow = absurd follow
follow_inside g deltas before (group ∷ []) follow = All-cons (LiesInside g) group [] (record { inside = follow.0.inside; lies = follow.0.lies }) (All-nil (LiesInside g))
follow_inside g deltas before (group ∷ next ∷ more) follow =
    All-cons (LiesInside g) group (next ∷ more) (record { inside = follow.0.inside; lies = follow.0.lies }) (follow_inside g deltas (high_of group - 1) (next ∷ more) follow.2)

pub are_groups : {g : Tiles} {deltas : Bool} {slices : List Rect} (groups : InGroups g deltas slices) → AreGroups g (groups.group ∷ groups.groups) slices
are_groups {g} {deltas} groups = record { same = groups.same; inside = follow_inside g deltas 0 (groups.group ∷ groups.groups) groups.follow }
