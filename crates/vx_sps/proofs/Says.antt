-- What a rewritten set says, from the items that are stated; and that it keeps what its source has.
use Rattle.std.proofs.Common.{◌≡◌, ◌⊎◌, inl, inr, ℕ, zero, suc, ◌+◌, ◌-◌, ◌<◌, ◌≤◌, ◌^◌, true, false, cond, not, ◌==◌, ◌&&◌, ◌||◌, IsFalse, List, [], ◌∷◌, ◌++◌, length, map, Some, None, refl, ap, sym, subst, ◌∙◌, arith}
use Rattle.std.specs.Prelude.{Bool, nat_lt, slice_index_or}
use Rattle.std.proofs.Math.Pow.{pow_mono}
use Rattle.std.proofs.lemmas.Bool.{and_parts, cases_Bool, cases_eq}
use Rattle.vx_bits.specs.declared.list.Item.{Item}
use Rattle.vx_fields.specs.declared.sps.TheConstants as sps
use Rattle.vx_fields.specs.declared.timing.TheConstants as timing
use Rattle.vx_layout.specs.declared.rect.Rect.{Rect}
use Rattle.vx_layout.specs.Rects.{whole_picture}
use Rattle.vx_table.specs.Scope.{fresh, natural, is_set, quotient}
use Rattle.vx_table.specs.Depends.{has, Inside}
use Rattle.vx_table.specs.Loaded.{number, row_below, code_below, range_below}
use Rattle.vx_table.specs.Forms.{has_value}
use Rattle.vx_table.specs.Rewrites.{in_all_turns}
use Rattle.vx_table.specs.Shown.{shown_items}
use Rattle.vx_table.proofs.Loading.{number_of_shown}
use Rattle.vx_table.proofs.Keeping.{shown_of_shown}
use Rattle.vx_sps.specs.declared.shape.SpsShape.{SpsShape}
use Rattle.vx_sps.specs.declared.shape.SubpicPlan.{SubpicPlan}
use Rattle.vx_sps.specs.declared.shape.SubpicPlan.TheVariants.{Absent, One, Many}
use Rattle.vx_sps.specs.Depends.{taken_sps_fields}
use Rattle.vx_sps.specs.Set.{AreSpsItems, width_of, height_of, ctb_size_of, ctu_columns_of, ctu_rows_of}
use Rattle.vx_sps.specs.Subpictures.{ctu_top_left_at, size_at, own_rect, on_grid, rect_of}
use Rattle.vx_table.specs.Loaded.{numbers_of}
use Rattle.vx_sps.specs.Depends.{kept_sps_fields}
use Rattle.vx_sps.specs.Reshaped.{item, item_of_source, place_items, sps_id_items, profile_items, picture_size_items, window_items, has_window, places_items, id_bits, subpic_items, picture_items, dpb_items, rate_items, timing_items, stated_sps_items, IsPlan, IsShape, IsReshapedSps}
use Rattle.vx_table.specs.Rewritten.{where_so}
use Rattle.vx_sps.specs.laws.Reread.{count_in, rect_in, id_in_plan, Says, ReshapedSays, ReshapedKeeps}
use Rattle.vx_table.proofs.Agreeing.{others_too}
use Rattle.vx_table.proofs.Groups.{inside_nothing}
use Rattle.vx_sps.proofs.Stages.{knows_all}
use Rattle.vx_sps.proofs.Stated.{below}
use Rattle.vx_sps.proofs.Exists.{few_units}
use Rattle.vx_table.proofs.With.{with_field, no_number, one_number, others_with, Passing, passing_append, passing_where, passing_times, passing_turns, lacks, same_number, with_first, with_second}
use Rattle.vx_sps.proofs.Places.{place_passes, places_pass, corners, sizes, corner_back, size_back, xs_of, ys_of, ws_of, hs_of, fills_across, fills_down, rect_at}

-- ---- the kept fields

inside_all : (given more : List ℕ) → knows_all more given ≡ true → Inside given more
inside_all [] more knows = inside_nothing more
inside_all (n ∷ rest) more knows =
    let parts = and_parts (has more n) (knows_all more rest) knows in
    record {
      has_too = λ m h. elim (cases_eq m n) [
        | inl is ↦ ap (has more) is ∙ parts.0
        | inr is_not ↦ (inside_all rest more parts.1).has_too m (others_too rest n m is_not h)
      ];
    }

kept_inside : Inside kept_sps_fields taken_sps_fields
kept_inside = inside_all kept_sps_fields taken_sps_fields refl

pub reshaped_keeps : ReshapedKeeps
reshaped_keeps source items shape is =
    sym (shown_of_shown kept_sps_fields taken_sps_fields items kept_inside) ∙ ap (λ x. shown_items kept_sps_fields x) is.shown_ones ∙ shown_of_shown kept_sps_fields taken_sps_fields source kept_inside

-- ---- the picture among what is stated

-- neither an id of a set nor a field of the picture
abbrev pub beside : ℕ → Bool
beside f = (nat_lt f 100 || nat_lt 101 f) && (nat_lt f 109 || nat_lt 129 f)

pub profile_beside : (source : List Item) (level : ℕ) → Passing beside (profile_items source level)
profile_beside source level =
    (refl, (refl, (refl, (refl, (refl, (refl, passing_append beside _ _ (passing_times beside (number source sps.sps_max_sublayers_minus1) _ refl) (refl, tt)))))))

dpb_beside : (source : List Item) (numbers : List ℕ) → Passing beside (dpb_items source numbers)
dpb_beside source numbers = passing_append beside _ _ (passing_where beside (is_set (number source sps.sps_max_sublayers_minus1)) _ (refl, tt)) (refl, (refl, (refl, tt)))

rate_beside : (source : List Item) → Passing beside (rate_items source)
rate_beside source =
    let general = is_set (number source timing.fixed_pic_rate_general_flag) in
    let within = is_set (number source timing.fixed_pic_rate_within_cvs_flag) in (
      refl,
      passing_append beside (where_so (not general) (item_of_source source timing.fixed_pic_rate_within_cvs_flag ∷ [])) (where_so (general || within) (item_of_source source timing.elemental_duration_in_tc_minus1 ∷ []))
          (passing_where beside (not general) _ (refl, tt)) (passing_where beside (general || within) _ (refl, tt)),
    )

timing_beside : (source : List Item) → Passing beside (timing_items source)
timing_beside source =
    let cpb : List Item = where_so (is_set (number source sps.sps_max_sublayers_minus1)) (item sps.sps_sublayer_cpb_params_present_flag 0 ∷ []) in
    passing_where beside (is_set (number source sps.sps_timing_hrd_params_present_flag)) _
    (refl, (refl, (refl, (refl, passing_append beside cpb (rate_items source) (passing_where beside (is_set (number source sps.sps_max_sublayers_minus1)) _ (refl, tt)) (rate_beside source)))))

pub limits_beside : (source : List Item) (numbers : List ℕ) → Passing beside (dpb_items source numbers ++ timing_items source)
limits_beside source numbers = passing_append beside (dpb_items source numbers) (timing_items source) (dpb_beside source numbers) (timing_beside source)

picture_with : (of : ℕ) (source : List Item) (shape : SpsShape) → beside of ≡ false → nat_lt of 109 ≡ false → with_field of (stated_sps_items source shape) ≡ with_field of (picture_items source shape)
picture_with of source shape is past =
    let limits : List Item = dpb_items source shape.dpb ++ timing_items source in
    with_second of (sps_id_items shape.id) (profile_items source shape.level ++ (picture_items source shape ++ limits)) (lacks (λ f. nat_lt f 109) of (sps_id_items shape.id) past (refl, (refl, tt)))
    ∙ with_second of (profile_items source shape.level) (picture_items source shape ++ limits) (lacks beside of (profile_items source shape.level) is (profile_beside source shape.level))
    ∙ with_first of (picture_items source shape) limits (lacks beside of limits is (limits_beside source shape.dpb))

-- the size, and the subpictures behind it
pub window_passes : (test : ℕ → Bool) → test 111 ≡ true → test 112 ≡ true → test 113 ≡ true → test 114 ≡ true → test 115 ≡ true → (window : List ℕ) → Passing test (window_items window)
window_passes test a b c d e window = (a, passing_where test (has_window window) _ (b, (c, (d, (e, tt)))))

pub subpics_pass : (test : ℕ → Bool) → test 116 ≡ true → test 117 ≡ true → test 118 ≡ true → test 119 ≡ true → test 120 ≡ true → test 121 ≡ true → test 122 ≡ true → test 123 ≡ true → test 126 ≡ true
    → test 127 ≡ true → test 128 ≡ true → test 129 ≡ true → (columns rows : ℕ) (plan : SubpicPlan) → Passing test (subpic_items columns rows plan)
subpics_pass test a b c d e f g h k l m n columns rows Absent = (a, tt)
subpics_pass test a b c d e f g h k l m n columns rows (One id_len None) = (a, (b, (k, (l, (m, tt)))))
subpics_pass test a b c d e f g h k l m n columns rows (One id_len (Some id)) = (a, (b, (k, (l, (m, (n, tt))))))
subpics_pass test a b c d e f g h k l m n columns rows (Many rects) = (a, (b, passing_append test (places_items columns rows rects) _ (places_pass test c d e f g h columns rows rects) (k, (l, tt))))

subpics_with : (of width height columns rows : ℕ) (window : List ℕ) (plan : SubpicPlan) → nat_lt of 116 ≡ false
    → with_field of (picture_size_items width height window ++ subpic_items columns rows plan) ≡ with_field of (subpic_items columns rows plan)
subpics_with of width height columns rows window plan past =
    with_second of (picture_size_items width height window) (subpic_items columns rows plan)
    (lacks (λ f. nat_lt f 116) of (picture_size_items width height window) past (refl, (refl, window_passes (λ f. nat_lt f 116) refl refl refl refl refl window)))

width_with : (width height columns rows : ℕ) (window : List ℕ) (plan : SubpicPlan) → with_field 109 (picture_size_items width height window ++ subpic_items columns rows plan) ≡ item 109 width ∷ []
width_with width height columns rows window plan =
    with_first 109 (picture_size_items width height window) (subpic_items columns rows plan)
    (lacks (λ f. nat_lt 109 f) 109 (subpic_items columns rows plan) refl (subpics_pass (λ f. nat_lt 109 f) refl refl refl refl refl refl refl refl refl refl refl refl columns rows plan))
    ∙ ap (λ xs. item 109 width ∷ xs) (lacks (λ f. nat_lt 109 f) 109 (item 110 height ∷ window_items window) refl (refl, window_passes (λ f. nat_lt 109 f) refl refl refl refl refl window))

height_with : (width height columns rows : ℕ) (window : List ℕ) (plan : SubpicPlan) → with_field 110 (picture_size_items width height window ++ subpic_items columns rows plan) ≡ item 110 height ∷ []
height_with width height columns rows window plan =
    with_first 110 (picture_size_items width height window) (subpic_items columns rows plan)
    (lacks (λ f. nat_lt 110 f) 110 (subpic_items columns rows plan) refl (subpics_pass (λ f. nat_lt 110 f) refl refl refl refl refl refl refl refl refl refl refl refl columns rows plan))
    ∙ ap (λ xs. item 110 height ∷ xs) (lacks (λ f. nat_lt 110 f) 110 (window_items window) refl (window_passes (λ f. nat_lt 110 f) refl refl refl refl refl window))

-- ---- numbers

none_listed : (of : ℕ) (xs : List Item) → with_field of xs ≡ [] → numbers_of xs of ≡ []
none_listed of xs none = ap (λ x. map (λ item. natural item.value) x) none

-- ---- what the subpictures' items say

module _ (columns rows : ℕ) where
  abbrev block : SubpicPlan → List Item
  block plan = subpic_items columns rows plan

  -- behind the places
  tail_with : (of : ℕ) (rects : List Rect) → with_field of (item 126 (id_bits (length rects) - 1) ∷ item 127 0 ∷ []) ≡ [] → with_field of (item 116 1 ∷ item 117 (length rects - 1) ∷ []) ≡ []
      → numbers_of (block (Many rects)) of ≡ numbers_of (places_items columns rows rects) of
  tail_with of rects behind before =
      ap (λ x. map (λ item. natural item.value) x)
      (with_second of (item 116 1 ∷ item 117 (length rects - 1) ∷ []) (places_items columns rows rects ++ item 126 (id_bits (length rects) - 1) ∷ item 127 0 ∷ []) before
      ∙ with_first of (places_items columns rows rects) (item 126 (id_bits (length rects) - 1) ∷ item 127 0 ∷ []) behind)

  count : (plan : SubpicPlan) → IsPlan columns rows plan → number (block plan) 117 + 1 ≡ count_in plan
  count Absent is = rw (no_number 117 (block Absent) refl) refl
  count (One id_len None) is = rw (one_number 117 0 (block (One id_len None)) (omega arith) (omega arith) refl) refl
  count (One id_len (Some id)) is = rw (one_number 117 0 (block (One id_len (Some id))) (omega arith) (omega arith) refl) refl
  count (Many rects) is =
      let some = is.some in
      let few = is.few in
      let here : with_field 117 (block (Many rects)) ≡ item 117 (length rects - 1) ∷ []
      = ap (λ xs. item 117 (length rects - 1) ∷ xs) (lacks (λ f. nat_lt 117 f) 117 (places_items columns rows rects ++ item 126 (id_bits (length rects) - 1) ∷ item 127 0 ∷ []) refl
      (passing_append (λ f. nat_lt 117 f) (places_items columns rows rects) _ (places_pass (λ f. nat_lt 117 f) refl refl refl refl refl refl columns rows rects) (refl, (refl, tt)))) in
      let read = one_number 117 (length rects - 1) (block (Many rects)) (omega arith) (omega (arith, few)) here in
      omega (arith, read, some)

  -- no two subpictures need have one size
  own_sizes : (plan : SubpicPlan) → number (block plan) 119 ≡ 0
  own_sizes Absent = no_number 119 (block Absent) refl
  own_sizes (One id_len None) = no_number 119 (block (One id_len None)) refl
  own_sizes (One id_len (Some id)) = no_number 119 (block (One id_len (Some id))) refl
  own_sizes (Many rects) =
      let front : with_field 119 (block (Many rects)) ≡ with_field 119 (places_items columns rows rects)
      = with_first 119 (places_items columns rows rects) (item 126 (id_bits (length rects) - 1) ∷ item 127 0 ∷ []) refl in
      elim (cases_Bool (nat_lt 1 (length rects))) [
        | inl several ↦
            let turns_none : with_field 119 (places_items columns rows rects) ≡ item 119 0 ∷ []
            = rw several (ap (λ xs. item 119 0 ∷ xs) (lacks (λ f. nat_lt 119 f) 119 (in_all_turns (place_items columns rows rects) 0 (length rects)) refl
            (passing_turns (λ f. nat_lt 119 f) (place_items columns rows rects) 0 (length rects) (λ i. place_passes (λ f. nat_lt 119 f) refl refl refl refl columns rows rects i)))) in
            one_number 119 0 (block (Many rects)) (omega arith) (omega arith) (front ∙ turns_none)
        | inr one ↦ no_number 119 (block (Many rects)) (front ∙ rw one refl)
      ]

  -- flags of one subpicture: none are spelled
  no_flags : (of : ℕ) → (plan : SubpicPlan) → (of ≡ 124) ⊎ (of ≡ 125) → numbers_of (block plan) of ≡ []
  no_flags of plan (inl is) = rw is (none_listed 124 (block plan) (lacks (λ f. not (f == 124)) 124 (block plan) refl (subpics_pass (λ f. not (f == 124)) refl refl refl refl refl refl refl refl refl refl refl refl columns rows plan)))
  no_flags of plan (inr is) = rw is (none_listed 125 (block plan) (lacks (λ f. not (f == 125)) 125 (block plan) refl (subpics_pass (λ f. not (f == 125)) refl refl refl refl refl refl refl refl refl refl refl refl columns rows plan)))

  ids : (plan : SubpicPlan) → IsPlan columns rows plan → (i : ℕ) → i < count_in plan → slice_index_or (numbers_of (block plan) 129) i i ≡ id_in_plan plan i
  unfolding natural
  ids Absent is i within = refl
  ids (One id_len None) is i within = refl
  ids (One id_len (Some id)) is zero within =
      let bits : id_len + 1 ≤ 16 = omega (arith, is.0) in
      let few : 2 ^ (id_len + 1) ≤ 2 ^ 16 = pow_mono bits in
      omega (arith, is.1, few)
  ids (One id_len (Some id)) is (suc i) within = absurd (omega (arith, within))
  ids (Many rects) is i within =
      let none : numbers_of (block (Many rects)) 129 ≡ []
      = tail_with 129 rects refl refl ∙ none_listed 129 (places_items columns rows rects) (lacks (λ f. nat_lt f 129) 129 (places_items columns rows rects) refl (places_pass (λ f. nat_lt f 129) refl refl refl refl refl refl columns rows rects)) in
      rw none refl

  -- ---- rectangles

  abbrev own : List ℕ → List ℕ → List ℕ → List ℕ → ℕ → Rect
  own xs ys ws hs i = record { x = ctu_top_left_at xs i; y = ctu_top_left_at ys i; w = size_at ws columns (ctu_top_left_at xs i) i; h = size_at hs rows (ctu_top_left_at ys i) i }

  whole : own [] [] [] [] 0 ≡ whole_picture columns rows
  whole = let a : columns - 0 ≡ columns = omega arith in let b : rows - 0 ≡ rows = omega arith in rw (a, b) refl

  own_is : (plan : SubpicPlan) → IsPlan columns rows plan → columns ≤ 16384 → rows ≤ 16384 → (i : ℕ) → i < count_in plan
      → own (numbers_of (block plan) 120) (numbers_of (block plan) 121) (numbers_of (block plan) 122) (numbers_of (block plan) 123) i ≡ rect_in columns rows plan i
  own_is Absent is few small zero within = whole
  own_is Absent is few small (suc i) within = absurd (omega (arith, within))
  own_is (One id_len None) is few small zero within = whole
  own_is (One id_len None) is few small (suc i) within = absurd (omega (arith, within))
  own_is (One id_len (Some id)) is few small zero within = whole
  own_is (One id_len (Some id)) is few small (suc i) within = absurd (omega (arith, within))
  own_is (Many rects) is few small i within =
      let across = fills_across columns rows rects few is in
      let down = fills_down columns rows rects small is in
      let xs : numbers_of (block (Many rects)) 120 ≡ corners (length rects) columns (λ i. (rect_at rects i).x) = tail_with 120 rects refl refl ∙ xs_of columns rows rects in
      let ys : numbers_of (block (Many rects)) 121 ≡ corners (length rects) rows (λ i. (rect_at rects i).y) = tail_with 121 rects refl refl ∙ ys_of columns rows rects in
      let ws : numbers_of (block (Many rects)) 122 ≡ sizes (length rects) columns (λ i. (rect_at rects i).w) = tail_with 122 rects refl refl ∙ ws_of columns rows rects in
      let hs : numbers_of (block (Many rects)) 123 ≡ sizes (length rects) rows (λ i. (rect_at rects i).h) = tail_with 123 rects refl refl ∙ hs_of columns rows rects in
      let x = corner_back (length rects) columns i (λ i. (rect_at rects i).x) (λ i. (rect_at rects i).w) within across in
      let y = corner_back (length rects) rows i (λ i. (rect_at rects i).y) (λ i. (rect_at rects i).h) within down in
      let w = size_back (length rects) columns i (λ i. (rect_at rects i).x) (λ i. (rect_at rects i).w) within across in
      let h = size_back (length rects) rows i (λ i. (rect_at rects i).y) (λ i. (rect_at rects i).h) within down in
      ap (λ l. own l (numbers_of (block (Many rects)) 121) (numbers_of (block (Many rects)) 122) (numbers_of (block (Many rects)) 123) i) xs
      ∙ ap (λ l. own (corners (length rects) columns (λ i. (rect_at rects i).x)) l (numbers_of (block (Many rects)) 122) (numbers_of (block (Many rects)) 123) i) ys
      ∙ ap (λ l. own (corners (length rects) columns (λ i. (rect_at rects i).x)) (corners (length rects) rows (λ i. (rect_at rects i).y)) l (numbers_of (block (Many rects)) 123) i) ws
      ∙ ap (λ l. own (corners (length rects) columns (λ i. (rect_at rects i).x)) (corners (length rects) rows (λ i. (rect_at rects i).y)) (sizes (length rects) columns (λ i. (rect_at rects i).w)) l i) hs
      ∙ same_rect _ _ _ _ (rect_at rects i) x y (rw x w) (rw y h)
    where
      same_rect : (a b c d : ℕ) (r : Rect) → a ≡ r.x → b ≡ r.y → c ≡ r.w → d ≡ r.h → record { x = a; y = b; w = c; h = d } ≡ r
      same_rect a b c d r e f g h = rw (e, f, g, h) refl

own_same : {c d r s : ℕ} {xs ys ws hs x' y' w' h' : List ℕ} (i : ℕ) → c ≡ d → r ≡ s → xs ≡ x' → ys ≡ y' → ws ≡ w' → hs ≡ h' → own c r xs ys ws hs i ≡ own d s x' y' w' h' i
own_same i a b e f g h = rw (a, b, e, f, g, h) refl

-- ---- the set

items_with : (source items : List Item) (shape : SpsShape) → IsReshapedSps source shape items → (of : ℕ) → beside of ≡ false → nat_lt of 109 ≡ false → IsFalse (has taken_sps_fields of)
    → with_field of items ≡ with_field of (picture_items source shape)
items_with source items shape is of fails past outside = sym (others_with taken_sps_fields of items outside) ∙ ap (λ x. with_field of x) is.other_ones ∙ picture_with of source shape fails past

pub block_of : (source items : List Item) (shape : SpsShape) → IsReshapedSps source shape items → (of : ℕ) → beside of ≡ false → nat_lt of 109 ≡ false → IsFalse (has taken_sps_fields of) → nat_lt of 116 ≡ false
    → with_field of items ≡ with_field of (subpic_items (quotient shape.width (ctb_size_of source)) (quotient shape.height (ctb_size_of source)) shape.subpics)
block_of source items shape is of fails past outside later =
    items_with source items shape is of fails past outside
    ∙ subpics_with of shape.width shape.height (quotient shape.width (ctb_size_of source)) (quotient shape.height (ctb_size_of source)) shape.window shape.subpics later

module _ (source items : List Item) (shape : SpsShape) (set : AreSpsItems source) (fits : IsShape (ctb_size_of source) shape) (is : IsReshapedSps source shape items) where
  abbrev across : ℕ
  across = quotient shape.width (ctb_size_of source)

  abbrev down : ℕ
  down = quotient shape.height (ctb_size_of source)

  abbrev spelled : List Item
  spelled = subpic_items across down shape.subpics

  listed : (of : ℕ) → beside of ≡ false → nat_lt of 109 ≡ false → IsFalse (has taken_sps_fields of) → nat_lt of 116 ≡ false → numbers_of items of ≡ numbers_of spelled of
  listed of fails past outside later = ap (λ xs. map (λ item. natural item.value) xs) (block_of source items shape is of fails past outside later)

  width_is : width_of items ≡ shape.width
  unfolding fresh
  width_is = one_number 109 shape.width items (omega arith) (let small = fits.width.small in omega (arith, small)) (items_with source items shape is 109 refl refl refl ∙ width_with shape.width shape.height across down shape.window shape.subpics)

  height_is : height_of items ≡ shape.height
  unfolding fresh
  height_is = one_number 110 shape.height items (omega arith) (let small = fits.height.small in omega (arith, small)) (items_with source items shape is 110 refl refl refl ∙ height_with shape.width shape.height across down shape.window shape.subpics)

  ctu_is : number items sps.sps_log2_ctu_size_minus5 ≡ number source sps.sps_log2_ctu_size_minus5
  unfolding fresh
  ctu_is =
      number_of_shown taken_sps_fields sps.sps_log2_ctu_size_minus5 items refl ∙ ap (λ x. number x sps.sps_log2_ctu_size_minus5) is.shown_ones
      ∙ sym (number_of_shown taken_sps_fields sps.sps_log2_ctu_size_minus5 source refl)

  ctb_is : ctb_size_of items ≡ ctb_size_of source
  ctb_is = ap (λ n. 2 ^ (n + 5)) ctu_is

  small_ctu : number source sps.sps_log2_ctu_size_minus5 < 3
  unfolding has_value row_below code_below range_below
  small_ctu = subst (λ x. number x sps.sps_log2_ctu_size_minus5 < 3) (sym set.all) (below sps.sps_log2_ctu_size_minus5 3 (omega arith) refl set.follows)

  rect_is : (i : ℕ) → i < count_in shape.subpics → rect_of items i ≡ rect_in across down shape.subpics i
  unfolding fresh
  rect_is i within =
      let own_size : number items 119 ≡ 0 = same_number 119 items spelled (block_of source items shape is 119 refl refl refl refl) ∙ own_sizes across down shape.subpics in
      let columns : ctu_columns_of items ≡ across = ap (λ n. quotient n (ctb_size_of items)) width_is ∙ ap (λ n. quotient shape.width n) ctb_is in
      let rows : ctu_rows_of items ≡ down = ap (λ n. quotient n (ctb_size_of items)) height_is ∙ ap (λ n. quotient shape.height n) ctb_is in
      ap (λ n. cond (is_set n) (on_grid (ctu_columns_of items) (own_rect items 0) i) (own_rect items i)) own_size
      ∙ own_same i columns rows (listed 120 refl refl refl refl) (listed 121 refl refl refl refl) (listed 122 refl refl refl refl) (listed 123 refl refl refl refl)
      ∙ own_is across down shape.subpics fits.plan (few_units shape.width (number source sps.sps_log2_ctu_size_minus5) small_ctu fits.width)
      (few_units shape.height (number source sps.sps_log2_ctu_size_minus5) small_ctu fits.height) i within

  says : Says source shape items
  unfolding fresh
  says = record {
    width = width_is;
    height = height_is;
    ctb = ctb_is;
    subpics = ap (λ n. n + 1) (same_number 117 items spelled (block_of source items shape is 117 refl refl refl refl)) ∙ count across down shape.subpics fits.plan;
    rect = rect_is;
    treated = λ i. ap (λ l. is_set (slice_index_or l i 1)) (listed 124 refl refl refl refl ∙ no_flags across down 124 shape.subpics (inl refl));
    filtered = λ i. ap (λ l. is_set (slice_index_or l i 0)) (listed 125 refl refl refl refl ∙ no_flags across down 125 shape.subpics (inr refl));
    id = λ i within. ap (λ l. slice_index_or l i i) (listed 129 refl refl refl refl) ∙ ids across down shape.subpics fits.plan i within;
  }

pub reshaped_says : ReshapedSays
reshaped_says source items shape set fits is = says source items shape set fits is
