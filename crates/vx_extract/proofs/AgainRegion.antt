-- The sets that are rewritten for a subpicture make up its region.
use Rattle.std.proofs.Common.{◌≡◌, ℕ, ◌+◌, ◌-◌, ◌<◌, ◌≤◌, ◌^◌, ◌==◌, ◌&&◌, ◌||◌, true, false, cond, not, Bool, List, [], ◌∷◌, length, map, slice_index, Option, Some, None, refl, ap, sym, subst, ◌∙◌, inl, inr, arith}
use Rattle.std.specs.Prelude.{count_by, nat_lt, unwrap_or}
use Rattle.std.specs.List.{range_with_len}
use Rattle.std.proofs.Math.Pow.{pow_mono}
use Rattle.std.proofs.lemmas.Bool.{and_parts, cases_Bool, eq-eqb, eqb-true, false_from_ne_true, le-ltb, ltb-true, not-false, not-true, true≢false}
use Rattle.vx_bits.specs.declared.list.Item.{Item}
use Rattle.vx_fields.specs.declared.sps.TheConstants as sps_fields
use Rattle.vx_fields.specs.declared.pps.TheConstants as pps_fields
use Rattle.vx_table.specs.Loaded.{number}
use Rattle.vx_table.specs.Scope.{fresh, is_set, natural, quotient}
use Rattle.vx_table.proofs.With.{no_number}
use Rattle.vx_layout.specs.declared.numbers.Numbers.{Numbers}
use Rattle.vx_layout.specs.declared.rect.Rect.{Rect}
use Rattle.vx_layout.specs.Faults.{IsLayout, height, width}
use Rattle.vx_layout.specs.laws.Layouts.{RegionIsListable}
use Rattle.vx_layout.specs.Layouts.{HasLayout, no_rect, subpic_at}
use Rattle.vx_layout.specs.Rects.{IsPart, fits, holds, slices_of_subpicture, whole_picture}
use Rattle.vx_layout.specs.Regions.{counted_from, cut_bounds, region_of}
use Rattle.vx_layout.proofs.Counting.{slices_of-once}
use Rattle.vx_layout.proofs.Holding.{fits_tells, holds_from}
use Rattle.vx_layout.proofs.Nested.{same_numbers}
use Rattle.vx_sps.specs.declared.shape.SubpicPlan.{SubpicPlan}
use Rattle.vx_sps.specs.declared.shape.SubpicPlan.TheVariants.{Absent, One}
use Rattle.vx_sps.specs.Set as sps
use Rattle.vx_sps.specs.Subpictures.{sps_subpic_id_of, rect_of, subpics_of}
use Rattle.vx_table.specs.Loaded.{numbers_of}
use Rattle.vx_sps.specs.laws.Reread as reread
use Rattle.vx_sps.specs.laws.Reread.{ReshapedSays, Says, Signals, count_in, explicit_in, id_len_in, mapped_in, rect_in}
use Rattle.vx_sps.specs.Reshaped as sps_reshaped
use Rattle.vx_sps.proofs.Bounded.{ctu_below}
use Rattle.vx_pps.specs.Pps as pps
use Rattle.vx_pps.specs.Reshaped as pps_reshaped
use Rattle.vx_pps.specs.Reshaped.{ReshapedHasItsTiles, TellsPpsShape}
use Rattle.vx_pps.specs.laws.Sets.{ReadSlicesAreListable, SetsTellPartitions}
use Rattle.vx_pps.proofs.Telling.{reshaped_tells}
use Rattle.vx_pic.specs.Sets.{pps_id, referred_sps, same_size, sps_id}
use Rattle.vx_pic.specs.Parts.{Parts}
use Rattle.vx_pic.specs.PictureLayout.{AreDistinct, IdsAgree, are_in_pps, ctu_sizes_differ, ids_misplaced, ids_of, ids_too_short, ids_unlike, needs_ids, numbers_in, one_tile, same_flag, subpictures_of}
use Rattle.vx_pic.proofs.Sizes.{quotient_is}
use Rattle.vx_extract.specs.Shapes.{height_in, id_in, id_in_pps, id_in_sps, plan_of, pps_shape, sps_shape, width_in}
use Rattle.vx_extract.specs.Again.{AreRewritten, KeepIds, MakeRegion}
use Rattle.vx_write.specs.InForce.{AreInForce}
use Rattle.vx_extract.proofs.ShapesPps.{pps_is_shape}
use Rattle.vx_write.proofs.Sizes.{part_of, subpic_is, subpics_count}
use Rattle.vx_extract.proofs.ShapesSizes.{HasSides, has_sides_in}
use Rattle.vx_extract.proofs.ShapesSps.{sps_is_shape}
use Rattle.vx_extract.proofs.AgainAbsent.{count_only, ids_only, signal_only, undescribed}
use Rattle.vx_extract.proofs.AgainSps.{IsAlone, described, not_described, alone_count, plan_alone, sps_signals, sps_taken}

-- ---- a picture of one tile

-- the bounds of one tile, cut
cut_one : (total from size : ℕ) → from + size ≤ total → cut_bounds (one_tile total) from size ≡ one_tile size
cut_one total from size inside =
    let first : (nat_lt from 0 && nat_lt 0 (from + size)) ≡ false = false_from_ne_true _ (λ h. absurd (omega (arith, ltb-true from 0 (and_parts (nat_lt from 0) (nat_lt 0 (from + size)) h).0))) in
    let last : (nat_lt from total && nat_lt total (from + size)) ≡ false = false_from_ne_true _ (λ h. absurd (omega (arith, inside, ltb-true total (from + size) (and_parts (nat_lt from total) (nat_lt total (from + size)) h).1))) in
    rw (first, last) refl

-- a picture that is one slice is one subpicture
whole_fits : (n : Numbers) (k : ℕ) → IsLayout n → n.slices ≡ whole_picture (width n) (height n) ∷ [] → k < length n.subpics → fits (whole_picture (width n) (height n)) (subpic_at n k) ≡ true
whole_fits n k is one within =
    let s : Rect = subpic_at n k in
    let part : IsPart (width n) (height n) s = is.subpics.parts k no_rect within in
    let some = part.wide in
    let high = part.high in
    let across = part.across in
    let down = part.down in
    let here : holds s s.x s.y ≡ true = holds_from s s.x s.y (omega arith) (omega (arith, some)) (omega arith) (omega (arith, high)) in
    let once : count_by (λ r. holds r s.x s.y) (slices_of_subpicture n.slices s) ≡ 1 =
    slices_of-once n.slices n.subpics (width n) (height n) k no_rect s.x s.y is.split is.subpics.once is.slices within (omega (arith, some, across)) (omega (arith, high, down))
    ∙ ap (λ b. cond b 1 0) here in
    elim (cases_Bool (fits (whole_picture (width n) (height n)) s)) [
      | inl is_in ↦ is_in
      | inr out ↦
          let none : slices_of_subpicture n.slices s ≡ [] = ap (λ rs. slices_of_subpicture rs s) one ∙ rw out refl in
          absurd (omega (arith, sym once ∙ ap (λ rs. count_by (λ r. holds r s.x s.y) rs) none))
    ]

-- so its region has one slice
pub one_slice : (n : Numbers) (k : ℕ) → IsLayout n → n.slices ≡ whole_picture (width n) (height n) ∷ [] → k < length n.subpics
    → (region_of n k).slices ≡ whole_picture (subpic_at n k).w (subpic_at n k).h ∷ []
one_slice n k is one within =
    let s : Rect = subpic_at n k in
    let part : IsPart (width n) (height n) s = is.subpics.parts k no_rect within in
    let wide = part.wide in
    let high = part.high in
    let across = part.across in
    let down = part.down in
    let fit = whole_fits n k is one within in
    let slices : slices_of_subpicture n.slices s ≡ whole_picture (width n) (height n) ∷ [] = ap (λ rs. slices_of_subpicture rs s) one ∙ rw fit refl in
    elim (fits_tells (whole_picture (width n) (height n)) s fit) [
      | inl (inl e) ↦ absurd (omega (arith, e, wide, across))
      | inl (inr e) ↦ absurd (omega (arith, e, high, down))
      | inr q ↦
          let left : 0 - s.x ≡ 0 = omega arith in
          let top : 0 - s.y ≡ 0 = omega arith in
          let w : width n ≡ s.w = omega (arith, q, across) in
          let h : height n ≡ s.h = omega (arith, q, down) in
          ap (λ rs. map (counted_from s) rs) slices ∙ rw (left, top, w, h) refl
    ]

-- ---- flags

unset : (n : ℕ) → is_set n ≡ false → n ≡ 0
unset n is = eqb-true n 0 (not-false (n == 0) is)

partitioned : (n : ℕ) → not (is_set n) ≡ true → n ≡ 0
partitioned n is = unset n (not-true (is_set n) is)

well_placed : (a b u t : Bool) → a ≡ b → (a ≡ true → u ≡ false) → t ≡ false → (not (same_flag a b) || ((a && u) || t)) ≡ false
well_placed true true u t same unlike short = rw (unlike refl, short) refl
well_placed false false u t same unlike short = rw short refl
well_placed true false u t same unlike short = absurd (true≢false same)
well_placed false true u t same unlike short = absurd (true≢false (sym same))

both_false : (a b : Bool) → a ≡ false → (a && b) ≡ false
both_false true b is = absurd (true≢false is)
both_false false b is = refl

second_false : (a b : Bool) → b ≡ false → (a && b) ≡ false
second_false true b is = is
second_false false b is = refl

one_distinct : (n : ℕ) → AreDistinct (n ∷ [])
one_distinct n i j d less short = absurd (omega (arith, less, short))

rect_alone : (columns rows : ℕ) (plan : SubpicPlan) → IsAlone plan → rect_in columns rows plan 0 ≡ whole_picture columns rows
rect_alone columns rows _ not_described = refl
rect_alone columns rows _ (described id_len id) = refl

-- what both sets say of the one id
record HaveId (s p : List Item) (id : ℕ) : Type 0 where
  same : is_set (number p pps_fields.pps_subpic_id_mapping_present_flag) ≡ needs_ids s
  unlike : is_set (number p pps_fields.pps_subpic_id_mapping_present_flag) ≡ true → ids_unlike s p ≡ false
  ids : ids_of s p ≡ id ∷ []

module _ (tells : SetsTellPartitions) (reads : ReadSlicesAreListable) (listables : RegionIsListable) (regions : (n : Numbers) (k : ℕ) → HasLayout n → k < length n.subpics → HasLayout (region_of n k)) (says : ReshapedSays) (tiles : ReshapedHasItsTiles)
    (target : ℕ) (level : Option ℕ) (q : Parts) (s p : List Item) (are : AreInForce q) (within : target < subpics_of q.sps) (re : AreRewritten target level q s p) where
  sps_fits : sps_reshaped.IsShape (sps.ctb_size_of q.sps) (sps_shape q target level)
  sps_fits = sps_is_shape tells q target level are within

  pub pps_fits : pps_reshaped.IsShape q.pps (pps_shape q target)
  pps_fits = pps_is_shape tells reads listables regions q target are within

  pps_tells : TellsPpsShape q.pps (pps_shape q target) p
  pps_tells = reshaped_tells q.pps p (pps_shape q target) are.pps pps_fits re.of_pps

  signals : Signals (sps_shape q target level) s
  signals = sps_signals q target level s re.of_sps are

  pub said : Says q.sps (sps_shape q target level) s
  said = says q.sps s (sps_shape q target level) are.sps sps_fits re.of_sps

  abbrev rect : Rect
  rect = rect_of q.sps target

  here : target < length q.layout.subpics
  here = let count = subpics_count q are in omega (arith, within, count)

  pub sides : HasSides q target
  sides = has_sides_in tells q target are within

  large : 32 ≤ sps.ctb_size_of q.sps
  large = let more : 5 ≤ number q.sps sps_fields.sps_log2_ctu_size_minus5 + 5 = omega arith in let most : 2 ^ 5 ≤ sps.ctb_size_of q.sps = pow_mono more in most

  -- ---- sizes

  same_sizes : same_size s p ≡ true
  unfolding same_size
  same_sizes =
      let wide : number p pps_fields.pps_pic_width_in_luma_samples ≡ sps.width_of s = pps_tells.width ∙ sym said.width in
      let high : number p pps_fields.pps_pic_height_in_luma_samples ≡ sps.height_of s = pps_tells.height ∙ sym said.height in
      rw (eq-eqb _ _ wide, eq-eqb _ _ high) refl

  across : quotient (width_in q target) (sps.ctb_size_of q.sps) ≡ rect.w
  across = quotient_is (width_in q target) (sps.ctb_size_of q.sps) large ∙ sym sides.wide.held

  down : quotient (height_in q target) (sps.ctb_size_of q.sps) ≡ rect.h
  down = quotient_is (height_in q target) (sps.ctb_size_of q.sps) large ∙ sym sides.high.held

  columns_are : sps.ctu_columns_of s ≡ rect.w
  columns_are = ap (λ n. quotient n (sps.ctb_size_of s)) said.width ∙ ap (λ n. quotient (width_in q target) n) said.ctb ∙ across

  rows_are : sps.ctu_rows_of s ≡ rect.h
  rows_are = ap (λ n. quotient n (sps.ctb_size_of s)) said.height ∙ ap (λ n. quotient (height_in q target) n) said.ctb ∙ down

  -- ---- subpictures

  counted : count_in (plan_of q target) ≡ 1
  counted = alone_count (plan_of q target) (plan_alone q target)

  alone : subpics_of s ≡ 1
  alone = said.subpics ∙ counted

  first_only : 0 < count_in (plan_of q target)
  first_only = let one = counted in omega (arith, one)

  pub rect_is : rect_of s 0 ≡ whole_picture rect.w rect.h
  rect_is =
      said.rect 0 first_only ∙ rect_alone (quotient (width_in q target) (sps.ctb_size_of q.sps)) (quotient (height_in q target) (sps.ctb_size_of q.sps)) (plan_of q target) (plan_alone q target)
      ∙ ap (λ w. whole_picture w (quotient (height_in q target) (sps.ctb_size_of q.sps))) across ∙ ap (λ h. whole_picture rect.w h) down

  subpictures : subpictures_of s ≡ whole_picture rect.w rect.h ∷ []
  subpictures = ap (λ n. map (rect_of s) (range_with_len 0 n)) alone ∙ ap (λ r. r ∷ []) rect_is

  -- ---- tiles and slices

  still : pps.is_partitioned p ≡ pps.is_partitioned q.pps
  still = ap (λ n. not (is_set n)) pps_tells.whole

  pub corner : subpic_at q.layout target ≡ rect
  corner = subpic_is q target are within

  part : IsPart (width q.layout) (height q.layout) rect
  part = part_of q target are within

  module _ (is : pps.is_partitioned q.pps ≡ true) where
    pub whole : number q.pps pps_fields.pps_no_pic_partition_flag ≡ 0
    whole = partitioned (number q.pps pps_fields.pps_no_pic_partition_flag) is

    its : (pps.tile_columns_of p ≡ (region_of q.layout target).columns) × (pps.tile_rows_of p ≡ (region_of q.layout target).rows) × (pps.slice_list_of p ≡ Some (region_of q.layout target).slices)
    its = tiles q.pps p (pps_shape q target) are.pps pps_fits re.of_pps whole

    numbers_there : numbers_in s p ≡ region_of q.layout target
    numbers_there =
        let same : pps.is_partitioned p ≡ true = still ∙ is in
        same_numbers (numbers_in s p) (region_of q.layout target) (rw same its.0) (rw same its.1)
        (ap (λ b. cond b (unwrap_or (pps.slice_list_of p) (subpictures_of s)) (whole_picture (sps.ctu_columns_of s) (sps.ctu_rows_of s) ∷ [])) same ∙ ap (λ o. unwrap_or o (subpictures_of s)) its.2)
        (subpictures ∙ ap (λ r. whole_picture r.w r.h ∷ []) (sym corner))

    sizes_there : ctu_sizes_differ s p ≡ false
    unfolding ctu_sizes_differ fresh
    sizes_there =
        let log2 : ℕ = number q.sps sps_fields.sps_log2_ctu_size_minus5 in
        let of_pps : number p pps_fields.pps_log2_ctu_size_minus5 ≡ log2 = (pps_tells.division whole).ctb log2 (ctu_below q.sps are.sps) refl in
        let of_sps : number s sps_fields.sps_log2_ctu_size_minus5 ≡ log2 = sps_taken q target level s re.of_sps sps_fields.sps_log2_ctu_size_minus5 refl in
        second_false (pps.is_partitioned p) (not (number p pps_fields.pps_log2_ctu_size_minus5 == number s sps_fields.sps_log2_ctu_size_minus5)) (rw (eq-eqb _ _ (of_pps ∙ sym of_sps)) refl)

  module _ (none : pps.is_partitioned q.pps ≡ false) where
    old_columns : q.layout.columns ≡ one_tile (sps.ctu_columns_of q.sps)
    old_columns = ap (λ n. n.columns) are.numbers ∙ rw none refl

    old_rows : q.layout.rows ≡ one_tile (sps.ctu_rows_of q.sps)
    old_rows = ap (λ n. n.rows) are.numbers ∙ rw none refl

    pub old_slices : q.layout.slices ≡ whole_picture (width q.layout) (height q.layout) ∷ []
    old_slices = ap (λ n. n.slices) are.numbers ∙ rw (none, old_columns, old_rows) refl

    pub new_columns : (region_of q.layout target).columns ≡ one_tile rect.w
    new_columns =
        let fit : rect.x + rect.w ≤ sps.ctu_columns_of q.sps = rw old_columns at part.across in
        ap (λ r. cut_bounds q.layout.columns r.x r.w) corner ∙ ap (λ c. cut_bounds c rect.x rect.w) old_columns ∙ cut_one (sps.ctu_columns_of q.sps) rect.x rect.w fit

    pub new_rows : (region_of q.layout target).rows ≡ one_tile rect.h
    new_rows =
        let fit : rect.y + rect.h ≤ sps.ctu_rows_of q.sps = rw old_rows at part.down in
        ap (λ r. cut_bounds q.layout.rows r.y r.h) corner ∙ ap (λ c. cut_bounds c rect.y rect.h) old_rows ∙ cut_one (sps.ctu_rows_of q.sps) rect.y rect.h fit

    numbers_here : numbers_in s p ≡ region_of q.layout target
    numbers_here =
        let same : pps.is_partitioned p ≡ false = still ∙ none in
        same_numbers (numbers_in s p) (region_of q.layout target) (rw same (ap one_tile columns_are ∙ sym new_columns)) (rw same (ap one_tile rows_are ∙ sym new_rows))
        (ap (λ b. cond b (unwrap_or (pps.slice_list_of p) (subpictures_of s)) (whole_picture (sps.ctu_columns_of s) (sps.ctu_rows_of s) ∷ [])) same
        ∙ ap (λ w. whole_picture w (sps.ctu_rows_of s) ∷ []) columns_are ∙ ap (λ h. whole_picture rect.w h ∷ []) rows_are
        ∙ sym (one_slice q.layout target are.layout.faultless old_slices here ∙ ap (λ r. whole_picture r.w r.h ∷ []) corner))
        (subpictures ∙ ap (λ r. whole_picture r.w r.h ∷ []) (sym corner))

    sizes_here : ctu_sizes_differ s p ≡ false
    unfolding ctu_sizes_differ
    sizes_here = both_false (pps.is_partitioned p) (not (number p pps_fields.pps_log2_ctu_size_minus5 == number s sps_fields.sps_log2_ctu_size_minus5)) (still ∙ none)

  numbers_are : numbers_in s p ≡ region_of q.layout target
  numbers_are = elim (cases_Bool (pps.is_partitioned q.pps)) [ inl is ↦ numbers_there is | inr none ↦ numbers_here none ]

  sizes_agree : ctu_sizes_differ s p ≡ false
  sizes_agree = elim (cases_Bool (pps.is_partitioned q.pps)) [ inl is ↦ sizes_there is | inr none ↦ sizes_here none ]

  -- ---- ids

  abbrev id_len : ℕ
  id_len = number q.sps sps_fields.sps_subpic_id_len_minus1

  one_subpic : number s sps_fields.sps_num_subpics_minus1 ≡ 0
  one_subpic = let one = alone in omega (arith, one)

  not_short : ids_too_short s ≡ false
  not_short =
      let bits : ℕ = number s sps_fields.sps_subpic_id_len_minus1 + 1 in
      let more : 0 ≤ bits = omega arith in
      let some : 2 ^ 0 ≤ 2 ^ bits = pow_mono more in
      let fits_in : nat_lt (2 ^ bits) (subpics_of s) ≡ false = le-ltb (2 ^ bits) (subpics_of s) (let one = alone in omega (arith, one, some)) in
      second_false (is_set (number s sps_fields.sps_subpic_info_present_flag)) (nat_lt (2 ^ bits) (subpics_of s)) fits_in

  -- they stand in the SPS, or are indices
  own_ids : are_in_pps s p ≡ false → ids_of s p ≡ reread.id_in_plan (plan_of q target) 0 ∷ []
  unfolding ids_of
  own_ids none = rw none (ap (λ n. map (sps_subpic_id_of s) (range_with_len 0 n)) alone ∙ ap (λ n. n ∷ []) (said.id 0 first_only))

  module _ (told : is_set (number q.sps sps_fields.sps_subpic_info_present_flag) ≡ true) where
    planned : (o : Option ℕ) → id_in_sps q target ≡ o → plan_of q target ≡ One id_len o
    planned o is = ap (λ b. cond b (One id_len (id_in_sps q target)) Absent) told ∙ ap (λ i. One id_len i) is

    in_pps : needs_ids q.sps ≡ true → HaveId s p (id_in q target)
    unfolding ids_of
    in_pps needed =
        let plan : plan_of q target ≡ One id_len None = planned None (ap (λ b. cond b None (Some (id_in q target))) needed) in
        let some : id_in_pps q target ≡ Some (id_len, id_in q target) = ap (λ b. cond b (Some (id_len, id_in q target)) None) needed in
        let flagged : number p pps_fields.pps_subpic_id_mapping_present_flag ≡ 1 = (pps_tells.mapped id_len (id_in q target) some).mapped in
        let signalled : number s sps_fields.sps_subpic_id_mapping_explicitly_signalled_flag ≡ 1 = signals.explicit ∙ ap explicit_in plan in
        let absent : number s sps_fields.sps_subpic_id_mapping_present_flag ≡ 0 = signals.mapped ∙ ap mapped_in plan in
        let count : number p pps_fields.pps_num_subpics_minus1 ≡ number s sps_fields.sps_num_subpics_minus1 = pps_tells.count ∙ sym one_subpic in
        let lengths : number p pps_fields.pps_subpic_id_len_minus1 ≡ number s sps_fields.sps_subpic_id_len_minus1 =
        (pps_tells.mapped id_len (id_in q target) some).id_len ∙ sym (signals.id_len ∙ ap id_len_in plan) in
        record {
          same = rw (flagged, signalled, absent) refl;
          unlike = λ e. rw (eq-eqb _ _ count, eq-eqb _ _ lengths) refl;
          ids = rw (signalled, flagged) (pps_tells.mapped id_len (id_in q target) some).ids;
        }

    in_sps : needs_ids q.sps ≡ false → HaveId s p (id_in q target)
    in_sps none =
        let plan : plan_of q target ≡ One id_len (Some (id_in q target)) = planned (Some (id_in q target)) (ap (λ b. cond b None (Some (id_in q target))) none) in
        let no_pps : id_in_pps q target ≡ None = ap (λ b. cond b (Some (id_len, id_in q target)) None) none in
        let flagged : number p pps_fields.pps_subpic_id_mapping_present_flag ≡ 0 = pps_tells.unmapped no_pps in
        let signalled : number s sps_fields.sps_subpic_id_mapping_explicitly_signalled_flag ≡ 1 = signals.explicit ∙ ap explicit_in plan in
        let present : number s sps_fields.sps_subpic_id_mapping_present_flag ≡ 1 = signals.mapped ∙ ap mapped_in plan in
        record {
          same = rw (flagged, signalled, present) refl;
          unlike = λ e. absurd (true≢false (sym e ∙ ap is_set flagged));
          ids = own_ids (rw (signalled, flagged) refl) ∙ ap (λ o. reread.id_in_plan o 0 ∷ []) plan;
        }

  no_ids : is_set (number q.sps sps_fields.sps_subpic_info_present_flag) ≡ false → HaveId s p (id_in q target)
  unfolding ids_of
  no_ids none =
      let plan : plan_of q target ≡ Absent = ap (λ b. cond b (One id_len (id_in_sps q target)) Absent) none in
      let old_signalled : number q.sps sps_fields.sps_subpic_id_mapping_explicitly_signalled_flag ≡ 0 = no_number 127 q.sps (undescribed 127 q.sps are.sps signal_only none) in
      let old_count : number q.sps sps_fields.sps_num_subpics_minus1 ≡ 0 = no_number 117 q.sps (undescribed 117 q.sps are.sps count_only none) in
      let old_listed : numbers_of q.sps sps_fields.sps_subpic_id ≡ [] = ap (λ xs. map (λ (x : Item). natural x.value) xs) (undescribed 129 q.sps are.sps ids_only none) in
      let not_needed : needs_ids q.sps ≡ false = rw old_signalled refl in
      let no_pps : id_in_pps q target ≡ None = ap (λ b. cond b (Some (id_len, id_in q target)) None) not_needed in
      let flagged : number p pps_fields.pps_subpic_id_mapping_present_flag ≡ 0 = pps_tells.unmapped no_pps in
      let signalled : number s sps_fields.sps_subpic_id_mapping_explicitly_signalled_flag ≡ 0 = signals.explicit ∙ ap explicit_in plan in
      let first : target ≡ 0 = omega (arith, within, old_count) in
      let own : id_in q target ≡ 0 =
      ap (λ xs. slice_index xs target) are.ids ∙ ap (λ k. slice_index (ids_of q.sps q.pps) k) first
      ∙ rw (old_signalled, old_count, old_listed) refl in
      record {
        same = rw (flagged, signalled) refl;
        unlike = λ e. absurd (true≢false (sym e ∙ ap is_set flagged));
        ids = own_ids (rw signalled refl) ∙ ap (λ o. reread.id_in_plan o 0 ∷ []) plan ∙ ap (λ n. n ∷ []) (sym own);
      }

  have_id : HaveId s p (id_in q target)
  have_id = elim (cases_Bool (is_set (number q.sps sps_fields.sps_subpic_info_present_flag))) [
    | inl told ↦ elim (cases_Bool (needs_ids q.sps)) [ inl needed ↦ in_pps told needed | inr none ↦ in_sps told none ]
    | inr none ↦ no_ids none
  ]

  ids_agree : IdsAgree s p
  unfolding ids_misplaced
  ids_agree = record {
    placed = well_placed (is_set (number p pps_fields.pps_subpic_id_mapping_present_flag)) (needs_ids s) (ids_unlike s p) (ids_too_short s) have_id.same have_id.unlike not_short;
    distinct = subst AreDistinct (sym have_id.ids) (one_distinct (id_in q target));
  }

  -- ---- all of it

  pub make_region : MakeRegion target q s p
  make_region = record {
    size = same_sizes;
    numbers = numbers_are;
    made = record { ctus = sizes_agree; ids = ids_agree; layout = subst IsLayout (sym numbers_are) (regions q.layout target are.layout here).faultless };
    ids = have_id.ids;
    alone = alone;
    treated = said.treated 0;
    filtered = said.filtered 0;
  }

  pub keep_ids : KeepIds q s p
  unfolding sps_id pps_id referred_sps
  keep_ids = record {
    of_sps = signals.id;
    of_pps = pps_tells.id;
    referred = pps_tells.sps_id;
  }
