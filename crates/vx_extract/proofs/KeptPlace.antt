-- The place of a slice of the region, under the rewritten sets, is its place in the subpicture.
use Rattle.std.proofs.Common.{◌≡◌, ◌⊎◌, ℕ, zero, suc, ◌+◌, ◌-◌, ◌*◌, ◌<◌, ◌&&◌, ◌||◌, min, true, false, Bool, List, length, Option, refl, ap, sym, ◌∙◌, inl, inr, arith}
use Rattle.std.specs.Prelude.{nat_lt}
use Rattle.std.proofs.Math.Nat.{add-mul, mul-add}
use Rattle.std.proofs.lemmas.Bool.{cases_Bool, ltb-true, or_cases, true≢false}
use Rattle.vx_bits.specs.declared.list.Item.{Item}
use Rattle.vx_fields.specs.declared.pps.TheConstants as pps_fields
use Rattle.vx_table.specs.Loaded.{number}
use Rattle.vx_table.specs.Scope.{is_set, one_if}
use Rattle.vx_layout.specs.declared.numbers.Numbers.{Numbers}
use Rattle.vx_layout.specs.declared.rect.Rect.{Rect}
use Rattle.vx_layout.specs.laws.Layouts.{RegionIsListable}
use Rattle.vx_layout.specs.Layouts.{HasLayout, subpic_at}
use Rattle.vx_layout.specs.Rects.{whole_picture}
use Rattle.vx_layout.specs.Regions.{region_of}
use Rattle.vx_sps.specs.Set.{ctb_size_of}
use Rattle.vx_sps.specs.Subpictures.{rect_of, subpics_of}
use Rattle.vx_sps.specs.laws.Reread.{ReshapedSays}
use Rattle.vx_pps.specs.Pps as pps
use Rattle.vx_pps.specs.Reshaped.{IsShape, ReshapedHasItsTiles, TellsPpsShape}
use Rattle.vx_pps.specs.laws.Sets.{ReadSlicesAreListable, SetsTellPartitions}
use Rattle.vx_pps.proofs.Telling.{reshaped_tells}
use Rattle.vx_pic.specs.declared.place.Place.{Place}
use Rattle.vx_pic.specs.Inputs.{has_several_slices, has_several_tiles, luma_size, place_in}
use Rattle.vx_pic.specs.Parts.{Parts}
use Rattle.vx_extract.specs.Shapes.{height_in, pps_shape, width_in}
use Rattle.vx_extract.specs.Again.{AreRewritten}
use Rattle.vx_extract.specs.Kept.{region_in}
use Rattle.vx_write.specs.InForce.{AreInForce}
use Rattle.vx_extract.proofs.AgainRegion.{new_columns, new_rows, old_slices, one_slice, pps_fits, rect_is, said, whole}
use Rattle.vx_extract.proofs.AgainSlices.{cut_length}
use Rattle.vx_write.proofs.Sizes.{subpics_count}

same_place : (a b : Place) → a.width ≡ b.width → a.height ≡ b.height → a.layout ≡ b.layout → a.address ≡ b.address → a.across_tiles ≡ b.across_tiles → a.across_slices ≡ b.across_slices → a ≡ b
same_place a b width height layout address tiles slices =
    ap (λ t. record { width = t; height = a.height; layout = a.layout; address = a.address; across_tiles = a.across_tiles; across_slices = a.across_slices }) width
    ∙ (ap (λ t. record { width = b.width; height = t; layout = a.layout; address = a.address; across_tiles = a.across_tiles; across_slices = a.across_slices }) height
    ∙ (ap (λ t. record { width = b.width; height = b.height; layout = t; address = a.address; across_tiles = a.across_tiles; across_slices = a.across_slices }) layout
    ∙ (ap (λ t. record { width = b.width; height = b.height; layout = b.layout; address = t; across_tiles = a.across_tiles; across_slices = a.across_slices }) address
    ∙ (ap (λ t. record { width = b.width; height = b.height; layout = b.layout; address = b.address; across_tiles = t; across_slices = a.across_slices }) tiles
    ∙ ap (λ t. record { width = b.width; height = b.height; layout = b.layout; address = b.address; across_tiles = b.across_tiles; across_slices = t }) slices))))

-- ---- sizes

within_size : (a b total : ℕ) → min b (min (a + b) total - a) - 0 ≡ min (a + b) total - a
within_size a b total = omega arith

-- the size of the region is that of the subpicture
luma_twice : (from size ctb total : ℕ) → luma_size 0 size ctb (luma_size from size ctb total) ≡ luma_size from size ctb total
luma_twice from size ctb total =
    let none : 0 * ctb ≡ 0 = omega arith in
    let first : 0 + size ≡ size = omega arith in
    rw (first, none, add-mul from size ctb) (within_size (from * ctb) (size * ctb) total)

-- ---- flags

product : (a b : ℕ) → 0 < a → 0 < b → (1 < a) ⊎ (1 < b) → 1 < a * b
product zero b some more either = absurd (omega (arith, some))
product (suc a) zero some more either = absurd (omega (arith, more))
product (suc a) (suc b) some more either =
    let first : (a + 1) * (b + 1) ≡ a * (b + 1) + 1 * (b + 1) = add-mul a 1 (b + 1) in
    let second : a * (b + 1) ≡ a * b + a * 1 = mul-add a b 1 in
    let size : suc a * suc b ≡ a * b + a + b + 1 = omega (arith, first, second) in
    elim either [ inl e ↦ omega (arith, size, e) | inr e ↦ omega (arith, size, e) ]

flag_is : (n : ℕ) (b : Bool) → n ≡ one_if b → is_set n ≡ b
flag_is n true same = ap is_set same
flag_is n false same = ap is_set same

told : (several : Bool) (n m : ℕ) → (several ≡ true → n ≡ one_if (is_set m)) → (several && is_set n) ≡ (several && is_set m)
told true n m then = flag_is n (is_set m) (then refl)
told false n m then = refl

module _ (tells : SetsTellPartitions) (reads : ReadSlicesAreListable) (listables : RegionIsListable) (regions : (n : Numbers) (k : ℕ) → HasLayout n → k < length n.subpics → HasLayout (region_of n k)) (says : ReshapedSays) (tiles : ReshapedHasItsTiles) (nests : (n : Numbers) (k : ℕ) → region_of (region_of n k) 0 ≡ region_of n k)
    (target : ℕ) (level : Option ℕ) (q : Parts) (s p : List Item) (are : AreInForce q) (within : target < subpics_of q.sps) (re : AreRewritten target level q s p) where
  abbrev region : Numbers
  region = region_of q.layout target

  abbrev rect : Rect
  rect = rect_of q.sps target

  fits_in : IsShape q.pps (pps_shape q target)
  fits_in = pps_fits tells reads listables regions says tiles target level q s p are within re

  told_set : TellsPpsShape q.pps (pps_shape q target) p
  told_set = reshaped_tells q.pps p (pps_shape q target) are.pps fits_in re.of_pps

  its_rect : rect_of s 0 ≡ whole_picture rect.w rect.h
  its_rect = rect_is tells reads listables regions says tiles target level q s p are within re

  its_ctb : ctb_size_of s ≡ ctb_size_of q.sps
  its_ctb = (said tells reads listables regions says tiles target level q s p are within re).ctb

  width_same : luma_size (rect_of s 0).x (rect_of s 0).w (ctb_size_of s) (number p pps_fields.pps_pic_width_in_luma_samples) ≡ width_in q target
  width_same =
      ap (λ r. luma_size r.x r.w (ctb_size_of s) (number p pps_fields.pps_pic_width_in_luma_samples)) its_rect
      ∙ ap (λ c. luma_size 0 rect.w c (number p pps_fields.pps_pic_width_in_luma_samples)) its_ctb
      ∙ ap (λ n. luma_size 0 rect.w (ctb_size_of q.sps) n) (told_set.width)
      ∙ luma_twice rect.x rect.w (ctb_size_of q.sps) (number q.pps pps_fields.pps_pic_width_in_luma_samples)

  height_same : luma_size (rect_of s 0).y (rect_of s 0).h (ctb_size_of s) (number p pps_fields.pps_pic_height_in_luma_samples) ≡ height_in q target
  height_same =
      ap (λ r. luma_size r.y r.h (ctb_size_of s) (number p pps_fields.pps_pic_height_in_luma_samples)) its_rect
      ∙ ap (λ c. luma_size 0 rect.h c (number p pps_fields.pps_pic_height_in_luma_samples)) its_ctb
      ∙ ap (λ n. luma_size 0 rect.h (ctb_size_of q.sps) n) (told_set.height)
      ∙ luma_twice rect.y rect.h (ctb_size_of q.sps) (number q.pps pps_fields.pps_pic_height_in_luma_samples)

  -- ---- flags

  here : target < length q.layout.subpics
  here = let count = subpics_count q are in omega (arith, within, count)

  -- a region of several tiles or slices is one of a partitioned picture
  one_tile_only : pps.is_partitioned q.pps ≡ false → has_several_tiles region ≡ false
  one_tile_only none =
      ap (λ c. nat_lt 2 (length c) || nat_lt 2 (length region.rows)) (new_columns tells reads listables regions says tiles target level q s p are within re none)
      ∙ ap (λ r. nat_lt 2 (length r)) (new_rows tells reads listables regions says tiles target level q s p are within re none)

  one_slice_only : pps.is_partitioned q.pps ≡ false → has_several_slices region ≡ false
  one_slice_only none =
      ap (λ rs. nat_lt 1 (length rs)) (one_slice q.layout target are.layout.faultless (old_slices tells reads listables regions says tiles target level q s p are within re none) here)

  partitioned_if : (several : Bool) → (pps.is_partitioned q.pps ≡ false → several ≡ false) → several ≡ true → number q.pps pps_fields.pps_no_pic_partition_flag ≡ 0
  partitioned_if several only is = elim (cases_Bool (pps.is_partitioned q.pps)) [
    | inl on ↦ whole tells reads listables regions says tiles target level q s p are within re on
    | inr none ↦ absurd (true≢false (sym is ∙ only none))
  ]

  tiles_count : has_several_tiles region ≡ true → 1 < (length region.columns - 1) * (length region.rows - 1)
  tiles_count is =
      let wide = cut_length q.layout.columns (subpic_at q.layout target).x (subpic_at q.layout target).w in
      let high = cut_length q.layout.rows (subpic_at q.layout target).y (subpic_at q.layout target).h in
      let either : (1 < length region.columns - 1) ⊎ (1 < length region.rows - 1) = elim (or_cases (nat_lt 2 (length region.columns)) (nat_lt 2 (length region.rows)) is) [
        | inl a ↦ inl (omega (arith, ltb-true 2 (length region.columns) a))
        | inr b ↦ inr (omega (arith, ltb-true 2 (length region.rows) b))
      ] in
      product (length region.columns - 1) (length region.rows - 1) (omega (arith, wide)) (omega (arith, high)) either

  tiles_same : (has_several_tiles region && is_set (number p pps_fields.pps_loop_filter_across_tiles_enabled_flag)) ≡ (has_several_tiles region && is_set (number q.pps pps_fields.pps_loop_filter_across_tiles_enabled_flag))
  tiles_same = told (has_several_tiles region) _ _ (λ is. (told_set.division (partitioned_if (has_several_tiles region) one_tile_only is)).across_tiles (tiles_count is))

  slices_same : (has_several_slices region && is_set (number p pps_fields.pps_loop_filter_across_slices_enabled_flag)) ≡ (has_several_slices region && is_set (number q.pps pps_fields.pps_loop_filter_across_slices_enabled_flag))
  slices_same = told (has_several_slices region) _ _ (λ is. (told_set.division (partitioned_if (has_several_slices region) one_slice_only is)).across_slices (ltb-true 1 (length region.slices) is))

  -- ---- all of it

  pub places_kept : (address : ℕ) → place_in (region_in target q s p) 0 address ≡ place_in q target address
  places_kept address =
      let again : region_of region 0 ≡ region = nests q.layout target in
      same_place (place_in (region_in target q s p) 0 address) (place_in q target address) width_same height_same again refl
      (ap (λ n. has_several_tiles n && is_set (number p pps_fields.pps_loop_filter_across_tiles_enabled_flag)) again ∙ tiles_same)
      (ap (λ n. has_several_slices n && is_set (number p pps_fields.pps_loop_filter_across_slices_enabled_flag)) again ∙ slices_same)
