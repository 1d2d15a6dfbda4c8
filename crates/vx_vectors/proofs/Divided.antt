-- A picture of one subpicture, whose PPS lists its slices, as tiles and slices that a rewritten PPS can have.
use Rattle.std.proofs.Common.{◌≡◌, ℕ, ◌<◌, true, false, cond, Ok, not, List, [], ◌∷◌, length, Some, refl, ap, sym, subst, ◌∙◌}
use Rattle.std.specs.Prelude.{unwrap_or}
use Rattle.vx_bits.specs.declared.list.Item.{Item}
use Rattle.vx_layout.specs.declared.numbers.Numbers.{Numbers}
use Rattle.vx_layout.specs.declared.rect.Rect.{Rect}
use Rattle.vx_layout.specs.Bounds.{last}
use Rattle.vx_layout.specs.laws.Layouts.{RegionIsListable}
use Rattle.vx_layout.specs.Layouts.{HasLayout, subpic_at}
use Rattle.vx_layout.specs.Rects.{CoversOnce, whole_picture}
use Rattle.vx_layout.specs.Regions.{cut_bounds, region_of}
use Rattle.vx_layout.specs.Shapes.{AreListable}
use Rattle.vx_layout.proofs.Moving.{last-cut}
use Rattle.vx_layout.proofs.Nested.{same_numbers}
use Rattle.vx_fields.specs.declared.pps.TheConstants as pps_fields
use Rattle.vx_table.specs.Loaded.{number}
use Rattle.vx_table.specs.Scope.{is_set}
use Rattle.vx_sps.specs.Set as sps
use Rattle.vx_pps.specs.Reshaped.{picture_of}
use Rattle.vx_pps.specs.Pps as pps
use Rattle.vx_pps.specs.declared.shape.PpsShape.{PpsShape}
use Rattle.vx_pps.specs.Reshaped.{CanBeDivided, whole_flag}
use Rattle.vx_pps.specs.laws.Sets.{ReadSlicesAreListable}
use Rattle.vx_pic.specs.PictureLayout.{AnswersLayout, numbers_in, subpictures_of}

-- the region as a picture of its own
region_is : (n : Numbers) (k : ℕ) → picture_of (record { columns = (region_of n k).columns; rows = (region_of n k).rows }) (region_of n k).slices ≡ region_of n k
region_is n k = same_numbers _ (region_of n k) refl refl refl
    (ap (λ w. whole_picture w (last (cut_bounds n.rows (subpic_at n k).y (subpic_at n k).h)) ∷ []) (last-cut n.columns (subpic_at n k).x (subpic_at n k).w)
    ∙ ap (λ h. whole_picture (subpic_at n k).w h ∷ []) (last-cut n.rows (subpic_at n k).y (subpic_at n k).h))

-- has a layout
pub has_layout : ((n : Numbers) (k : ℕ) → HasLayout n → k < length n.subpics → HasLayout (region_of n k)) → (n region : Numbers) → HasLayout n → region ≡ region_of n 0
    → 0 < length n.subpics → HasLayout (picture_of (record { columns = region.columns; rows = region.rows }) region.slices)
has_layout regions n region has is some =
    subst (λ (r : Numbers). HasLayout (picture_of (record { columns = r.columns; rows = r.rows }) r.slices)) (sym is)
    (subst HasLayout (sym (region_is n 0)) (regions n 0 has some))

-- and its slices can be listed
pub is_listable : ReadSlicesAreListable → RegionIsListable → (s p : List Item) (n region : Numbers) (rects : List Rect) → pps.ArePpsItems p → HasLayout n → n ≡ numbers_in s p
    → pps.is_partitioned p ≡ true → pps.slice_list_of p ≡ Some rects → region ≡ region_of n 0 → 0 < length n.subpics → AreListable region.columns region.rows region.slices
is_listable reads listables s p n region rects items has made is listed is_region some =
    let columns : n.columns ≡ pps.tile_columns_of p = ap (λ (m : Numbers). m.columns) made ∙ rw is refl in
    let rows : n.rows ≡ pps.tile_rows_of p = ap (λ (m : Numbers). m.rows) made ∙ rw is refl in
    let slices : n.slices ≡ rects =
    ap (λ (m : Numbers). m.slices) made ∙ ap (λ b. cond b (unwrap_or (pps.slice_list_of p) (subpictures_of s)) (whole_picture (sps.ctu_columns_of s) (sps.ctu_rows_of s) ∷ [])) is
    ∙ ap (λ o. unwrap_or o (subpictures_of s)) listed
    in
    let cover : CoversOnce rects (last (pps.tile_columns_of p)) (last (pps.tile_rows_of p)) = rw (← slices, ← columns, ← rows) has.faultless.slices in
    let all = reads p rects items listed cover in
    subst (λ (r : Numbers). AreListable r.columns r.rows r.slices) (sym is_region) (listables n 0 has some (rw (columns, rows, slices) all))

-- what is said of tiles and slices of a picture that is partitioned is so of one that isn't
partitioned : (n : ℕ) → n ≡ 0 → not (is_set n) ≡ true
partitioned n is = rw is refl

pub not_divided : (p : List Item) (shape : PpsShape) → shape.merged ≡ false → pps.is_partitioned p ≡ false → whole_flag p shape ≡ 0 → CanBeDivided shape
not_divided p shape merged whole zero =
    let n = number p pps_fields.pps_no_pic_partition_flag in
    let is : n ≡ 0 = sym (ap (λ b. cond b 0 n) merged) ∙ zero in
    let on : pps.is_partitioned p ≡ true = partitioned n is in
    absurd (cc)

-- the layout of sets is that of sets that are the same
pub same_layout : (s p others_s others_p : List Item) (n : Numbers) → others_s ≡ s → others_p ≡ p → AnswersLayout s p (Ok n) → AnswersLayout others_s others_p (Ok n)
same_layout s p others_s others_p n same_s same_p is =
    subst (λ x. AnswersLayout x others_p (Ok n)) (sym same_s) (subst (λ x. AnswersLayout s x (Ok n)) (sym same_p) is)
