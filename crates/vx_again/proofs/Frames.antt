-- The sets that are rewritten for the frame of a round that breaks no rule make up a picture that is the frame.
use Rattle.std.proofs.Common.{◌≡◌, ℕ, suc, ◌+◌, ◌-◌, ◌<◌, ◌≤◌, ◌^◌, ◌==◌, ◌&&◌, ◌||◌, Bool, true, false, cond, not, IsTrue, List, [], ◌∷◌, length, map, Option, Some, None, get_or, refl, ap, sym, subst, ◌∙◌, arith}
use Rattle.std.specs.Prelude.{nat_lt, slice_index_or, unwrap_or}
use Rattle.std.specs.List.{range_with_len}
use Rattle.std.proofs.lemmas.Bool.{eq-eqb, le-ltb}
use Rattle.std.proofs.lemmas.List.FromFn.{get_or-map-range_with_len}
use Rattle.vx_bits.specs.declared.list.Item.{Item}
use Rattle.vx_fields.specs.declared.sps.TheConstants as sps_fields
use Rattle.vx_fields.specs.declared.pps.TheConstants as pps_fields
use Rattle.vx_table.specs.Depends.{has}
use Rattle.vx_table.specs.Loaded.{number}
use Rattle.vx_table.specs.Scope.{fresh, is_set}
use Rattle.vx_table.proofs.Loading.{number_of_shown}
use Rattle.vx_layout.specs.declared.numbers.Numbers.{Numbers}
use Rattle.vx_layout.specs.declared.rect.Rect.{Rect}
use Rattle.vx_layout.specs.Faults.{IsLayout}
use Rattle.vx_layout.specs.Layouts.{no_rect}
use Rattle.vx_layout.specs.Rects.{whole_picture}
use Rattle.vx_layout.proofs.Nested.{same_numbers}
use Rattle.vx_sps.specs.Depends.{taken_sps_fields}
use Rattle.vx_sps.specs.Set as sps
use Rattle.vx_sps.specs.Subpictures.{sps_subpic_id_of, rect_of, subpics_of}
use Rattle.vx_sps.specs.laws.Reread.{Says, Signals}
use Rattle.vx_sps.proofs.Bounded.{ctu_below}
use Rattle.vx_sps.proofs.Says.{reshaped_says}
use Rattle.vx_pps.specs.Pps as pps
use Rattle.vx_pps.specs.Reshaped.{TellsPpsShape}
use Rattle.vx_pps.specs.laws.Sets.{ReadSlicesAreListable, SetsTellPartitions}
use Rattle.vx_pps.proofs.Reshaping.{has_its_tiles}
use Rattle.vx_pps.proofs.Telling.{reshaped_tells}
use Rattle.vx_pic.specs.Parts.{Parts}
use Rattle.vx_pic.specs.PictureLayout.{AreDistinct, IdsAgree, ctu_sizes_differ, ids_misplaced, ids_of, ids_too_short, ids_unlike, needs_ids, numbers_in, same_flag, subpictures_of}
use Rattle.vx_pic.specs.Sets.{pps_id, referred_sps, same_size, sps_id}
use Rattle.vx_frame.specs.declared.corner.Corner.{Corner}
use Rattle.vx_frame.specs.Regions.{corners_in}
use Rattle.vx_frame.specs.Rounds.{picture_at}
use Rattle.vx_frame.specs.Shapes.{IsFrame, frame_pps_shape, frame_sps_shape}
use Rattle.vx_frame.proofs.Joining.{corners_count}
use Rattle.vx_merge.specs.Merging.{Judges}
use Rattle.vx_merge.proofs.SliceIds.{HaveIndices, have_indices, ids_are, own_id, signals}
use Rattle.vx_again.specs.Frames.{AreFrameSets, IsReadyRound, MakeTheFrame, SetsMakeTheFrame}
use Rattle.vx_again.proofs.Facts.{can, shapes, source_at, some_round}

-- a list by its places
listed : (f : ℕ → Rect) (from : ℕ) (xs : List Rect) → ((i : ℕ) → i < length xs → f (from + i) ≡ slice_index_or xs i no_rect)
    → map f (range_with_len from (length xs)) ≡ xs
listed f from [] each = refl
listed f from (x ∷ xs) each =
    let first : f from ≡ x = ap f (omega arith) ∙ each 0 (omega arith) in
    let later : (i : ℕ) → i < length xs → f ((from + 1) + i) ≡ slice_index_or xs i no_rect = λ i less. ap f (omega arith) ∙ each (suc i) (omega (arith, less)) in
    ap (λ y. y ∷ map f (range_with_len (from + 1) (length xs))) first ∙ ap (λ ys. x ∷ ys) (listed f (from + 1) xs later)

well_placed : (a b u t : Bool) → a ≡ false → b ≡ false → t ≡ false → (not (same_flag a b) || ((a && u) || t)) ≡ false
well_placed a b u t one two three = rw (one, two, three) refl

module _ (tells : SetsTellPartitions) (reads : ReadSlicesAreListable) (corners : List Corner) (level : Option ℕ) (round : List Parts)
    (frame : Numbers) (id : ℕ) (s p : List Item)
    (ready : IsReadyRound corners round) (passes : Judges corners round None) (is : IsFrame corners round frame)
    (sets : AreFrameSets corners level round frame id s p) where
  abbrev first : Parts
  first = picture_at round 0

  abbrev rects : List Rect
  rects = corners_in corners round

  pub count_rects : length rects ≡ length round
  count_rects = corners_count corners round (can tells reads corners round ready passes) ∙ ready.same

  few : length rects ≤ 64
  few = let most = ready.are.few in let same = ready.same in let count = count_rects in omega (arith, most, same, count)

  some : 0 < length rects
  some = let one = some_round tells reads corners round ready passes in let count = count_rects in omega (arith, one, count)

  pub said : Says first.sps (frame_sps_shape corners round level) s
  said = reshaped_says first.sps s (frame_sps_shape corners round level) (source_at tells reads corners round ready passes 0 (some_round tells reads corners round ready passes)).sets.sps
      ((shapes tells reads corners round ready passes frame is).sps level) sets.of_sps

  pub told : TellsPpsShape first.pps (frame_pps_shape corners round frame id) p
  told = reshaped_tells first.pps p (frame_pps_shape corners round frame id) (source_at tells reads corners round ready passes 0 (some_round tells reads corners round ready passes)).sets.pps
      ((shapes tells reads corners round ready passes frame is).pps id sets.low) sets.of_pps

  own_signals : Signals (frame_sps_shape corners round level) s
  own_signals = signals first.sps s p (frame_sps_shape corners round level) rects (source_at tells reads corners round ready passes 0 (some_round tells reads corners round ready passes)).sets.sps
      ((shapes tells reads corners round ready passes frame is).sps level) sets.of_sps refl few

  indices : HaveIndices s p (length rects)
  indices = have_indices first.sps s p (frame_sps_shape corners round level) rects (source_at tells reads corners round ready passes 0 (some_round tells reads corners round ready passes)).sets.sps
      ((shapes tells reads corners round ready passes frame is).sps level) sets.of_sps refl few

  -- ---- sizes

  same_sizes : same_size s p ≡ true
  unfolding same_size
  same_sizes =
      let wide : number p pps_fields.pps_pic_width_in_luma_samples ≡ sps.width_of s = told.width ∙ sym said.width in
      let high : number p pps_fields.pps_pic_height_in_luma_samples ≡ sps.height_of s = told.height ∙ sym said.height in
      rw (eq-eqb _ _ wide, eq-eqb _ _ high) refl

  -- ---- tiles, slices and subpictures

  partitioned : pps.is_partitioned p ≡ true
  partitioned = ap (λ n. not (is_set n)) told.whole

  its : (pps.tile_columns_of p ≡ frame.columns) × (pps.tile_rows_of p ≡ frame.rows) × (pps.slice_list_of p ≡ Some frame.slices)
  its = has_its_tiles first.pps p (frame_pps_shape corners round frame id) (source_at tells reads corners round ready passes 0 (some_round tells reads corners round ready passes)).sets.pps
      ((shapes tells reads corners round ready passes frame is).pps id sets.low) sets.of_pps refl

  subpictures : subpictures_of s ≡ frame.subpics
  subpictures =
      ap (λ n. map (rect_of s) (range_with_len 0 n)) said.subpics
      ∙ listed (rect_of s) 0 rects (λ i less. let same : 0 + i ≡ i = omega arith in ap (rect_of s) same ∙ said.rect i less)
      ∙ sym (ap (λ (n : Numbers). n.subpics) is.pictures)

  pub numbers_are : numbers_in s p ≡ frame
  numbers_are = same_numbers (numbers_in s p) frame
      (ap (λ b. cond b (pps.tile_columns_of p) (0 ∷ sps.ctu_columns_of s ∷ [])) partitioned ∙ its.0)
      (ap (λ b. cond b (pps.tile_rows_of p) (0 ∷ sps.ctu_rows_of s ∷ [])) partitioned ∙ its.1)
      (ap (λ b. cond b (unwrap_or (pps.slice_list_of p) (subpictures_of s)) (whole_picture (sps.ctu_columns_of s) (sps.ctu_rows_of s) ∷ [])) partitioned ∙ ap (λ o. unwrap_or o (subpictures_of s)) its.2)
      subpictures

  -- ---- CTUs

  taken : (of : ℕ) → IsTrue (has taken_sps_fields of) → number s of ≡ number first.sps of
  taken of has_ = number_of_shown taken_sps_fields of s has_ ∙ ap (λ xs. number xs of) sets.of_sps.shown_ones
      ∙ sym (number_of_shown taken_sps_fields of first.sps has_)

  ctus_agree : ctu_sizes_differ s p ≡ false
  unfolding ctu_sizes_differ fresh
  ctus_agree =
      let log2 : ℕ = number first.sps sps_fields.sps_log2_ctu_size_minus5 in
      let below = ctu_below first.sps (source_at tells reads corners round ready passes 0 (some_round tells reads corners round ready passes)).sets.sps in
      let of_pps : number p pps_fields.pps_log2_ctu_size_minus5 ≡ log2 = (told.division refl).ctb log2 below refl in
      let of_sps : number s sps_fields.sps_log2_ctu_size_minus5 ≡ log2 = taken sps_fields.sps_log2_ctu_size_minus5 refl in
      second (pps.is_partitioned p) (not (number p pps_fields.pps_log2_ctu_size_minus5 == number s sps_fields.sps_log2_ctu_size_minus5)) (rw (eq-eqb _ _ (of_pps ∙ sym of_sps)) refl)
    where
      second : (a b : Bool) → b ≡ false → (a && b) ≡ false
      second true b none = none
      second false b none = refl

  -- ---- ids

  long_enough : ids_too_short s ≡ false
  long_enough =
      let bits = indices.bits in
      let count = said.subpics in
      let one = some in
      let last_ = bits (length rects - 1) (omega (arith, one)) in
      let all : nat_lt (2 ^ (number s sps_fields.sps_subpic_id_len_minus1 + 1)) (subpics_of s) ≡ false = le-ltb (2 ^ (number s sps_fields.sps_subpic_id_len_minus1 + 1)) (subpics_of s) (omega (arith, last_, count, one)) in
      second (is_set (number s sps_fields.sps_subpic_info_present_flag)) (nat_lt (2 ^ (number s sps_fields.sps_subpic_id_len_minus1 + 1)) (subpics_of s)) all
    where
      second : (a b : Bool) → b ≡ false → (a && b) ≡ false
      second true b none = none
      second false b none = refl

  id_at : (i d : ℕ) → i < length rects → get_or (ids_of s p) i d ≡ i
  id_at i d less =
      ap (λ xs. get_or xs i d) (ids_are first.sps s p (frame_sps_shape corners round level) rects (source_at tells reads corners round ready passes 0 (some_round tells reads corners round ready passes)).sets.sps
      ((shapes tells reads corners round ready passes frame is).sps level) sets.of_sps refl few)
      ∙ get_or-map-range_with_len (sps_subpic_id_of s) 0 (length rects) i i d less (omega arith)
      ∙ own_id first.sps s p (frame_sps_shape corners round level) rects (source_at tells reads corners round ready passes 0 (some_round tells reads corners round ready passes)).sets.sps
      ((shapes tells reads corners round ready passes frame is).sps level) sets.of_sps refl few i less

  distinct : AreDistinct (ids_of s p)
  distinct i j d less within same =
      let count = indices.count in
      let before = id_at i d (omega (arith, less, within, count)) in
      let behind = id_at j d (omega (arith, within, count)) in
      omega (arith, less, sym before ∙ same ∙ behind)

  ids_agree : IdsAgree s p
  unfolding ids_misplaced
  ids_agree = record {
    placed = well_placed (is_set (number p pps_fields.pps_subpic_id_mapping_present_flag)) (needs_ids s) (ids_unlike s p) (ids_too_short s)
        (ap is_set (told.unmapped refl)) (ap (λ n. is_set n && not (is_set (number s sps_fields.sps_subpic_id_mapping_present_flag))) own_signals.explicit) long_enough;
    distinct = distinct;
  }

  -- ---- all of it

  pub make_the_frame : MakeTheFrame (length round) frame id s p
  unfolding sps_id pps_id referred_sps
  make_the_frame = record {
    size = same_sizes;
    numbers = numbers_are;
    made = record { ctus = ctus_agree; ids = ids_agree; layout = subst IsLayout (sym numbers_are) (shapes tells reads corners round ready passes frame is).layout };
    count = said.subpics ∙ count_rects;
    ids = indices.count ∙ count_rects;
    index = λ k less. let count = count_rects in indices.index k (omega (arith, less, count));
    treated = said.treated;
    filtered = said.filtered;
    sps_id_is = own_signals.id;
    pps_id_is = told.id;
    referred = told.sps_id;
  }

pub sets_make_the_frame : SetsTellPartitions → ReadSlicesAreListable → SetsMakeTheFrame
sets_make_the_frame tells reads corners level round frame id s p ready passes is sets = make_the_frame tells reads corners level round frame id s p ready passes is sets
