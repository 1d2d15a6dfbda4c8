-- There is a rewritten picture header, and it is what is made.
use Rattle.std.proofs.Common.{◌≡◌, ℕ, ◌<◌, true, IsTrue, List, slice_index, Result, refl, ap, sym, subst, ◌∙◌, arith}
use Rattle.vx_bits.specs.declared.list.Item.{Item}
use Rattle.vx_table.specs.declared.writer.SpellError.{SpellError}
use Rattle.vx_table.specs.Scope.{fresh}
use Rattle.vx_table.specs.EachField.{sections_pass}
use Rattle.vx_table.specs.Forms.{form_of, has_value}
use Rattle.vx_table.specs.Depends.{Agree, has}
use Rattle.vx_table.specs.Loaded.{code_below, number, range_below, row_below}
use Rattle.vx_table.specs.Rewritten.{IsRewritten, other_items}
use Rattle.vx_table.specs.Rewrites.{Takes}
use Rattle.vx_table.specs.Shown.{shown_items}
use Rattle.vx_table.specs.Writing.{IsWritten}
use Rattle.vx_fields.specs.declared.sps.TheConstants.{sps_chroma_format_idc, sps_explicit_scaling_list_enabled_flag, sps_lmcs_enabled_flag}
use Rattle.vx_fields.specs.declared.pps.TheConstants.{pps_alf_info_in_ph_flag, pps_qp_delta_info_in_ph_flag}
use Rattle.vx_sps.specs.Depends as sps_set
use Rattle.vx_sps.specs.Structure.{sps_sections}
use Rattle.vx_sps.proofs.Stated.{below}
use Rattle.vx_pps.proofs.Fields.{agree_fewer}
use Rattle.vx_ph.specs.declared.header.PictureHeader.{PictureHeader}
use Rattle.vx_ph.specs.declared.shape.PhShape.{PhShape}
use Rattle.vx_ph.specs.declared.tables.TheConstants.{LMCS_AND_SCALING, STARRED}
use Rattle.vx_ph.specs.Header.{header_form}
use Rattle.vx_ph.specs.InForce.{in_force, structures}
use Rattle.vx_ph.specs.Depends.{kept_ph_fields, kept_for_starred, kept_of_sets}
use Rattle.vx_ph.specs.Picture.{ArePictureHeaderFields, IsHeader}
use Rattle.vx_ph.specs.Reshaped.{AreReshapedInPictureHeader, GoesUnder, HaveSameKept, IsReshapedPictureHeader, IsShape, map_items, stated_ph_items}
use Rattle.vx_ph.specs.inner.Makes.{Makes}
use Rattle.vx_ph.proofs.Making.{made}
use Rattle.vx_ph.proofs.Maps.{maps_take}
use Rattle.vx_ph.proofs.Rewriting.{header_rewrites}
use Rattle.vx_ph.proofs.Same.{agree_on_kept, sps_number}
use Rattle.vx_ph.proofs.Sets.{in_force_length, of_pps, of_sps}
use Rattle.vx_ph.proofs.Telling.{kept_has_no_star, not_kept_is_starred}

-- what is stated goes through, under sets with the kept fields of an SPS
module _ (own_sps own_pps sps pps : List Item) (same : HaveSameKept own_sps own_pps sps pps) where
  low : (of : ℕ) → sections_pass (row_below of 2) sps_sections ≡ true → IsTrue (has sps_set.kept_sps_fields of) → number sps of < 2
  low of test is = subst (λ n. n < 2) (ap (λ xs. number xs of) (sym same.is_sps.all) ∙ sps_number own_sps own_pps sps pps same of is) (below of 2 (omega arith) test same.is_sps.follows)

  pub shape_takes : (shape : PhShape) → IsShape shape → Takes (form_of LMCS_AND_SCALING (in_force sps pps)) (map_items sps shape)
  unfolding fresh has_value row_below code_below range_below
  shape_takes shape is =
      let t = in_force sps pps in
      let c : slice_index t sps_chroma_format_idc ≡ number sps sps_chroma_format_idc = of_sps sps pps sps_chroma_format_idc (omega arith) in
      let l : slice_index t sps_lmcs_enabled_flag ≡ number sps sps_lmcs_enabled_flag = of_sps sps pps sps_lmcs_enabled_flag (omega arith) in
      let k : slice_index t sps_explicit_scaling_list_enabled_flag ≡ number sps sps_explicit_scaling_list_enabled_flag = of_sps sps pps sps_explicit_scaling_list_enabled_flag (omega arith) in
      rw (← c, ← l, ← k) (maps_take t shape.lmcs shape.scaling (in_force_length sps pps) (rw c (low sps_chroma_format_idc refl refl)) (rw l (low sps_lmcs_enabled_flag refl refl))
      (rw k (low sps_explicit_scaling_list_enabled_flag refl refl)) is.lmcs is.scaling)

kept_agree : (s t : List ℕ) → Agree kept_for_starred s t → Agree kept_of_sets s t
unfolding fresh
kept_agree s t agree = agree_fewer kept_of_sets kept_for_starred s t refl agree

module _ (source : PictureHeader) (shape : PhShape) (sps pps : List Item) (is : IsShape shape) (goes : GoesUnder source sps pps) where
  -- there is one
  pub reshaped_is : (items : List Item) × AreReshapedInPictureHeader source.fields shape sps pps items
  reshaped_is =
      let f = goes.header.fields in
      let s = in_force goes.own_sps goes.own_pps in
      let t = in_force sps pps in
      let on = agree_on_kept goes.own_sps goes.own_pps sps pps goes.same in
      let filter : slice_index t pps_alf_info_in_ph_flag ≡ 0 = of_pps sps pps pps_alf_info_in_ph_flag (omega arith) (λ e. absurd (omega (arith, e))) ∙ goes.apart.filter in
      let qp : slice_index t pps_qp_delta_info_in_ph_flag ≡ 0 = of_pps sps pps pps_qp_delta_info_in_ph_flag (omega arith) (λ e. absurd (omega (arith, e))) ∙ goes.apart.qp in
      let there = header_rewrites (structures goes.own_sps) s t f.values f.end shape.pps_id (map_items sps shape) (kept_agree s t on.numbers) filter qp f.follows (omega (arith, is.pps_id)) (shape_takes goes.own_sps goes.own_pps sps pps goes.same shape is) in
      subst (λ table. (items : List Item) × IsRewritten (header_form table t) kept_ph_fields (shown_items kept_ph_fields source.fields) (stated_ph_items sps shape) items) on.same_structures
      (subst (λ xs. (items : List Item) × IsRewritten (header_form (structures goes.own_sps) t) kept_ph_fields (shown_items kept_ph_fields xs) (stated_ph_items sps shape) items) (sym f.all) there)

  -- its items by their stars
  starred_ones : (items : List Item) → AreReshapedInPictureHeader source.fields shape sps pps items → IsRewritten (header_form (structures sps) (in_force sps pps)) STARRED (stated_ph_items sps shape) (other_items STARRED source.fields) items
  starred_ones items re =
      let f = goes.header.fields in
      let table = structures sps in
      let t = in_force sps pps in
      record {
        values = re.values;
        end = re.end;
        follows = re.follows;
        all = re.all;
        shown_ones = ap (λ xs. shown_items STARRED xs) re.all ∙ sym (not_kept_is_starred table t re.follows) ∙ ap (λ xs. other_items kept_ph_fields xs) (sym re.all) ∙ re.other_ones;
        other_ones = ap (λ xs. other_items STARRED xs) re.all ∙ sym (kept_has_no_star table t re.follows) ∙ ap (λ xs. shown_items kept_ph_fields xs) (sym re.all) ∙ re.shown_ones
            ∙ ap (λ xs. shown_items kept_ph_fields xs) f.all ∙ kept_has_no_star (structures goes.own_sps) (in_force goes.own_sps goes.own_pps) f.follows ∙ ap (λ xs. other_items STARRED xs) (sym f.all);
      }

  pub reshapes : {others stated_ones : List Item} {scope : List ℕ} (after : List Item) (result : Result (Unit {0}) SpellError) → others ≡ other_items STARRED source.fields → stated_ones ≡ stated_ph_items sps shape
      → scope ≡ in_force sps pps → Makes (header_form (structures sps) scope) STARRED stated_ones others result after → IsWritten result (AreReshapedInPictureHeader source.fields shape sps pps after)
  reshapes after result kept_are stated_are at make =
      let there = reshaped_is in
      made (AreReshapedInPictureHeader source.fields shape sps pps) result after there.0 there.1 (make there.0 (rw (kept_are, stated_are, at) (starred_ones there.0 there.1)))

  -- and its lists are the source's
  pub lists_are : (written : PictureHeader) → AreReshapedInPictureHeader source.fields shape sps pps written.fields → IsHeader (structures sps) (in_force sps pps) written → IsReshapedPictureHeader source shape sps pps written
  unfolding fresh
  lists_are written re header =
      let on = agree_on_kept goes.own_sps goes.own_pps sps pps goes.same in
      record { fields = re; lists = header.lists ∙ sym (on.lists kept_ph_fields source.fields written.fields refl (sym re.shown_ones)) ∙ sym goes.header.lists }

pub are_fields : (source : PictureHeader) (shape : PhShape) (sps pps items : List Item) → AreReshapedInPictureHeader source.fields shape sps pps items → ArePictureHeaderFields (structures sps) (in_force sps pps) items
are_fields source shape sps pps items re = record { values = re.values; end = re.end; follows = re.follows; all = re.all }
