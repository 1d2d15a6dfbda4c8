-- A slice header rewritten under what is in force.
use Rattle.std.proofs.Common.{◌≡◌, ℕ, ◌<◌, ◌≤◌, true, false, List, [], ◌∷◌, ◌++◌, length, slice_index, refl, ap, sym, subst, ◌∙◌, arith}
use Rattle.vx_bits.specs.declared.list.Item.{Item}
use Rattle.vx_table.specs.declared.rows.Cell.{Cell}
use Rattle.vx_table.specs.declared.rows.Formula.{Formula}
use Rattle.vx_table.specs.declared.rows.Row.TheVariants.{Field}
use Rattle.vx_table.specs.Scope.{fresh, is_set}
use Rattle.vx_table.specs.Forms.{cell_at, has_value, one_field, part, form_of}
use Rattle.vx_table.specs.Loaded.{StaysBelow, code_below, number, range_below, row_below}
use Rattle.vx_table.specs.Rewritten.{IsRewritten, other_items}
use Rattle.vx_table.proofs.Joined.{items_joined, joined}
use Rattle.vx_table.proofs.Loading.{number_below, number_of_shown, tables_stay_below}
use Rattle.vx_fields.specs.declared.sps.TheConstants.{sps_alf_enabled_flag, sps_ccalf_enabled_flag, sps_chroma_format_idc, sps_subpic_id_len_minus1, sps_subpic_info_present_flag}
use Rattle.vx_fields.specs.declared.pps.TheConstants.{pps_alf_info_in_ph_flag, pps_qp_delta_info_in_ph_flag}
use Rattle.vx_fields.specs.declared.ph.TheConstants.{ph_explicit_scaling_list_enabled_flag, ph_lmcs_enabled_flag}
use Rattle.vx_fields.specs.declared.sh.TheConstants.{sh_slice_address, sh_subpic_id}
use Rattle.vx_rpl.specs.HeaderLists.{lists_of}
use Rattle.vx_sps.proofs.Stated.{below}
use Rattle.vx_ph.specs.declared.header.PictureHeader.{PictureHeader}
use Rattle.vx_ph.specs.Header.{header_form}
use Rattle.vx_ph.specs.InForce.{in_force, structures}
use Rattle.vx_ph.specs.Picture.{IsHeader}
use Rattle.vx_ph.proofs.Passing as header
use Rattle.vx_ph.proofs.Same.{agree_on_kept}
use Rattle.vx_ph.proofs.Sets.{in_force_length, of_sps}
use Rattle.vx_sh.specs.declared.header.SliceHeader.{SliceHeader}
use Rattle.vx_sh.specs.declared.numbers.SliceNumbers.{SliceNumbers}
use Rattle.vx_sh.specs.declared.shape.ShShape.{ShShape}
use Rattle.vx_sh.specs.declared.tables.TheConstants.{STARRED}
use Rattle.vx_sh.specs.Depends.{kept_fields}
use Rattle.vx_sh.specs.InForce.{at_sets, in_force_at}
use Rattle.vx_sh.specs.Reshaped.{AreReshapedInSliceHeader, GoesAt, HaveSameSlices, IsReshapedSliceHeader, IsShape, stated_sh_items}
use Rattle.vx_sh.specs.Value.{IsSliceOf, TellsNumbers, values_of}
use Rattle.vx_sh.specs.Whole.{apart_form, behind_header, header_inside, index_of}
use Rattle.vx_sh.proofs.Reshaping as core
use Rattle.vx_sh.proofs.Reshaping.{kept_there}
use Rattle.vx_sh.proofs.SameScopes.{header_told, pps_told, slices_agree_on_kept, sps_told}
use Rattle.vx_sh.proofs.Scopes.{slice_scopes_are_whole}
use Rattle.vx_sh.proofs.Stating.{no_items}
use Rattle.vx_sh.proofs.Told.{numbers_are_told}

-- a flag of a picture header
flag_row : (of : ℕ) (c : Cell Formula) (s : List ℕ) → row_below of 2 (Field c) ≡ true → StaysBelow of 2 (cell_at s c)
unfolding form_of part one_field
flag_row of c s test = (tables_stay_below of 2 (Field c ∷ []) s (omega arith) (rw test refl)).0

flag_below : (of : ℕ) → header.Pass (row_below of 2) → (sps pps : List Item) (h : PictureHeader) → IsHeader (structures sps) (in_force sps pps) h → number h.fields of < 2
flag_below of pass sps pps h is =
    let f = is.fields in
    subst (λ xs. number xs of < 2) (sym f.all) (number_below of 2 (header_form (structures sps) (in_force sps pps)) f.values f.end (omega arith)
    (header.header_each (StaysBelow of 2) (row_below of 2) (flag_row of) (structures sps) (in_force sps pps) pass) f.follows)

maps_below : (sps pps : List Item) (h : PictureHeader) → IsHeader (structures sps) (in_force sps pps) h → (number h.fields ph_lmcs_enabled_flag < 2) × (number h.fields ph_explicit_scaling_list_enabled_flag < 2)
unfolding has_value code_below range_below row_below
maps_below sps pps h is = (
  flag_below ph_lmcs_enabled_flag (record { front = refl; lists = refl; middle = refl; weights = refl; back = refl }) sps pps h is,
  flag_below ph_explicit_scaling_list_enabled_flag (record { front = refl; lists = refl; middle = refl; weights = refl; back = refl }) sps pps h is,
)

module _ (source : SliceHeader) (shape : ShShape) (n : SliceNumbers) (is : IsShape n shape) (goes : GoesAt source shape.subpic_id n) where
  whole : length (at_sets n.nal_type goes.sps goes.pps goes.header goes.ids goes.layout).slice ≡ 1024
  whole = slice_scopes_are_whole n.nal_type goes.sps goes.pps goes.header

  long : length (in_force_at n).slice ≡ 1024
  long = slice_scopes_are_whole n.nal_type n.sps.now n.pps.now n.header.now

  same_index : source.subpic ≡ index_of (number source.fields sh_subpic_id) goes.ids
  same_index = goes.numbers.subpic ∙ (numbers_are_told (at_sets n.nal_type goes.sps goes.pps goes.header goes.ids goes.layout) source.fields goes.inside goes.fields whole).subpic

  of_set : (k : ℕ) → k < 400 → slice_index (in_force_at n).slice k ≡ number n.sps.now k
  of_set k low = sps_told n.nal_type n.sps.now n.pps.now n.header.now k low

  of_pps : (k : ℕ) → 400 ≤ k → k < 600 → slice_index (in_force_at n).slice k ≡ number n.pps.now k
  of_pps k from low = pps_told n.nal_type n.sps.now n.pps.now n.header.now k from low

  of_header : (k : ℕ) → 600 ≤ k → k < 800 → slice_index (in_force_at n).slice k ≡ number n.header.now.fields k
  of_header k from low = header_told n.nal_type n.sps.now n.pps.now n.header.now k from low

  narrow : slice_index (in_force_at n).slice sps_subpic_id_len_minus1 < 16
  unfolding has_value row_below code_below range_below
  narrow = rw (of_set sps_subpic_id_len_minus1 (omega arith))
      (subst (λ xs. number xs sps_subpic_id_len_minus1 < 16) (sym goes.same.is_other_sps.all) (below sps_subpic_id_len_minus1 16 (omega arith) refl goes.same.is_other_sps.follows))

  stated_is : core.said_at (in_force_at n).slice shape.subpic_id shape.filter.now shape.uses_lmcs shape.uses_scaling shape.qp_delta ≡ stated_sh_items n shape
  stated_is = rw (of_set sps_subpic_info_present_flag (omega arith), of_set sps_alf_enabled_flag (omega arith), of_header ph_lmcs_enabled_flag (omega arith) (omega arith), of_header ph_explicit_scaling_list_enabled_flag (omega arith) (omega arith)) refl

  there : (items : List Item) × core.Made (in_force_at n) source.fields shape.subpic_id (core.said_at (in_force_at n).slice shape.subpic_id shape.filter.now shape.uses_lmcs shape.uses_scaling shape.qp_delta) items
  unfolding kept_there
  there =
      let p = at_sets n.nal_type goes.sps goes.pps goes.header goes.ids goes.layout in
      let m = in_force_at n in
      let low = maps_below n.sps.now n.pps.now n.header.now goes.is_header in
      let info = of_set sps_subpic_info_present_flag (omega arith) in
      let bits = of_set sps_subpic_id_len_minus1 (omega arith) in
      let alf = of_set sps_alf_enabled_flag (omega arith) in
      core.made_there p m source.fields goes.inside goes.fields whole long (slices_agree_on_kept n.nal_type goes.sps goes.pps n.sps.now n.pps.now goes.header n.header.now goes.same goes.same_header)
      (agree_on_kept goes.sps goes.pps n.sps.now n.pps.now goes.same).same_structures shape.subpic_id is.known (subst (λ k. HaveSameSlices goes.layout k n.layout.now (index_of shape.subpic_id n.ids.now)) same_index goes.same_slices)
      narrow (λ e. rw bits (is.spelled (ap is_set (sym info) ∙ e))) (λ e. is.unspelled (ap is_set (sym info) ∙ e))
      (of_pps pps_alf_info_in_ph_flag (omega arith) (omega arith) ∙ goes.apart.filter) (of_pps pps_qp_delta_info_in_ph_flag (omega arith) (omega arith) ∙ goes.apart.qp)
      (rw (of_header ph_lmcs_enabled_flag (omega arith) (omega arith)) low.0) (rw (of_header ph_explicit_scaling_list_enabled_flag (omega arith) (omega arith)) low.1)
      (in_force n.sps.now n.pps.now) (in_force_length n.sps.now n.pps.now) (of_sps n.sps.now n.pps.now sps_chroma_format_idc (omega arith) ∙ sym (of_set sps_chroma_format_idc (omega arith)))
      (of_sps n.sps.now n.pps.now sps_ccalf_enabled_flag (omega arith) ∙ sym (of_set sps_ccalf_enabled_flag (omega arith)))
      shape.filter.now (λ e. is.filter (ap is_set (sym alf) ∙ e)) shape.uses_lmcs shape.uses_scaling shape.qp_delta is.qp

  -- there is one
  pub reshaped_is : (items : List Item) × AreReshapedInSliceHeader source.fields shape n items
  reshaped_is =
      let m = there.1 in
      (there.0, record { fields = m.fields; apart = m.apart; id = m.id_told; kept = m.kept_ones; others = m.other_ones ∙ stated_is })

  -- its items by their stars
  pub starred_ones : (items : List Item) → AreReshapedInSliceHeader source.fields shape n items
      → IsRewritten (apart_form (in_force_at n).table (in_force_at n).ids (in_force_at n).layout (in_force_at n).slice) STARRED (stated_sh_items n shape) (other_items STARRED source.fields) items
  unfolding apart_form
  starred_ones items re =
      let m = in_force_at n in
      let f = re.fields in
      let behind = behind_header m.table m.ids m.layout in
      record {
        values = f.first ++ f.behind;
        end = f.end;
        follows = joined behind f.begins f.ends;
        all = f.all ∙ sym (items_joined behind f.behind f.begins);
        shown_ones = sym (core.not_kept_is_starred m items [] f) ∙ re.others;
        other_ones = sym (core.kept_has_no_star m items [] f) ∙ re.kept ∙ core.kept_has_no_star (at_sets n.nal_type goes.sps goes.pps goes.header goes.ids goes.layout) source.fields goes.inside goes.fields;
      }

  pub starred_values : (items : List Item) (re : AreReshapedInSliceHeader source.fields shape n items) → (starred_ones items re).values ≡ re.fields.first ++ re.fields.behind
  unfolding starred_ones
  starred_values items re = refl

  -- its numbers
  lists_are : (items : List Item) → AreReshapedInSliceHeader source.fields shape n items → lists_of (structures n.sps.now) (in_force n.sps.now n.pps.now) items ≡ source.lists
  unfolding fresh
  lists_are items re =
      sym ((agree_on_kept goes.sps goes.pps n.sps.now n.pps.now goes.same).lists kept_fields source.fields items refl (sym re.kept)) ∙ sym goes.numbers.lists

  address_is : (items : List Item) → AreReshapedInSliceHeader source.fields shape n items → source.address ≡ number items sh_slice_address
  unfolding fresh
  address_is items re =
      goes.numbers.address ∙ (numbers_are_told (at_sets n.nal_type goes.sps goes.pps goes.header goes.ids goes.layout) source.fields goes.inside goes.fields whole).address
      ∙ number_of_shown kept_fields sh_slice_address source.fields refl ∙ ap (λ xs. number xs sh_slice_address) (sym re.kept) ∙ sym (number_of_shown kept_fields sh_slice_address items refl)

  pub is_reshaped : (h : SliceHeader) → AreReshapedInSliceHeader source.fields shape n h.fields → h.inside ≡ false → h.subpic ≡ index_of shape.subpic_id n.ids.now → h.address ≡ source.address
      → h.lists ≡ lists_of (structures n.sps.now) (in_force n.sps.now n.pps.now) h.fields → IsReshapedSliceHeader source shape n h
  is_reshaped h re inside subpic address lists = record { fields = re; inside = inside; subpic = subpic; address = address; lists = lists ∙ lists_are h.fields re }

  pub tells_numbers : (h : SliceHeader) → AreReshapedInSliceHeader source.fields shape n h.fields → h.inside ≡ false → h.subpic ≡ index_of shape.subpic_id n.ids.now → h.address ≡ source.address
      → h.lists ≡ lists_of (structures n.sps.now) (in_force n.sps.now n.pps.now) h.fields → TellsNumbers (in_force_at n) h
  tells_numbers h re inside subpic address lists = record {
    inside = inside ∙ ap is_set (sym re.apart);
    subpic = subpic ∙ ap (λ k. index_of k n.ids.now) (sym re.id);
    address = address ∙ address_is h.fields re;
    lists = lists;
  }

-- it can be written
pub can_be_written : (source : List Item) (shape : ShShape) (n : SliceNumbers) (items : List Item) → AreReshapedInSliceHeader source shape n items → IsSliceOf (in_force_at n) items n.header.now.fields
can_be_written source shape n items re = record {
  inside = [];
  slice = re.fields;
  others = n.header.now.fields;
  given = sym (ap (λ xs. xs ++ n.header.now.fields) (no_items (header_inside (in_force_at n).table (in_force_at n).sets re.fields.at)));
}

pub written_values : (source : List Item) (shape : ShShape) (n : SliceNumbers) (items : List Item) (re : AreReshapedInSliceHeader source shape n items) → values_of (can_be_written source shape n items re).slice ≡ values_of re.fields
unfolding can_be_written
written_values source shape n items re = refl
