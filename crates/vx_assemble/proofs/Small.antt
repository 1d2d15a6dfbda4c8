-- Ids that are small, and one id for each subpicture.
use Rattle.std.proofs.Common.{◌≡◌, ℕ, Bool, true, false, cond, List, [], ◌∷◌, ◌++◌, length, refl, sym, ◌∙◌, subst, Result, Ok, Err}
use Rattle.std.specs.Prelude.{◌==◌, All, IfOk}
use Rattle.std.proofs.lemmas.Bool.{eqb-true}
use Rattle.std.proofs.lemmas.List.Elements.{All-head, All-tail}
use Rattle.std.proofs.lemmas.List.FromFn.{length-map-range_with_len}
use Rattle.vx_bits.specs.declared.list.Item.{Item}
use Rattle.vx_bits.specs.declared.refusal.ReadError.{ReadError}
use Rattle.vx_table.specs.Scope.{is_set}
use Rattle.vx_table.specs.Loaded.{number}
use Rattle.vx_fields.specs.declared.pps.TheConstants.{pps_alf_info_in_ph_flag}
use Rattle.vx_rpl.specs.declared.entry.RplTable.{RplTable}
use Rattle.vx_sps.specs.Subpictures.{rect_of, subpics_of}
use Rattle.vx_ph.specs.declared.header.PictureHeader.{PictureHeader}
use Rattle.vx_ph.specs.Picture as picture
use Rattle.vx_sh.specs.declared.header.SliceHeader.{SliceHeader as SliceValue}
use Rattle.vx_sh.specs.Whole.{At}
use Rattle.vx_sh.specs.Value.{ReadsSlice}
use Rattle.vx_sh.proofs.Small as headers
use Rattle.vx_table.specs.Loaded.{IsBelow}
use Rattle.vx_fields.specs.declared.alf.TheConstants as alf
use Rattle.vx_fields.specs.declared.ph.TheConstants as ph
use Rattle.vx_pic.specs.Sets.{Slot, named, named_filters, filter_items, names_of}
use Rattle.vx_pic.specs.PictureLayout.{numbers_in}
use Rattle.vx_assemble.specs.inner.Takes.{AreSmall, NamesSmall}
use Rattle.vx_assemble.specs.inner.Joining.{items_only, names_in}
use Rattle.vx_assemble.proofs.Named.{named_cons}

pub one_each : (s p : List Item) (ids : List ℕ) → length ids ≡ subpics_of s → length ids ≡ length (numbers_in s p).subpics
one_each s p ids long = long ∙ sym (length-map-range_with_len (rect_of s) 0 (subpics_of s))

-- ---- ids

small_append : (a b : List Slot) → AreSmall a → AreSmall b → AreSmall (a ++ b)
small_append [] b first second = second
small_append (slot ∷ a) b first second = (first.0, small_append a b first.1 second)

by_field : (kind of : ℕ) (x : Item) (b : Bool) → (x.field == of) ≡ b → IsBelow of 8 x → AreSmall (named kind of (x ∷ []))
by_field kind of x true is low = rw is (low (eqb-true x.field of is), tt)
by_field kind of x false is low = rw is tt

-- those of a field below 8
small_named : (kind of : ℕ) (items : List Item) → All (IsBelow of 8) items → AreSmall (named kind of items)
small_named kind of [] all = tt
small_named kind of (x ∷ items) all =
    subst (λ l. AreSmall l) (sym (named_cons kind of x items))
    (small_append (named kind of (x ∷ [])) (named kind of items) (by_field kind of x (x.field == of) refl (All-head (IsBelow of 8) x items all))
    (small_named kind of items (All-tail (IsBelow of 8) x items all)))

small_filters : (items : List Item) → AreSmall (named 0 alf.alf_aps_id_luma items) → AreSmall (named 0 alf.alf_aps_id_chroma items)
    → AreSmall (named 0 alf.alf_cc_cb_aps_id items) → AreSmall (named 0 alf.alf_cc_cr_aps_id items) → AreSmall (named_filters items)
small_filters items one two three four =
    let cb = named 0 alf.alf_cc_cb_aps_id items in
    let cr = named 0 alf.alf_cc_cr_aps_id items in
    let chroma = named 0 alf.alf_aps_id_chroma items in
    small_append (named 0 alf.alf_aps_id_luma items) (chroma ++ (cb ++ cr)) one
    (small_append chroma (cb ++ cr) two (small_append cb cr three four))

either : (b : Bool) (header slice : List Item) → AreSmall (named_filters header) → AreSmall (named_filters slice)
    → AreSmall (named_filters (cond b header slice))
either true header slice one two = one
either false header slice one two = two

names_small : (items : List Item) → headers.NamesSmall items → NamesSmall items
names_small items low = record {
  filters = small_filters items (small_named 0 alf.alf_aps_id_luma items low.luma) (small_named 0 alf.alf_aps_id_chroma items low.chroma) (small_named 0 alf.alf_cc_cb_aps_id items low.cb)
      (small_named 0 alf.alf_cc_cr_aps_id items low.cr);
  lmcs = small_named 1 ph.ph_lmcs_aps_id items low.lmcs;
  scaling = small_named 2 ph.ph_scaling_list_aps_id items low.scaling;
}

-- of a picture header, and of a slice header
pub header_small : (table : RplTable) (s : List ℕ) (result : Result PictureHeader ReadError) → IfOk result (λ h. picture.IsHeader table s h) → IfOk result (λ h. NamesSmall h.fields)
header_small table s (Ok h) is = names_small h.fields (headers.header_names table s h.fields is.fields)
header_small table s (Err e) is = tt

pub slice_small : (n : At) (rbsp : List ℕ) (h : SliceValue) (size : ℕ) → ReadsSlice n rbsp (Ok (h, size)) → NamesSmall h.fields
slice_small n rbsp h size read = names_small h.fields (headers.slice_names n h.fields read.inside read.fields)

pub small_names : (p header slice : List Item) → NamesSmall header → NamesSmall slice → AreSmall (names_in p header slice)
unfolding names_of
small_names p header slice here there =
    let lmcs = named 1 ph.ph_lmcs_aps_id header in
    let scaling = named 2 ph.ph_scaling_list_aps_id header in
    small_append (named_filters (filter_items p header (items_only slice))) (lmcs ++ scaling)
    (either (is_set (number p pps_alf_info_in_ph_flag)) header slice here.filters there.filters) (small_append lmcs scaling here.lmcs here.scaling)
