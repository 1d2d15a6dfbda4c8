-- The JSON value of a slice has no float.
use Rattle.std.proofs.Common.{◌≡◌, pos, negsuc, List, [], ◌∷◌, Option, Some, None, false, map, refl}
use Rattle.std.specs.Prelude.{slice_get}
use Rattle.serde_json.specs.Data.{Data}
use Rattle.serde_json.specs.View.{items_of}
use Rattle.serde_json.specs.Written.{has_float, items_have_float}
use Rattle.vx_rpl.specs.declared.entry.RefEntry.TheVariants.{Short, Long}
use Rattle.vx_pic.specs.Inputs.{Input}
use Rattle.vx_fields.specs.declared.sh.TheConstants.{sh_cb_qp_offset, sh_cr_qp_offset, sh_joint_cbcr_qp_offset}
use Rattle.vx_report.specs.SliceLine.{value_of, natural_data, integer_data, or_null, bytes_data, entry_data, rect_data}
use Rattle.vx_report.specs.SliceLine.{header_data, alf_data, lmcs_data, lists_data, in_force_data, layout_data, place_data, slice_data}
use Rattle.vx_report.specs.declared.slice.SliceNumbers.{SliceNumbers}

abbrev HasNone : Data → Type 0
HasNone d = has_float d ≡ false

-- none of these has one
abbrev NoneHas : {A : Type 0} → (A → Data) → Type 0
NoneHas {A} f = (x : A) → HasNone (f x)

of_integer : NoneHas integer_data
of_integer (pos n) = refl
of_integer (negsuc n) = refl

of_items : {A : Type 0} (f : A → Data) (xs : List A) → NoneHas f → items_have_float (items_of (map f xs)) ≡ false
of_items f [] none = refl
of_items f (x ∷ xs) none = rw (none x) (of_items f xs none)

of_option : {A : Type 0} (f : A → Data) (x : Option A) → NoneHas f → HasNone (or_null f x)
of_option f None none = refl
of_option f (Some x) none = none x

of_bytes : NoneHas bytes_data
unfolding bytes_data
of_bytes bytes = refl

of_natural : NoneHas natural_data
of_natural n = refl

of_rect : NoneHas rect_data
of_rect r = refl

of_entry : NoneHas entry_data
of_entry (Short abs sign) = of_integer _
of_entry (Long lsb msb) = rw (of_option natural_data msb of_natural) refl

of_header : NoneHas header_data
unfolding header_data
of_header d =
    let cb = of_integer (value_of d.slice sh_cb_qp_offset) in
    let cr = of_integer (value_of d.slice sh_cr_qp_offset) in
    let joint = of_integer (value_of d.slice sh_joint_cbcr_qp_offset) in
    rw (of_integer d.slice_qp, cb, cr, joint) refl

of_alf : NoneHas alf_data
unfolding alf_data
of_alf a =
    rw (of_option bytes_data a.cc_cb of_bytes, of_option bytes_data a.cc_cr of_bytes, of_option bytes_data a.chroma of_bytes, of_items bytes_data a.luma of_bytes)
    refl

of_lmcs : NoneHas lmcs_data
of_lmcs x = rw (of_bytes x.0) refl

of_lists : NoneHas lists_data
unfolding lists_data
of_lists lists = rw (of_items entry_data lists.first of_entry, of_items entry_data lists.second of_entry) refl

of_in_force : NoneHas in_force_data
unfolding in_force_data
of_in_force d = rw (of_alf d.alf, of_lists d.lists, of_option lmcs_data d.lmcs of_lmcs, of_option bytes_data d.scaling of_bytes) refl

of_layout : NoneHas layout_data
unfolding layout_data
of_layout n =
    rw (of_items natural_data n.columns of_natural, of_items natural_data n.rows of_natural, of_items rect_data n.slices of_rect) refl

of_place : NoneHas place_data
unfolding place_data
of_place p = rw (of_layout p.layout, of_option rect_data (slice_get p.layout.slices p.address) of_rect) refl

pub of_slice : (n : SliceNumbers) (d : Input) → HasNone (slice_data n d)
of_slice n d = rw (of_header d, of_in_force d, of_bytes d.payload, of_place d.place) refl
