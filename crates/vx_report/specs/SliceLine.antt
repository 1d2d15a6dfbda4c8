-- The line of a slice with its decoding input, as
-- `{"header":{"NumRefIdxActive":[1,0],..},"in_force":{..},"payload":{"bytes":2,"md5":".."},"picture":0,"place":{..},"slice":0,"subpicture":{..}}`.
-- Our own.
use Rattle.std.specs.Prelude.{ℕ, ℤ, pos, neg_ℤ, ◌+◌, ◌==◌, ◌&&◌, nat_lt, min, not, Bool, cond, List, ◌++◌, length, map, codes}
use Rattle.std.specs.Prelude.{slice_get, slice_index, Option, option_map, unwrap_or}
use Rattle.serde_json.specs.Data.{Data, null, boolean, number as json_number, unsigned, string, array, object, no_items, item, member, no_members}
use Rattle.serde_json.specs.Find.{of_integer}
use Rattle.serde_json.specs.View.{items_of}
use Rattle.serde_json.specs.Written.{compact_text}
use Rattle.hex.specs.Hex.{encode_lower}
use Rattle.md5.specs.Md5.{md5}
use Rattle.vx_bits.specs.declared.list.Item.{Item}
use Rattle.vx_bits.specs.Fields.{first_value}
use Rattle.vx_table.specs.Scope.{natural, one_if}
use Rattle.vx_table.specs.Loaded.{numbers_of}
use Rattle.vx_fields.specs.declared.pps.TheConstants as pps
use Rattle.vx_fields.specs.declared.sh.TheConstants as sh
use Rattle.vx_layout.specs.declared.numbers.Numbers.{Numbers}
use Rattle.vx_layout.specs.declared.rect.Rect.{Rect}
use Rattle.vx_rpl.specs.declared.entry.RefEntry.{RefEntry}
use Rattle.vx_rpl.specs.declared.entry.RefEntry.TheVariants.{Short, Long}
use Rattle.vx_rpl.specs.declared.entry.RefLists.{RefLists}
use Rattle.vx_pic.specs.declared.place.Place.{Place}
use Rattle.vx_pic.specs.Parts.{Parts, SlicePart}
use Rattle.vx_pic.specs.Inputs.{Alf, Input}
use Rattle.vx_report.specs.SetLine.{with_number}
use Rattle.vx_report.specs.declared.slice.SliceNumbers.{SliceNumbers}

-- ---- which slice it is

-- Slice i of a picture after `before` others, with the index and the id of its subpicture (SubpicIdVal, H.266 7.4.3.5).
abbrev pub slice_numbers : ℕ → Parts → ℕ → SlicePart → SliceNumbers
slice_numbers before p i s = record {
  picture = before;
  slice = i;
  subpicture = s.header.subpic;
  id = slice_index p.ids s.header.subpic;
}

-- ---- NumRefIdxActive (7.4.8), of a decoding input

-- sh_slice_type (7.4.8): 0 for B, 1 for P, 2 for I; 2 if it is absent.
abbrev pub slice_type : Input → ℕ
slice_type d = unwrap_or (option_map natural (first_value d.slice sh.sh_slice_type)) 2

-- B slices predict from both lists, and P slices from list 0.
abbrev pub predicts_from_0 : Input → Bool
predicts_from_0 d = nat_lt (slice_type d) 2

abbrev pub predicts_from_1 : Input → Bool
predicts_from_1 d = slice_type d == 0

-- sh_num_ref_idx_active_override_flag, 1 if it is absent.
abbrev pub overrides : Input → Bool
overrides d = not (unwrap_or (option_map natural (first_value d.slice sh.sh_num_ref_idx_active_override_flag)) 1 == 0)

-- sh_num_ref_idx_active_minus1 is coded for a list of more than one entry, and is 0 for any other.
abbrev pub codes_active_0 : Input → Bool
codes_active_0 d = predicts_from_0 d && nat_lt 1 (length d.lists.first)

abbrev pub codes_active_1 : Input → Bool
codes_active_1 d = predicts_from_1 d && nat_lt 1 (length d.lists.second)

abbrev pub coded_active : Input → ℕ → ℕ
coded_active d i = slice_index (numbers_of d.slice sh.sh_num_ref_idx_active_minus1) i

abbrev pub active_minus1_0 : Input → ℕ
active_minus1_0 d = cond (codes_active_0 d) (coded_active d 0) 0

abbrev pub active_minus1_1 : Input → ℕ
active_minus1_1 d = cond (codes_active_1 d) (coded_active d (one_if (codes_active_0 d))) 0

-- The PPS's default, or the number of entries of a list that has fewer.
abbrev pub default_active : Input → ℕ → ℕ → ℕ
default_active d i entries = min entries (slice_index (numbers_of d.pps pps.pps_num_ref_idx_default_active_minus1) i + 1)

abbrev pub active_0 : Input → ℕ
active_0 d = cond (predicts_from_0 d) (cond (overrides d) (active_minus1_0 d + 1) (default_active d 0 (length d.lists.first))) 0

abbrev pub active_1 : Input → ℕ
active_1 d = cond (predicts_from_1 d) (cond (overrides d) (active_minus1_1 d + 1) (default_active d 1 (length d.lists.second))) 0

-- A field's value, 0 if it is absent.
abbrev pub value_of : List Item → ℕ → ℤ
value_of items of = unwrap_or (first_value items of) (pos 0)

-- ---- as JSON, the keys of each object in byte order

abbrev pub natural_data : ℕ → Data
natural_data n = json_number (unsigned n)

abbrev pub integer_data : ℤ → Data
integer_data n = json_number (of_integer n)

-- An array of these.
abbrev pub array_of : {A : Type 0} → (A → Data) → List A → Data
array_of f xs = array (items_of (map f xs))

-- Null if there is none.
abbrev pub or_null : {A : Type 0} → (A → Data) → Option A → Data
or_null f x = unwrap_or (option_map f x) null

-- The number of bytes, and their MD5 digest in hexadecimal: `{"bytes":3,"md5":".."}`
unfoldable pub bytes_data : List ℕ → Data
bytes_data bytes = object (with_number (codes "bytes") (length bytes) (member (codes "md5") (string (encode_lower (md5 bytes))) no_members))

-- A long-term entry: `{"delta_poc_msb_cycle_lt":null,"poc_lsb_lt":5}`
abbrev pub long_data : ℕ → Option ℕ → Data
long_data lsb msb =
    object (member (codes "delta_poc_msb_cycle_lt") (or_null natural_data msb) (with_number (codes "poc_lsb_lt") lsb no_members))

-- DeltaPocValSt (7.4.11) of a short-term entry: `-3`
abbrev pub entry_data : RefEntry → Data
entry_data (Short abs sign) = integer_data (cond sign (neg_ℤ (pos abs)) (pos abs))
entry_data (Long lsb msb) = long_data lsb msb

-- Column, row, width and height.
abbrev pub rect_data : Rect → Data
rect_data r = array (item (natural_data r.x) (item (natural_data r.y) (item (natural_data r.w) (item (natural_data r.h) no_items))))

abbrev pub pair_data : Data → Data → Data
pair_data first second = array (item first (item second no_items))

-- Slice type, active entries, and QPs: SliceQpY, and the offsets for chroma.
unfoldable pub header_data : Input → Data
header_data d =
    object (member (codes "NumRefIdxActive") (pair_data (natural_data (active_0 d)) (natural_data (active_1 d)))
    (member (codes "SliceQpY") (integer_data d.slice_qp)
    (member (codes "sh_cb_qp_offset") (integer_data (value_of d.slice sh.sh_cb_qp_offset))
    (member (codes "sh_cr_qp_offset") (integer_data (value_of d.slice sh.sh_cr_qp_offset))
    (member (codes "sh_joint_cbcr_qp_offset") (integer_data (value_of d.slice sh.sh_joint_cbcr_qp_offset))
    (with_number (codes "sh_slice_type") (slice_type d) no_members))))))

-- The adaptive loop filter, with the bodies of its APSs.
abbrev pub alf_object : Alf → (luma chroma cc_cb cc_cr : Data) → Data
alf_object a luma chroma cc_cb cc_cr =
    object (member (codes "cb") (boolean a.cb)
    (member (codes "cc_cb") cc_cb
    (member (codes "cc_cr") cc_cr
    (member (codes "chroma") chroma
    (member (codes "cr") (boolean a.cr)
    (member (codes "enabled") (boolean a.enabled)
    (member (codes "luma") luma no_members)))))))

unfoldable pub alf_data : Alf → Data
alf_data a =
    alf_object a (array_of bytes_data a.luma) (or_null bytes_data a.chroma) (or_null bytes_data a.cc_cb) (or_null bytes_data a.cc_cr)

-- Luma mapping with chroma scaling.
abbrev pub lmcs_data : List ℕ × Bool → Data
lmcs_data x = object (member (codes "body") (bytes_data x.0) (member (codes "ph_chroma_residual_scale_flag") (boolean x.1) no_members))

-- The entries of list 0 and of list 1.
unfoldable pub lists_data : RefLists → Data
lists_data lists = pair_data (array_of entry_data lists.first) (array_of entry_data lists.second)

unfoldable pub in_force_data : Input → Data
in_force_data d =
    object (member (codes "alf") (alf_data d.alf)
    (member (codes "lists") (lists_data d.lists)
    (member (codes "lmcs") (or_null lmcs_data d.lmcs)
    (member (codes "scaling") (or_null bytes_data d.scaling) no_members))))

-- The tile bounds and the slices of its subpicture, in CTUs from its corner.
unfoldable pub layout_data : Numbers → Data
layout_data n =
    object (member (codes "columns") (array_of natural_data n.columns)
    (member (codes "rows") (array_of natural_data n.rows)
    (member (codes "slices") (array_of rect_data n.slices) no_members)))

-- Whether in-loop filters cross slices and tiles, the slice's address, its subpicture's height, its tiles and slices, the slice's own
-- rectangle among these, and the subpicture's width; sizes in luma samples.
abbrev pub place_object : Place → (layout rect : Data) → Data
place_object p layout rect =
    object (member (codes "across_slices") (boolean p.across_slices)
    (member (codes "across_tiles") (boolean p.across_tiles)
    (with_number (codes "address") p.address
    (with_number (codes "height") p.height
    (member (codes "layout") layout
    (member (codes "rect") rect
    (with_number (codes "width") p.width no_members)))))))

unfoldable pub place_data : Place → Data
place_data p = place_object p (layout_data p.layout) (or_null rect_data (slice_get p.layout.slices p.address))

-- The slice, and its subpicture by id and index.
abbrev pub slice_object : SliceNumbers → (header in_force place payload : Data) → Data
slice_object n header in_force place payload =
    object (member (codes "header") header
    (member (codes "in_force") in_force
    (member (codes "payload") payload
    (with_number (codes "picture") n.picture
    (member (codes "place") place
    (with_number (codes "slice") n.slice
    (member (codes "subpicture") (object (with_number (codes "id") n.id (with_number (codes "index") n.subpicture no_members)))
    no_members)))))))

abbrev pub slice_data : SliceNumbers → Input → Data
slice_data n d = slice_object n (header_data d) (in_force_data d) (place_data d.place) (bytes_data d.payload)

-- The line: this value with no space, and a line feed.
abbrev pub slice_text : SliceNumbers → Input → List ℕ
slice_text n d = compact_text (slice_data n d) ++ codes "\n"
