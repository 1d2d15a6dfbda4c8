-- The decoding input of a slice: everything that its decoding depends on, except for the pictures to which it refers, without ids
-- and places in the frame. Left out is how a subpicture relates to its neighbours (sps_subpic_treated_as_pic_flag and
-- sps_loop_filter_across_subpic_enabled_flag): two slices whose inputs are equal decode alike if both subpictures are the whole
-- picture, or are treated as pictures and not filtered across. H.266 has no such term: it is our own. The contract of
-- `decoding_input`, and the promises on merging and extraction, rely on it.
use Rattle.std.specs.Prelude.{◌≡◌, ℕ, ℤ, ◌+◌, ◌-◌, ◌*◌, ◌==◌, ◌&&◌, ◌||◌, min, nat_lt, Bool, cond, List, [], ◌∷◌, ◌++◌, length, map, filter}
use Rattle.std.specs.Prelude.{drop, Option, None, option_map, option_and_then, option_to_list}
use Rattle.vx_bits.specs.declared.list.Item.{Item}
use Rattle.vx_bits.specs.Fields.{first_value}
use Rattle.vx_table.specs.Scope.{natural, is_set}
use Rattle.vx_table.specs.Loaded.{number}
use Rattle.vx_table.specs.Shown.{shown_items}
use Rattle.vx_fields.specs.declared.pps.TheConstants as pps
use Rattle.vx_fields.specs.declared.ph.TheConstants as ph
use Rattle.vx_fields.specs.declared.sh.TheConstants as sh
use Rattle.vx_fields.specs.declared.alf.TheConstants as alf
use Rattle.vx_layout.specs.declared.numbers.Numbers.{Numbers}
use Rattle.vx_layout.specs.Regions.{region_of}
use Rattle.vx_aps.specs.declared.aps.TheConstants as aps
use Rattle.vx_rpl.specs.declared.entry.RefLists.{RefLists}
use Rattle.vx_sps.specs.Set.{ctb_size_of}
use Rattle.vx_sps.specs.Subpictures.{rect_of}
use Rattle.vx_sps.specs.Depends as sps_kept
use Rattle.vx_pps.specs.Pps as pps_kept
use Rattle.vx_ph.specs.Depends as header_kept
use Rattle.vx_sh.specs.declared.header.SliceHeader.{SliceHeader as SliceValue}
use Rattle.vx_sh.specs.Depends as slice_kept
use Rattle.vx_pic.specs.declared.kind.Kind.{Kind}
use Rattle.vx_pic.specs.declared.place.Place.{Place}
use Rattle.vx_pic.specs.Sets.{Slot, named, filter_items, slice_qp}
use Rattle.vx_pic.specs.Readings.{Slice, Picture}
use Rattle.vx_pic.specs.Parts.{SlicePart, Parts, aps_at, read_of, parts_of, slice_part}

-- ---- kept fields: those without a star, which a written stream copies from its source

abbrev pub sps_fields : List Item → List Item
sps_fields items = sps_kept.kept_sps_items items

abbrev pub pps_fields : List Item → List Item
pps_fields items = pps_kept.kept_pps_items items

abbrev pub header_fields : List Item → List Item
header_fields items = shown_items header_kept.kept_ph_fields items

abbrev pub kept_slice_items : List Item → List Item
kept_slice_items items = shown_items slice_kept.kept_fields items

-- ---- adaptation parameter sets in force, by their bodies (7.4.3.6)

-- The body of a type and id, if the picture has it.
abbrev pub body_of : Parts → ℕ → ℕ → Option (List ℕ)
body_of p kind id = option_map (λ a. a.body) (aps_at p.bodies kind id)

-- The body of the set that a field names, if the field is present.
abbrev pub named_body : Parts → ℕ → ℕ → List Item → Option (List ℕ)
named_body p kind of items = option_and_then (λ id. body_of p kind (natural id)) (first_value items of)

abbrev pub bodies_of : Parts → List Slot → List (List ℕ)
bodies_of p [] = []
bodies_of p (slot ∷ slots) = option_to_list (body_of p slot.kind slot.id) ++ bodies_of p slots

-- The adaptive loop filter: whether it is on, the bodies for luma, whether Cb and Cr are filtered, the body for chroma, and those with
-- which Cb and Cr are filtered by luma (7.4.3.8, 7.4.8).
pub record Alf : Type 0 where
  pub enabled : Bool
  pub luma : List (List ℕ)
  pub cb : Bool
  pub cr : Bool
  pub chroma : Option (List ℕ)
  pub cc_cb : Option (List ℕ)
  pub cc_cr : Option (List ℕ)

-- As the items of a header have it (7.4.3.8, 7.4.8).
abbrev pub alf_of : Parts → List Item → Alf
alf_of p items = record {
  enabled = is_set (number items alf.alf_enabled_flag);
  luma = bodies_of p (named aps.ALF alf.alf_aps_id_luma items);
  cb = is_set (number items alf.alf_cb_enabled_flag);
  cr = is_set (number items alf.alf_cr_enabled_flag);
  chroma = named_body p aps.ALF alf.alf_aps_id_chroma items;
  cc_cb = named_body p aps.ALF alf.alf_cc_cb_aps_id items;
  cc_cr = named_body p aps.ALF alf.alf_cc_cr_aps_id items;
}

-- The slice uses what the picture header enables: if this is inside the slice, or the slice says so (7.4.8, sh_lmcs_used_flag and
-- sh_explicit_scaling_list_used_flag).
abbrev pub is_used : List Item → SliceValue → (enabled used : ℕ) → Bool
is_used header h enabled used =
    is_set (number header enabled)
    && (is_set (number h.fields sh.sh_picture_header_in_slice_header_flag) || is_set (number h.fields used))

-- Luma mapping with chroma scaling, with ph_chroma_residual_scale_flag, if the slice uses it (7.4.3.8, 7.4.8).
abbrev pub lmcs_of : Parts → SliceValue → Option (List ℕ × Bool)
lmcs_of p h =
    cond (is_used p.header.fields h ph.ph_lmcs_enabled_flag sh.sh_lmcs_used_flag)
    (option_map (λ body. (body, is_set (number p.header.fields ph.ph_chroma_residual_scale_flag)))
    (named_body p aps.LMCS ph.ph_lmcs_aps_id p.header.fields))
    None

-- Scaling lists, if the slice uses them (7.4.3.8, 7.4.8).
abbrev pub scaling_of : Parts → SliceValue → Option (List ℕ)
scaling_of p h =
    cond (is_used p.header.fields h ph.ph_explicit_scaling_list_enabled_flag sh.sh_explicit_scaling_list_used_flag)
    (named_body p aps.SCALING ph.ph_scaling_list_aps_id p.header.fields)
    None

-- ---- reference picture lists in force: the picture header's, or the slice's (7.4.3.5, pps_rpl_info_in_ph_flag)

abbrev pub lists_in_force : Parts → SliceValue → RefLists
lists_in_force p h = cond (is_set (number p.pps pps.pps_rpl_info_in_ph_flag)) p.header.lists h.lists

-- ---- the place of the slice, counted from the corner of its subpicture

-- The luma samples of a number of CTUs from a column or row on, in a picture of `total` samples: its last CTUs may be cut.
abbrev pub luma_size : ℕ → ℕ → ℕ → ℕ → ℕ
luma_size from size ctb total = min ((from + size) * ctb) total - from * ctb

-- It has several tiles: the bounds of tile columns are one more than the columns, and so of rows (6.5.1); or several slices.
abbrev pub has_several_tiles : Numbers → Bool
has_several_tiles n = nat_lt 2 (length n.columns) || nat_lt 2 (length n.rows)

abbrev pub has_several_slices : Numbers → Bool
has_several_slices n = nat_lt 1 (length n.slices)

-- The place of the slice at an address of subpicture k (7.4.8): the subpicture's size in luma samples, its layout, and the address.
-- Also whether in-loop filters cross the borders of its tiles, and of its slices (7.4.3.5), false if it has only one.
abbrev pub place_in : Parts → ℕ → ℕ → Place
place_in p k address = record {
  width = luma_size (rect_of p.sps k).x (rect_of p.sps k).w (ctb_size_of p.sps) (number p.pps pps.pps_pic_width_in_luma_samples);
  height = luma_size (rect_of p.sps k).y (rect_of p.sps k).h (ctb_size_of p.sps) (number p.pps pps.pps_pic_height_in_luma_samples);
  layout = region_of p.layout k;
  address = address;
  across_tiles = has_several_tiles (region_of p.layout k) && is_set (number p.pps pps.pps_loop_filter_across_tiles_enabled_flag);
  across_slices = has_several_slices (region_of p.layout k) && is_set (number p.pps pps.pps_loop_filter_across_slices_enabled_flag);
}

-- ---- the decoding input

-- The kind of the picture; the kept fields of its sets, its header and the slice header; what is in force; SliceQpY (7.4.8); the
-- place; and the bytes of the unit after the slice header, unchanged.
pub record Input : Type 0 where
  pub kind : Kind
  pub sps : List Item
  pub pps : List Item
  pub header : List Item
  pub slice : List Item
  pub alf : Alf
  pub lmcs : Option (List ℕ × Bool)
  pub scaling : Option (List ℕ)
  pub lists : RefLists
  pub slice_qp : ℤ
  pub place : Place
  pub payload : List ℕ

-- The decoding input of a slice of a picture, in terms of the models of both.
abbrev pub input_in : Parts → SlicePart → Input
input_in p s = record {
  kind = p.kind;
  sps = sps_fields p.sps;
  pps = pps_fields p.pps;
  header = header_fields p.header.fields;
  slice = kept_slice_items s.header.fields;
  alf = alf_of p (filter_items p.pps p.header.fields (read_of s.header));
  lmcs = lmcs_of p s.header;
  scaling = scaling_of p s.header;
  lists = lists_in_force p s.header;
  slice_qp = slice_qp p.pps p.header.fields (read_of s.header);
  place = place_in p s.header.subpic s.header.address;
  payload = drop s.payload s.unit;
}

-- Of a picture of a stream.
abbrev pub input_of : Picture → Slice → Input
input_of p s = input_in (parts_of p) (slice_part p.begun s)

-- Those of the slices of subpicture k, which come in the order of their addresses.
abbrev pub inputs_of : Picture → ℕ → List Input
inputs_of p k = map (input_of p) (filter (λ s. s.header.subpic == k) p.slices)

-- For the model of a picture.
abbrev pub inputs_in : Parts → ℕ → List Input
inputs_in q k = map (input_in q) (filter (λ s. s.header.subpic == k) q.slices)

-- Both are the same.
abbrev pub InputsAreShown : Type 0
InputsAreShown = (p : Picture) (k : ℕ) → inputs_in (parts_of p) k ≡ inputs_of p k
