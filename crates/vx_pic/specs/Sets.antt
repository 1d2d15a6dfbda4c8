-- Parameter sets and headers as lists of their items, and what they say of a picture and its slices. All definitions of pictures
-- rely on it.
use Rattle.std.specs.Prelude.{ℕ, ℤ, pos, neg_ℤ, ◌+◌, ◌+ℤ◌, ◌*◌, ◌^◌, ◌==◌, ◌&&◌, int_le, Bool, true, false, cond, List, [], ◌∷◌, ◌++◌}
use Rattle.std.specs.Prelude.{length, map, filter, take, Option, Some, None, unwrap_or}
use Rattle.std.specs.Ordering.{int_eq}
use Rattle.vx_bits.specs.declared.list.Item.{Item}
use Rattle.vx_bits.specs.Fields.{first_value}
use Rattle.vx_table.specs.Scope.{natural, is_set}
use Rattle.vx_table.specs.Loaded.{number}
use Rattle.vx_fields.specs.declared.sps.TheConstants as sps
use Rattle.vx_fields.specs.declared.pps.TheConstants as pps
use Rattle.vx_fields.specs.declared.ph.TheConstants as ph
use Rattle.vx_fields.specs.declared.sh.TheConstants as sh
use Rattle.vx_fields.specs.declared.alf.TheConstants as alf
use Rattle.vx_layout.specs.declared.numbers.Numbers.{Numbers}
use Rattle.vx_layout.specs.Rects.{in_order}
use Rattle.vx_aps.specs.declared.aps.TheConstants as aps

-- ---- sets (7.4.3.4, 7.4.3.5)

-- sps_seq_parameter_set_id, pps_pic_parameter_set_id, and pps_seq_parameter_set_id: the SPS that the PPS refers to (7.4.3.4,
-- 7.4.3.5).
unfoldable pub sps_id : List Item → ℕ
sps_id s = number s sps.sps_seq_parameter_set_id

unfoldable pub pps_id : List Item → ℕ
pps_id p = number p pps.pps_pic_parameter_set_id

unfoldable pub referred_sps : List Item → ℕ
referred_sps p = number p pps.pps_seq_parameter_set_id

-- The pictures of both have the same size (7.4.3.5), since the resolution doesn't change.
unfoldable pub same_size : List Item → List Item → Bool
same_size s p =
    (number p pps.pps_pic_width_in_luma_samples == number s sps.sps_pic_width_max_in_luma_samples)
    && (number p pps.pps_pic_height_in_luma_samples == number s sps.sps_pic_height_max_in_luma_samples)

-- The same fields with the same values (our own).
abbrev pub same_item : Item → Item → Bool
same_item a b = (a.field == b.field) && int_eq a.value b.value

abbrev pub same_items : List Item → List Item → Bool
same_items [] [] = true
same_items (a ∷ items) (b ∷ others) = same_item a b && same_items items others
same_items [] (b ∷ others) = false
same_items (a ∷ items) [] = false

-- ---- counts (7.4.3.8)

-- MaxPicOrderCntLsb (7.4.3.4).
unfoldable pub max_lsb : List Item → ℕ
max_lsb s = 2 ^ (number s sps.sps_log2_max_pic_order_cnt_lsb_minus4 + 4)

-- ph_pic_order_cnt_lsb (7.4.3.8).
unfoldable pub lsb_of : List Item → ℕ
lsb_of header = number header ph.ph_pic_order_cnt_lsb

-- ph_poc_msb_cycle_val, if it is present (7.4.3.8).
unfoldable pub msb_cycle : List Item → Option ℕ
msb_cycle header = cond (is_set (number header ph.ph_poc_msb_cycle_present_flag)) (Some (number header ph.ph_poc_msb_cycle_val)) None

-- ph_non_ref_pic_flag (7.4.3.8).
unfoldable pub is_non_ref : List Item → Bool
is_non_ref header = is_set (number header ph.ph_non_ref_pic_flag)

-- ---- slices

-- What is read of a slice: the items of its header, the index of its subpicture (CurrSubpicIdx, 7.4.8), and the place in its unit
-- after the header, where slice_data( ) begins.
pub record SliceHeader : Type 0 where
  pub fields : List Item
  pub subpic : ℕ
  pub payload : ℕ

-- sh_slice_address (7.4.8).
unfoldable pub address_of : SliceHeader → ℕ
address_of h = number h.fields sh.sh_slice_address

-- How many slices of the picture come before it: those of the subpictures before its own, and as many as its address (7.4.8).
unfoldable pub slices_before : Numbers → SliceHeader → ℕ
slices_before layout h = length (in_order layout.slices (take h.subpic layout.subpics)) + address_of h

-- ---- adaptation parameter sets

-- A set of a type and an id that a header names (our own).
pub record Slot : Type 0 where
  pub kind : ℕ
  pub id : ℕ

-- Those that a field names, in order (our own).
abbrev pub named : ℕ → ℕ → List Item → List Slot
named kind of items = map (λ item. record { kind = kind; id = natural item.value }) (filter (λ item. item.field == of) items)

-- The filter of a slice is in the picture header or in its own (7.4.3.5, pps_alf_info_in_ph_flag).
abbrev pub filter_items : List Item → List Item → SliceHeader → List Item
filter_items p header h = cond (is_set (number p pps.pps_alf_info_in_ph_flag)) header h.fields

-- The filters of a slice: luma, chroma, Cb and Cr (7.4.8).
abbrev pub named_filters : List Item → List Slot
named_filters items =
    named aps.ALF alf.alf_aps_id_luma items
    ++ (named aps.ALF alf.alf_aps_id_chroma items
    ++ (named aps.ALF alf.alf_cc_cb_aps_id items
    ++ named aps.ALF alf.alf_cc_cr_aps_id items))

-- What a slice names, of a picture with this PPS and header; LMCS and scaling lists whether it uses them or not (7.4.3.8,
-- 7.4.8).
unfoldable pub names_of : List Item → List Item → SliceHeader → List Slot
names_of p header h =
    named_filters (filter_items p header h)
    ++ (named aps.LMCS ph.ph_lmcs_aps_id header ++ named aps.SCALING ph.ph_scaling_list_aps_id header)

-- ---- the quantization parameter of a slice (7.4.3.5, 7.4.3.8, 7.4.8)

-- The value of a field, or 0 if it is absent (our own).
abbrev pub signed : List Item → ℕ → ℤ
signed items of = unwrap_or (first_value items of) (pos 0)

-- ph_qp_delta or sh_qp_delta, by pps_qp_delta_info_in_ph_flag (7.4.3.5).
abbrev pub qp_delta : List Item → List Item → SliceHeader → ℤ
qp_delta p header h =
    cond (is_set (number p pps.pps_qp_delta_info_in_ph_flag)) (signed header ph.ph_qp_delta) (signed h.fields sh.sh_qp_delta)

-- SliceQpY: 26 + pps_init_qp_minus26 + the delta (7.4.8).
unfoldable pub slice_qp : List Item → List Item → SliceHeader → ℤ
slice_qp p header h = (pos 26 +ℤ signed p pps.pps_init_qp_minus26) +ℤ qp_delta p header h

-- It is in the range of -QpBdOffset to 63 (7.4.3.4, 7.4.8).
unfoldable pub is_qp : List Item → ℤ → Bool
is_qp s qp = int_le (neg_ℤ (pos (6 * number s sps.sps_bitdepth_minus8))) qp && int_le qp (pos 63)
