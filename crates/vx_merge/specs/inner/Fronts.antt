-- What the slices of a round are written under, and what is written of them up to their payloads. Our own.
use Rattle.std.specs.Prelude.{◌≡◌, ℕ, pos, neg_ℤ, ◌+ℤ◌, ◌≤ℤ◌, cond, List, [], map, unwrap_or}
use Rattle.std.specs.List.{AllZip}
use Rattle.vx_bits.specs.declared.list.Item.{Item}
use Rattle.vx_fields.specs.declared.ph.TheConstants as ph
use Rattle.vx_fields.specs.declared.pps.TheConstants as pps
use Rattle.vx_fields.specs.declared.sh.TheConstants as sh
use Rattle.vx_table.specs.Depends.{has}
use Rattle.vx_table.specs.Scope.{natural}
use Rattle.vx_layout.specs.declared.numbers.Numbers.{Numbers}
use Rattle.vx_aps.specs.declared.aps.TheConstants as aps
use Rattle.vx_ph.specs.declared.header.PictureHeader.{PictureHeader}
use Rattle.vx_ph.specs.Filter.{filter_of, set_ids, with_ids}
use Rattle.vx_ph.specs.InForce.{in_force, structures}
use Rattle.vx_ph.specs.Picture.{IsHeader}
use Rattle.vx_ph.specs.Reshaped as ph_reshaped
use Rattle.vx_sh.specs.declared.header.SliceHeader.{SliceHeader as SliceValue}
use Rattle.vx_sh.specs.declared.numbers.SliceNumbers.{SliceNumbers}
use Rattle.vx_sh.specs.declared.shape.ShShape.{ShShape}
use Rattle.vx_pic.specs.Inputs.{body_of, is_used}
use Rattle.vx_pic.specs.Parts.{Parts, SlicePart, read_of}
use Rattle.vx_pic.specs.PictureLayout.{ids_of}
use Rattle.vx_pic.specs.Readings.{Begun}
use Rattle.vx_pic.specs.Sets.{filter_items, signed, slice_qp}
use Rattle.vx_pic.specs.UnderSets.{picture_header_of}
use Rattle.vx_frame.specs.Rounds.{picture_at}
use Rattle.vx_merge.specs.declared.needed.NamedBodies.{NamedBodies}
use Rattle.vx_merge.specs.declared.needed.RoundSets.{RoundSets}
use Rattle.vx_merge.specs.Headers.{IsFront, ph_shape}
use Rattle.vx_merge.specs.Needed.{id_of_body}
use Rattle.vx_merge.specs.inner.Ready.{IsReadyAt, ids_in}

-- ---- the filter of a slice

-- The id that the body takes which a picture has with this id.
abbrev pub new_id : NamedBodies → Parts → ℕ → ℕ
new_id named q id = id_of_body (map (λ b. b.now) named.bodies) named.ids.items (unwrap_or (body_of q aps.ALF id) [])

-- An item with it, if its field names a set.
abbrev pub renamed : NamedBodies → Parts → Item → Item
renamed named q item =
    cond (has set_ids item.field) (record { field = item.field; value = pos (new_id named q (natural item.value)) }) item

-- The filter in force of a slice, with the ids that its bodies take.
abbrev pub new_filter : NamedBodies → Parts → SliceValue → List Item
new_filter named q h = with_ids (new_id named q) (filter_of (filter_items q.pps q.header.fields (read_of h)))

-- ---- what its header says

-- In the subpicture with this id, with this filter; the first source's picture is the first one here.
pub record HasShape (first q : Parts) (k : ℕ) (h : SliceValue) (items : List Item) (shape : ShShape) : Type 0 where
  pub subpic : shape.subpic_id ≡ k
  pub filter : shape.filter.now ≡ items
  pub lmcs : shape.uses_lmcs ≡ is_used q.header.fields h ph.ph_lmcs_enabled_flag sh.sh_lmcs_used_flag
  pub scaling : shape.uses_scaling ≡ is_used q.header.fields h ph.ph_explicit_scaling_list_enabled_flag sh.sh_explicit_scaling_list_used_flag
  pub qp : (pos 26 +ℤ signed first.pps pps.pps_init_qp_minus26) +ℤ shape.qp_delta ≡ slice_qp q.pps q.header.fields (read_of h)
  pub low : neg_ℤ (pos 75) ≤ℤ shape.qp_delta
  pub high : shape.qp_delta ≤ℤ pos 75

-- ---- a round

-- What is in force for its slices: the sets that it needs, its header and its frame.
pub record IsInForce (round : List Parts) (n : RoundSets) (numbers : SliceNumbers) : Type 0 where
  pub ready : IsReadyAt round n numbers.layout.now
  pub type : numbers.nal_type ≡ (picture_at round 0).kind.nal_type
  pub sps : numbers.sps.now ≡ n.sps.now
  pub pps : numbers.pps.now ≡ n.pps.now
  pub says : ph_reshaped.IsReshapedPictureHeader (picture_at round 0).header (ph_shape round (ids_in n)) n.sps.now n.pps.now numbers.header.now
  pub is : IsHeader (structures n.sps.now) (in_force n.sps.now n.pps.now) numbers.header.now
  pub ids : numbers.ids.now ≡ ids_of n.sps.now n.pps.now

-- The picture that it is put together as: with these sets, this header and this layout.
pub record IsBegun (round : List Parts) (n : RoundSets) (said : PictureHeader) (frame : Numbers) (b : Begun) : Type 0 where
  pub sps : b.sps ≡ n.sps.now
  pub pps : b.pps ≡ n.pps.now
  pub header : picture_header_of b ≡ said
  pub layout : b.layout ≡ frame
  pub temporal_id : b.temporal_id ≡ (picture_at round 0).kind.temporal_id

-- These are its slices up to their payloads.
abbrev pub AreFronts : List Parts → RoundSets → Begun → List (ℕ × SlicePart) → List (List ℕ) → Type 0
AreFronts round n b slices fronts =
    AllZip (λ x front. IsFront round (ids_in n) (picture_at round 0).kind.nal_type b x.0 x.1 front) slices fronts
