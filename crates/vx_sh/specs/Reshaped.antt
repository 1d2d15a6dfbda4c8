-- The rewritten slice header: what it copies from its source, and what it states (H.266 7.3.7). The contract of `SliceSender::send`
-- relies on it.
use Rattle.std.specs.Prelude.{◌≡◌, ℕ, ℤ, ◌+◌, ◌^◌, ◌<◌, ◌==◌, Bool, true, false, not, List, [], ◌∷◌, ◌++◌, filter, length}
use Rattle.vx_bits.specs.declared.list.Item.{Item}
use Rattle.vx_bits.specs.Codes.{IsCodeNumber, code_number}
use Rattle.vx_table.specs.Scope.{is_set, one_if}
use Rattle.vx_table.specs.Forms.{form_of}
use Rattle.vx_table.specs.Depends.{Agree}
use Rattle.vx_table.specs.Loaded.{number}
use Rattle.vx_table.specs.Rewritten.{other_items}
use Rattle.vx_table.specs.Rewrites.{Takes}
use Rattle.vx_table.specs.Shown.{shown_items}
use Rattle.vx_fields.specs.declared.sps.TheConstants as sps_fields
use Rattle.vx_fields.specs.declared.ph.TheConstants as ph
use Rattle.vx_fields.specs.declared.sh.TheConstants as sh
use Rattle.vx_fields.specs.declared.names.sh.TheConstants.{NUM_SLICES}
use Rattle.vx_layout.specs.declared.numbers.Numbers.{Numbers}
use Rattle.vx_sps.specs.Reshaped.{item}
use Rattle.vx_table.specs.Rewritten.{where_so}
use Rattle.vx_ph.specs.declared.header.PictureHeader.{PictureHeader}
use Rattle.vx_ph.specs.declared.tables.TheConstants.{ALF}
use Rattle.vx_ph.specs.Depends as ph_kept
use Rattle.vx_ph.specs.InForce.{in_force, structures}
use Rattle.vx_ph.specs.Picture.{IsHeader}
use Rattle.vx_ph.specs.Reshaped.{HaveSameKept, IsApart}
use Rattle.vx_sh.specs.declared.header.SliceHeader.{SliceHeader}
use Rattle.vx_sh.specs.declared.numbers.SliceNumbers.{SliceNumbers}
use Rattle.vx_sh.specs.declared.shape.ShShape.{ShShape}
use Rattle.vx_sh.specs.Depends.{kept_fields, kept_given}
use Rattle.vx_sh.specs.InForce.{at_sets, in_force_at, slice_scope}
use Rattle.vx_sh.specs.Value.{AreFields, BeginsSlice, HasNumbers, IsSliceHeaderSpelling, TellsNumbers}
use Rattle.vx_sh.specs.Whole.{At, index_of, points_at, num_slices_in_subpic}

-- ---- what is stated, in the order of the syntax (7.3.7; what is stated is our own choice)

-- The picture header is a unit of its own; the id of the subpicture, if the SPS describes subpictures (7.3.7).
abbrev pub sh_subpic_id_items : List Item → ℕ → List Item
sh_subpic_id_items sps id =
    item sh.sh_picture_header_in_slice_header_flag 0
    ∷ where_so (is_set (number sps sps_fields.sps_subpic_info_present_flag)) (item sh.sh_subpic_id id ∷ [])

-- The filter, if the SPS has it (7.3.7).
abbrev pub stated_filter_items : List Item → List Item → List Item
stated_filter_items sps filter = where_so (is_set (number sps sps_fields.sps_alf_enabled_flag)) filter

-- What is used of LMCS and scaling lists, if the picture header has them on (7.3.7).
abbrev pub use_items : List Item → (uses_lmcs uses_scaling : Bool) → List Item
use_items header uses_lmcs uses_scaling =
    where_so (is_set (number header ph.ph_lmcs_enabled_flag)) (item sh.sh_lmcs_used_flag (one_if uses_lmcs) ∷ [])
    ++ where_so (is_set (number header ph.ph_explicit_scaling_list_enabled_flag))
    (item sh.sh_explicit_scaling_list_used_flag (one_if uses_scaling) ∷ [])

-- The QP (7.3.7).
abbrev pub qp_items : ℤ → List Item
qp_items delta = record { field = sh.sh_qp_delta; value = delta } ∷ []

-- All that is stated (7.3.7).
abbrev pub stated_sh_items : SliceNumbers → ShShape → List Item
stated_sh_items n shape =
    sh_subpic_id_items n.sps.now shape.subpic_id
    ++ ((stated_filter_items n.sps.now shape.filter.now ++ use_items n.header.now.fields shape.uses_lmcs shape.uses_scaling)
    ++ qp_items shape.qp_delta)

-- Numbers that a header can have there. The id is that of a subpicture, and 0 if it isn't coded; the filter goes through under the
-- sets, if the SPS has it; and the QP has a code.
pub record IsShape (n : SliceNumbers) (shape : ShShape) : Type 0 where
  pub known : index_of shape.subpic_id n.ids.now < length n.ids.now
  pub spelled : is_set (number n.sps.now sps_fields.sps_subpic_info_present_flag) ≡ true
      → shape.subpic_id < 2 ^ (number n.sps.now sps_fields.sps_subpic_id_len_minus1 + 1)
  pub unspelled : is_set (number n.sps.now sps_fields.sps_subpic_info_present_flag) ≡ false → shape.subpic_id ≡ 0
  pub filter : is_set (number n.sps.now sps_fields.sps_alf_enabled_flag) ≡ true
      → Takes (form_of ALF (in_force n.sps.now n.pps.now)) shape.filter.now
  pub qp : IsCodeNumber (code_number shape.qp_delta)

-- ---- the places where a header can be rewritten

-- Subpictures k and m of two layouts have as many slices, with the same entry points by address.
pub record HaveSameSlices (layout : Numbers) (k : ℕ) (other : Numbers) (m : ℕ) : Type 0 where
  pub slices : num_slices_in_subpic layout k ≡ num_slices_in_subpic other m
  pub points : (has_points sync : Bool) (address : ℕ) → points_at layout has_points sync k address ≡ points_at other has_points sync m address

-- Two picture headers have the same kept fields, and lists of the same lengths.
pub record AreSameForSlices (header other : PictureHeader) : Type 0 where
  pub fields : shown_items ph_kept.kept_ph_fields other.fields ≡ shown_items ph_kept.kept_ph_fields header.fields
  pub first : length other.lists.first ≡ length header.lists.first
  pub second : length other.lists.second ≡ length header.lists.second

-- A slice header that was read in a unit of the same type, under sets and a picture header whose kept fields these are. Its
-- subpicture has the slices of the one with this id; the picture header is one under these sets, and the PPS has the filter and the
-- QP in slice headers.
pub record GoesAt (source : SliceHeader) (id : ℕ) (n : SliceNumbers) : Type 0 where
  pub sps : List Item
  pub pps : List Item
  pub header : PictureHeader
  pub ids : List ℕ
  pub layout : Numbers
  pub inside : List ℤ
  pub fields : AreFields (at_sets n.nal_type sps pps header ids layout) source.fields inside
  pub numbers : HasNumbers (at_sets n.nal_type sps pps header ids layout) source fields.end
  pub same : HaveSameKept sps pps n.sps.now n.pps.now
  pub apart : IsApart n.pps.now
  pub is_header : IsHeader (structures n.sps.now) (in_force n.sps.now n.pps.now) n.header.now
  pub same_header : AreSameForSlices header n.header.now
  pub same_slices : HaveSameSlices layout source.subpic n.layout.now (index_of id n.ids.now)

-- ---- the rewritten slice header (our own)

-- The items are those of a slice header there that has no picture header inside, with the stated id. Those of kept fields are the
-- source's, and the others are exactly what is stated.
pub record AreReshapedInSliceHeader (source : List Item) (shape : ShShape) (n : SliceNumbers) (items : List Item) : Type 0 where
  pub fields : AreFields (in_force_at n) items []
  pub apart : number items sh.sh_picture_header_in_slice_header_flag ≡ 0
  pub id : number items sh.sh_subpic_id ≡ shape.subpic_id
  pub kept : shown_items kept_fields items ≡ shown_items kept_fields source
  pub others : other_items kept_fields items ≡ stated_sh_items n shape

-- Its subpicture has the stated id, its address and its lists are the source's.
pub record IsReshapedSliceHeader (source : SliceHeader) (shape : ShShape) (n : SliceNumbers) (written : SliceHeader) : Type 0 where
  pub fields : AreReshapedInSliceHeader source.fields shape n written.fields
  pub inside : written.inside ≡ false
  pub subpic : written.subpic ≡ index_of shape.subpic_id n.ids.now
  pub address : written.address ≡ source.address
  pub lists : written.lists ≡ source.lists

-- The bytes spell a rewritten slice header, whose numbers are those that its items give.
pub record IsSent (source : SliceHeader) (shape : ShShape) (n : SliceNumbers) (bytes : List ℕ) : Type 0 where
  pub header : SliceHeader
  pub reshaped : IsReshapedSliceHeader source shape n header
  pub told : TellsNumbers (in_force_at n) header
  pub spelled : IsSliceHeaderSpelling (in_force_at n) header.fields n.header.now.fields bytes

-- What is written of it begins an RBSP, whatever payload follows, and is read as nothing but it, of the same bytes; and its kept fields
-- are the source's.
pub record IsSliceReadAgain (source written : SliceHeader) (n : At) (bytes payload : List ℕ) : Type 0 where
  pub begins : BeginsSlice n (bytes ++ payload) written (length bytes)
  pub only : (read : SliceHeader) (size : ℕ) → BeginsSlice n (bytes ++ payload) read size → (read ≡ written) × (size ≡ length bytes)
  pub kept : shown_items kept_fields written.fields ≡ shown_items kept_fields source.fields

abbrev pub ReshapedIsReadAgain : Type 0
ReshapedIsReadAgain = (source written : SliceHeader) (shape : ShShape) (n : SliceNumbers) (bytes payload : List ℕ)
    → IsReshapedSliceHeader source shape n written → TellsNumbers (in_force_at n) written
    → IsSliceHeaderSpelling (in_force_at n) written.fields n.header.now.fields bytes
    → IsSliceReadAgain source written (in_force_at n) bytes payload

-- ---- sets and picture headers with the same kept fields

-- What slice headers use of them that is kept, after the id of the subpicture.
abbrev pub kept_in_force : List ℕ
kept_in_force = sps_fields.sps_entropy_coding_sync_enabled_flag ∷ sps_fields.sps_entry_point_offsets_present_flag
    ∷ filter (λ n. not (n == NUM_SLICES)) kept_given

-- Slices of one type find the same in them.
abbrev pub SlicesAgreeOnKept : Type 0
SlicesAgreeOnKept = (nal_type : ℕ) (sps pps other_sps other_pps : List Item) (header other : PictureHeader)
    → HaveSameKept sps pps other_sps other_pps → AreSameForSlices header other
    → Agree kept_in_force (slice_scope nal_type sps pps header (in_force sps pps))
    (slice_scope nal_type other_sps other_pps other (in_force other_sps other_pps))
