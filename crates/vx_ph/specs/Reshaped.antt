-- The rewritten picture header: what it copies from its source, and what it states (H.266 7.3.2.8). The contract of `reshape_ph`
-- relies on it.
use Rattle.std.specs.Prelude.{◌≡◌, ℕ, ◌<◌, true, List, [], ◌∷◌, ◌++◌, Option, Some, None, IfSome}
use Rattle.vx_bits.specs.declared.list.Item.{Item}
use Rattle.vx_table.specs.Scope.{is_set, one_if}
use Rattle.vx_table.specs.Depends.{Agree}
use Rattle.vx_table.specs.Loaded.{number}
use Rattle.vx_table.specs.Rewritten.{IsRewritten}
use Rattle.vx_table.specs.Shown.{shown_items}
use Rattle.vx_fields.specs.declared.sps.TheConstants as sps_fields
use Rattle.vx_fields.specs.declared.pps.TheConstants as pps_fields
use Rattle.vx_fields.specs.declared.ph.TheConstants as ph
use Rattle.vx_fields.specs.declared.rpl.TheConstants.{num_ref_entries}
use Rattle.vx_rpl.specs.Depends.{has_run}
use Rattle.vx_rpl.specs.HeaderLists.{lists_of}
use Rattle.vx_sps.specs.Depends as sps_set
use Rattle.vx_sps.specs.Set as sps_items
use Rattle.vx_sps.specs.Reshaped.{item}
use Rattle.vx_table.specs.Rewritten.{where_so}
use Rattle.vx_pps.specs.Pps as pps_set
use Rattle.vx_ph.specs.declared.header.PictureHeader.{PictureHeader}
use Rattle.vx_ph.specs.declared.shape.LmcsShape.{LmcsShape}
use Rattle.vx_ph.specs.declared.shape.PhShape.{PhShape}
use Rattle.vx_ph.specs.Header.{header_form}
use Rattle.vx_ph.specs.InForce.{in_force, structures}
use Rattle.vx_ph.specs.Depends.{kept_ph_fields, kept_for_starred}
use Rattle.vx_ph.specs.Picture.{IsHeader}

-- ---- what is stated, in the order of the syntax (7.3.2.8; what is stated is our own choice)

-- Luma mapping with chroma scaling, off or on: its set, and, if there is chroma, whether its residuals are scaled (7.3.2.8).
abbrev pub lmcs_said : (chroma : ℕ) → Option LmcsShape → List Item
lmcs_said chroma None = item ph.ph_lmcs_enabled_flag 0 ∷ []
lmcs_said chroma (Some lmcs) =
    item ph.ph_lmcs_enabled_flag 1 ∷ item ph.ph_lmcs_aps_id lmcs.id
    ∷ where_so (is_set chroma) (item ph.ph_chroma_residual_scale_flag (one_if lmcs.scales_chroma) ∷ [])

-- Scaling lists, off or on: their set (7.3.2.8).
abbrev pub scaling_said : Option ℕ → List Item
scaling_said None = item ph.ph_explicit_scaling_list_enabled_flag 0 ∷ []
scaling_said (Some id) = item ph.ph_explicit_scaling_list_enabled_flag 1 ∷ item ph.ph_scaling_list_aps_id id ∷ []

-- Each if the SPS has it (7.3.2.8).
abbrev pub map_items : List Item → PhShape → List Item
map_items sps shape =
    where_so (is_set (number sps sps_fields.sps_lmcs_enabled_flag)) (lmcs_said (number sps sps_fields.sps_chroma_format_idc) shape.lmcs)
    ++ where_so (is_set (number sps sps_fields.sps_explicit_scaling_list_enabled_flag)) (scaling_said shape.scaling)

-- All new items: the PPS, and these; neither filter nor QP, which are in slice headers (7.3.2.8).
abbrev pub stated_ph_items : List Item → PhShape → List Item
stated_ph_items sps shape = item ph.ph_pic_parameter_set_id shape.pps_id ∷ map_items sps shape

-- Numbers that a header can have.
pub record IsShape (shape : PhShape) : Type 0 where
  pub pps_id : shape.pps_id < 64
  pub lmcs : IfSome shape.lmcs (λ lmcs. lmcs.id < 4)
  pub scaling : IfSome shape.scaling (λ id. id < 8)

-- ---- the places where a header can be rewritten

-- Two pairs of an SPS and a PPS with the same kept fields.
pub record HaveSameKept (sps pps other_sps other_pps : List Item) : Type 0 where
  pub of_sps : sps_set.kept_sps_items other_sps ≡ sps_set.kept_sps_items sps
  pub of_pps : pps_set.kept_pps_items other_pps ≡ pps_set.kept_pps_items pps
  pub is_sps : sps_items.AreSpsItems sps
  pub is_other_sps : sps_items.AreSpsItems other_sps
  pub is_pps : pps_set.ArePpsItems pps
  pub is_other_pps : pps_set.ArePpsItems other_pps

-- A PPS that has the filter and the QP in slice headers.
pub record IsApart (pps : List Item) : Type 0 where
  pub filter : number pps pps_fields.pps_alf_info_in_ph_flag ≡ 0
  pub qp : number pps pps_fields.pps_qp_delta_info_in_ph_flag ≡ 0

-- A header that was read under sets whose kept fields these are, of which the PPS has the filter and the QP in slice headers.
pub record GoesUnder (source : PictureHeader) (sps pps : List Item) : Type 0 where
  pub own_sps : List Item
  pub own_pps : List Item
  pub header : IsHeader (structures own_sps) (in_force own_sps own_pps) source
  pub same : HaveSameKept own_sps own_pps sps pps
  pub apart : IsApart pps

-- ---- the rewritten header (our own)

-- The items are those of a header under the sets. Those of kept fields are the source's, and the others are exactly what is stated.
abbrev pub AreReshapedInPictureHeader : List Item → PhShape → List Item → List Item → List Item → Type 0
AreReshapedInPictureHeader source shape sps pps items = IsRewritten (header_form (structures sps) (in_force sps pps)) kept_ph_fields
    (shown_items kept_ph_fields source) (stated_ph_items sps shape) items

-- Its reference picture lists are the source's.
pub record IsReshapedPictureHeader (source : PictureHeader) (shape : PhShape) (sps pps : List Item) (written : PictureHeader) : Type 0 where
  pub fields : AreReshapedInPictureHeader source.fields shape sps pps written.fields
  pub lists : written.lists ≡ source.lists

-- ---- sets with the same kept fields

-- Headers find the same in them: the structures of lists, the numbers of all kept fields on which picture headers depend, and the
-- lists that the same items of a header's lists determine.
pub record AgreeOnKept (sps pps other_sps other_pps : List Item) : Type 0 where
  pub same_structures : structures sps ≡ structures other_sps
  pub numbers : Agree kept_for_starred (in_force sps pps) (in_force other_sps other_pps)
  pub lists : (names : List ℕ) (items others : List Item) → has_run names num_ref_entries 11 ≡ true
      → shown_items names items ≡ shown_items names others
      → lists_of (structures sps) (in_force sps pps) items ≡ lists_of (structures other_sps) (in_force other_sps other_pps) others

abbrev pub SameKeptAgree : Type 0
SameKeptAgree = (sps pps other_sps other_pps : List Item) → HaveSameKept sps pps other_sps other_pps
    → AgreeOnKept sps pps other_sps other_pps
