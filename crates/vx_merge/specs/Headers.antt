-- The headers of a merged picture: its picture header, and those of its slices (H.266 7.3.2.7, 7.3.7).
use Rattle.std.specs.Prelude.{◌≡◌, ℕ, pos, ◌+ℤ◌, ◌+◌, false, List, [], ◌∷◌, ◌++◌, drop, length, map, slice_get, Some, option_map, unwrap_or}
use Rattle.vx_bits.specs.declared.list.Item.{Item}
use Rattle.vx_fields.specs.declared.ph.TheConstants as ph
use Rattle.vx_fields.specs.declared.pps.TheConstants as pps
use Rattle.vx_fields.specs.declared.sh.TheConstants as sh
use Rattle.vx_aps.specs.declared.aps.TheConstants as aps
use Rattle.vx_ph.specs.declared.shape.LmcsShape.{LmcsShape}
use Rattle.vx_ph.specs.declared.shape.PhShape.{PhShape}
use Rattle.vx_ph.specs.Filter.{filter_of, with_ids}
use Rattle.vx_ph.specs.InForce.{in_force, structures}
use Rattle.vx_ph.specs.Picture.{IsPictureHeaderUnit}
use Rattle.vx_ph.specs.Reshaped as ph_reshaped
use Rattle.vx_sh.specs.declared.header.SliceHeader.{SliceHeader as SliceValue}
use Rattle.vx_sh.specs.declared.numbers.SliceNumbers.{SliceNumbers}
use Rattle.vx_sh.specs.declared.shape.ShShape.{ShShape}
use Rattle.vx_sh.specs.InForce.{in_force_at}
use Rattle.vx_sh.specs.Reshaped as sh_reshaped
use Rattle.vx_sh.specs.Value.{IsSliceHeaderSpelling}
use Rattle.vx_pic.specs.declared.unit_types.TheConstants.{PH_NUT}
use Rattle.vx_pic.specs.Inputs.{body_of, is_used}
use Rattle.vx_pic.specs.Parts.{Parts, SlicePart, read_of}
use Rattle.vx_pic.specs.PictureLayout.{ids_of}
use Rattle.vx_pic.specs.Readings.{Begun, Slice}
use Rattle.vx_pic.specs.Sets.{filter_items, signed, slice_qp}
use Rattle.vx_pic.specs.UnderSets.{picture_header_of}
use Rattle.vx_write.specs.Units.{IsUnitOf}
use Rattle.vx_frame.specs.Bodies.{has_lmcs, is_chroma_scaled, alf_bodies}
use Rattle.vx_frame.specs.Rounds.{picture_at}
use Rattle.vx_frame.specs.Shapes.{of_lowest}
use Rattle.vx_merge.specs.Needed.{Ids, id_of_body}

-- ---- the picture header (our own)

-- Luma mapping with chroma scaling, if a source has it: the id of its set, and whether chroma residuals are scaled, as in the lowest
-- source that has it.
abbrev pub lmcs_shape : List Parts → ℕ → LmcsShape
lmcs_shape round id = record { id = id; scales_chroma = of_lowest has_lmcs is_chroma_scaled false round }

abbrev pub ph_shape : List Parts → Ids → PhShape
ph_shape round ids = record {
  pps_id = ids.pps;
  lmcs = option_map (lmcs_shape round) (slice_get ids.lmcs 0);
  scaling = slice_get ids.scaling 0;
}

-- The picture header says that, and all else as source 0's. It has a unit of its own.
pub record HasMergedHeader (round : List Parts) (ids : Ids) (b : Begun) : Type 0 where
  pub says : ph_reshaped.IsReshapedPictureHeader (picture_at round 0).header (ph_shape round ids) b.sps b.pps (picture_header_of b)
  pub unit : List ℕ
  pub is : b.unit ≡ Some unit
  pub rbsp : List ℕ
  pub spelled : IsPictureHeaderUnit (structures b.sps) (in_force b.sps b.pps) (picture_header_of b) rbsp
  pub made : IsUnitOf PH_NUT b.temporal_id rbsp unit

-- ---- slices (our own)

-- The id that the set has in the written picture which a picture has as this one.
abbrev pub id_for : List Parts → Ids → Parts → ℕ → ℕ
id_for round ids q id = id_of_body (alf_bodies round) ids.alf (unwrap_or (body_of q aps.ALF id) [])

-- The adaptive loop filter in force in a slice, with these ids.
abbrev pub filter_in : List Parts → Ids → Parts → SlicePart → List Item
filter_in round ids q s = with_ids (id_for round ids q) (filter_of (filter_items q.pps q.header.fields (read_of s.header)))

-- What the header of a slice of source k says: its subpicture, its filter, its use of LMCS and of scaling lists, and its QP, which is
-- counted from source 0's.
pub record SaysSlice (round : List Parts) (ids : Ids) (k : ℕ) (s : SlicePart) (shape : ShShape) : Type 0 where
  pub subpic : shape.subpic_id ≡ k
  pub filter : shape.filter.now ≡ filter_in round ids (picture_at round k) s
  pub lmcs : shape.uses_lmcs ≡ is_used (picture_at round k).header.fields s.header ph.ph_lmcs_enabled_flag sh.sh_lmcs_used_flag
  pub scaling : shape.uses_scaling
      ≡ is_used (picture_at round k).header.fields s.header ph.ph_explicit_scaling_list_enabled_flag sh.sh_explicit_scaling_list_used_flag
  pub qp : (pos 26 +ℤ signed (picture_at round 0).pps pps.pps_init_qp_minus26) +ℤ shape.qp_delta
      ≡ slice_qp (picture_at round k).pps (picture_at round k).header.fields (read_of s.header)

-- What is in force for slices of a type.
pub record AreNumbers (nal_type : ℕ) (b : Begun) (n : SliceNumbers) : Type 0 where
  pub type : n.nal_type ≡ nal_type
  pub sps : n.sps.now ≡ b.sps
  pub pps : n.pps.now ≡ b.pps
  pub header : n.header.now ≡ picture_header_of b
  pub layout : n.layout.now ≡ b.layout
  pub ids : n.ids.now ≡ ids_of b.sps b.pps

-- A slice of source k up to its payload, in a unit of a type: its header says that, and all else as its own.
pub record IsFront (round : List Parts) (ids : Ids) (nal_type : ℕ) (b : Begun) (k : ℕ) (s : SlicePart) (front : List ℕ) : Type 0 where
  pub numbers : SliceNumbers
  pub at : AreNumbers nal_type b numbers
  pub shape : ShShape
  pub says : SaysSlice round ids k s shape
  pub header : SliceValue
  pub reshaped : sh_reshaped.IsReshapedSliceHeader s.header shape numbers header
  pub bytes : List ℕ
  pub spelled : IsSliceHeaderSpelling (in_force_at numbers) header.fields b.header bytes
  pub made : IsUnitOf nal_type b.temporal_id bytes front

-- And whole, with its payload as it stands.
pub record IsMergedSlice (round : List Parts) (ids : Ids) (nal_type : ℕ) (b : Begun) (k : ℕ) (s : SlicePart) (w : Slice) : Type 0 where
  pub front : List ℕ
  pub is : IsFront round ids nal_type b k s front
  pub read : w.header ≡ record { fields = is.header.fields; subpic = is.header.subpic; payload = length front }
  pub unit : w.unit ≡ front ++ drop s.payload s.unit

-- The slices of pictures, each with the index of its source: by source, and then by address.
abbrev pub sourced : ℕ → List Parts → List (ℕ × SlicePart)
sourced k [] = []
sourced k (q ∷ round) = map (λ s. (k, s)) q.slices ++ sourced (k + 1) round
