-- A NAL unit, as its bytes, and what is checked before it is read (H.266 7.3.1, 7.4.2.2). All definitions of pictures rely on it.
use Rattle.std.specs.Prelude.{ℕ, ◌-◌, ◌==◌, ◌||◌, nat_le, Bool, cond, List, drop, slice_index}
use Rattle.vx_annexb.specs.Emulation.{unescaped}
use Rattle.vx_annexb.specs.NalUnit.{nuh_reserved_zero_bit, nuh_temporal_id_plus1}
use Rattle.vx_pic.specs.declared.unit_types.TheConstants as types

-- nuh_reserved_zero_bit is 1: the unit is ignored (7.4.2.2).
unfoldable pub is_reserved : List ℕ → Bool
is_reserved unit = nuh_reserved_zero_bit unit == 1

-- TemporalId (7.4.2.2).
abbrev pub temporal_id : List ℕ → ℕ
temporal_id unit = nuh_temporal_id_plus1 unit - 1

-- The RBSP: the bytes after the header, without emulation prevention bytes (7.3.1.1).
unfoldable pub rbsp_of : List ℕ → List ℕ
rbsp_of unit = drop 2 (unescaped unit)

-- sh_picture_header_in_slice_header_flag, the first bit of a slice's RBSP (7.3.7); 0 of an RBSP without one.
unfoldable pub has_header_inside : List ℕ → Bool
has_header_inside unit = nat_le 128 (slice_index (rbsp_of unit) 0)

-- ---- types (7.4.2.2, Table 5)

abbrev pub is_idr : ℕ → Bool
is_idr t = t == types.IDR_W_RADL || t == types.IDR_N_LP

abbrev pub is_cra_or_gdr : ℕ → Bool
is_cra_or_gdr t = t == types.CRA_NUT || t == types.GDR_NUT

-- IRAP and GDR pictures (7.4.2.2).
abbrev pub is_irap_or_gdr : ℕ → Bool
is_irap_or_gdr t = is_idr t || is_cra_or_gdr t

-- What a type is; those that are dropped, and reserved ones, are others (7.4.2.2).
pub data Class : Type 0 where
  other_unit vps_unit sps_unit pps_unit prefix_aps suffix_aps header_unit slice_unit end_unit sei_unit : Class

abbrev pub is_slice_type : ℕ → Bool
is_slice_type t = nat_le t types.RASL_NUT || is_irap_or_gdr t

abbrev pub is_end_type : ℕ → Bool
is_end_type t = t == types.EOS_NUT || t == types.EOB_NUT

unfoldable pub class_of : ℕ → Class
class_of t =
    cond (t == types.VPS_NUT) vps_unit
    (cond (t == types.SPS_NUT) sps_unit
    (cond (t == types.PPS_NUT) pps_unit
    (cond (t == types.PREFIX_APS_NUT) prefix_aps
    (cond (t == types.SUFFIX_APS_NUT) suffix_aps
    (cond (t == types.PH_NUT) header_unit
    (cond (is_slice_type t) slice_unit
    (cond (is_end_type t) end_unit
    (cond (t == types.PREFIX_SEI_NUT) sei_unit other_unit))))))))
