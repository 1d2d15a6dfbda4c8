-- A NAL unit and its header (H.266 7.3.1.2, 7.4.2.2). A unit is the list of its bytes. The contract of `read_header`, and all
-- readers of units, rely on it.
use Rattle.std.specs.Prelude.{◌≡◌, ℕ, ◌-◌, ◌/◌, ◌%◌, ◌≤◌, ◌==◌, List, length, slice_index}
use Rattle.vx_annexb.specs.declared.header.NalHeader.{NalHeader}

-- The first byte is forbidden_zero_bit f(1), nuh_reserved_zero_bit u(1), nuh_layer_id u(6);
-- the second is nal_unit_type u(5), nuh_temporal_id_plus1 u(3) (7.3.1.2).
abbrev pub forbidden_zero_bit : List ℕ → ℕ
forbidden_zero_bit unit = slice_index unit 0 / 128

abbrev pub nuh_reserved_zero_bit : List ℕ → ℕ
nuh_reserved_zero_bit unit = slice_index unit 0 / 64 % 2

abbrev pub nuh_layer_id : List ℕ → ℕ
nuh_layer_id unit = slice_index unit 0 % 64

abbrev pub nal_unit_type : List ℕ → ℕ
nal_unit_type unit = slice_index unit 1 / 8

abbrev pub nuh_temporal_id_plus1 : List ℕ → ℕ
nuh_temporal_id_plus1 unit = slice_index unit 1 % 8

-- A header that can be read: two bytes, a forbidden bit of 0, and a temporal id (7.4.2.2).
pub record HasHeader (unit : List ℕ) : Type 0 where
  pub bytes : 2 ≤ length unit
  pub forbidden : forbidden_zero_bit unit ≡ 0
  pub temporal : 1 ≤ nuh_temporal_id_plus1 unit

-- The values in the header; TemporalId is nuh_temporal_id_plus1 - 1 (7.4.2.2).
abbrev pub header_of : List ℕ → NalHeader
header_of unit = record {
  reserved = nuh_reserved_zero_bit unit == 1;
  layer_id = nuh_layer_id unit;
  nal_type = nal_unit_type unit;
  temporal_id = nuh_temporal_id_plus1 unit - 1;
}
