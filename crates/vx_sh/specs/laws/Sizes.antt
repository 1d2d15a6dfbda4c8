-- The length of a slice header.
use Rattle.std.specs.Prelude.{◌≡◌, ℕ, ◌≤◌, List, length, slice_index}
use Rattle.vx_bits.specs.declared.list.Item.{Item}
use Rattle.vx_table.specs.Loaded.{number}
use Rattle.vx_table.specs.Scope.{is_set, most}
use Rattle.vx_fields.specs.declared.sps.TheConstants.{sps_entropy_coding_sync_enabled_flag, sps_entry_point_offsets_present_flag}
use Rattle.vx_fields.specs.declared.names.sh.TheConstants.{EXTRA_SH_BITS, DEFAULT_ACTIVE_0, DEFAULT_ACTIVE_1}
use Rattle.vx_sps.specs.Set.{extra_ph_bits_of, extra_sh_bits_of}
use Rattle.vx_pps.specs.Pps.{default_active}
use Rattle.vx_ph.specs.laws.Sizes as ph
use Rattle.vx_sh.specs.declared.numbers.SliceNumbers.{SliceNumbers}
use Rattle.vx_sh.specs.InForce.{in_force_at}
use Rattle.vx_sh.specs.Value.{IsSliceHeaderSpelling}
use Rattle.vx_sh.specs.Whole.{At, points_at, num_slices_in_subpic}

-- No slice has more entry points.
abbrev pub points_limit : ℕ
points_limit = 65536

-- What is in force at a slice header: sets under which a picture header is short, numbers of 32 bits, few extra bits, few active
-- entries by default, and few entry points.
pub record IsBounded (n : At) : Type 0 where
  pub sets : ph.IsBounded n.table n.sets
  pub long : length n.slice ≡ 1024
  pub numbers : (m : ℕ) → slice_index n.slice m ≤ most
  pub extra : slice_index n.slice EXTRA_SH_BITS ≤ 32
  pub first : slice_index n.slice DEFAULT_ACTIVE_0 ≤ 14
  pub second : slice_index n.slice DEFAULT_ACTIVE_1 ≤ 14
  pub ids : length n.ids ≤ most
  pub slices : (k : ℕ) → num_slices_in_subpic n.layout k ≤ most
  pub points : (k m : ℕ) → points_at n.layout (is_set (slice_index n.slice sps_entry_point_offsets_present_flag))
      (is_set (slice_index n.slice sps_entropy_coding_sync_enabled_flag)) k m ≤ points_limit

-- No slice header has more bytes.
abbrev pub header_limit : ℕ
header_limit = 524288

abbrev pub SpellingIsShort : Type 0
SpellingIsShort = (n : At) (fields others : List Item) (bytes : List ℕ) → IsBounded n → IsSliceHeaderSpelling n fields others bytes
    → length bytes ≤ header_limit

-- Sets, a picture header and a layout with small numbers: at most 32 extra bits, 15 active entries by default, and this number of
-- entry points a slice.
pub record AskLittle (n : SliceNumbers) : Type 0 where
  pub ph_bits : extra_ph_bits_of n.sps.now ≤ 32
  pub sh_bits : extra_sh_bits_of n.sps.now ≤ 32
  pub active : (list : ℕ) → default_active n.pps.now list ≤ 14
  pub type : n.nal_type ≤ most
  pub first : length n.header.now.lists.first ≤ most
  pub second : length n.header.now.lists.second ≤ most
  pub ids : length n.ids.now ≤ most
  pub slices : length n.layout.now.slices ≤ most
  pub points : (k m : ℕ) → points_at n.layout.now (is_set (number n.sps.now sps_entry_point_offsets_present_flag))
      (is_set (number n.sps.now sps_entropy_coding_sync_enabled_flag)) k m ≤ points_limit

-- What is in force by them is bounded in this way.
abbrev pub NumbersAreBounded : Type 0
NumbersAreBounded = (n : SliceNumbers) → AskLittle n → IsBounded (in_force_at n)
