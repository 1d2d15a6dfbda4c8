-- The length of a picture header.
use Rattle.std.specs.Prelude.{◌≡◌, ℕ, ◌≤◌, List, length, slice_get, slice_index, Some}
use Rattle.vx_bits.specs.declared.list.Item.{Item}
use Rattle.vx_table.specs.Scope.{most}
use Rattle.vx_fields.specs.declared.names.ph.TheConstants.{EXTRA_PH_BITS}
use Rattle.vx_rpl.specs.declared.entry.RplTable.{RplTable}
use Rattle.vx_rpl.specs.declared.entry.Structure.{Structure}
use Rattle.vx_sps.specs.Set.{extra_ph_bits_of}
use Rattle.vx_ph.specs.declared.header.PictureHeader.{PictureHeader}
use Rattle.vx_ph.specs.InForce.{in_force, structures}
use Rattle.vx_ph.specs.Picture.{IsPictureHeaderUnit}

-- Structures of an SPS for one list: 64 at most, of 29 entries at most.
pub record AreFew (structures : List Structure) : Type 0 where
  pub count : length structures ≤ 64
  pub each : (k : ℕ) (x : Structure) → slice_get structures k ≡ Some x → length x.entries ≤ 29

-- The sets in force of a header: numbers of 32 bits, few structures, and few extra bits.
pub record IsBounded (table : RplTable) (s : List ℕ) : Type 0 where
  pub long : length s ≡ 1024
  pub numbers : (n : ℕ) → slice_index s n ≤ most
  pub extra : slice_index s EXTRA_PH_BITS ≤ 32
  pub first : AreFew table.first
  pub second : AreFew table.second

-- No unit of a picture header has more bytes.
abbrev pub header_limit : ℕ
header_limit = 131072

abbrev pub SpellingIsShort : Type 0
SpellingIsShort = (table : RplTable) (s : List ℕ) (header : PictureHeader) (bytes : List ℕ) → IsBounded table s → IsPictureHeaderUnit table s header bytes
    → length bytes ≤ header_limit

-- Sets are bounded in this way if the SPS has few enough extra bits.
abbrev pub SetsAreBounded : Type 0
SetsAreBounded = (sps pps : List Item) → extra_ph_bits_of sps ≤ 32 → IsBounded (structures sps) (in_force sps pps)
