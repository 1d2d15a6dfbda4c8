-- What a slice header has only if the SPS enables it (H.266 7.3.7).
use Rattle.std.specs.Prelude.{◌≡◌, ℕ, ℤ, false, List, []}
use Rattle.vx_bits.specs.declared.list.Item.{Item}
use Rattle.vx_table.specs.Loaded.{number}
use Rattle.vx_table.specs.Scope.{is_set}
use Rattle.vx_fields.specs.declared.sps.TheConstants.{sps_alf_enabled_flag}
use Rattle.vx_layout.specs.declared.numbers.Numbers.{Numbers}
use Rattle.vx_ph.specs.declared.header.PictureHeader.{PictureHeader}
use Rattle.vx_ph.specs.Filter.{filter_of}
use Rattle.vx_sh.specs.InForce.{at_sets}
use Rattle.vx_sh.specs.Value.{AreFields}

-- The adaptive loop filter.
abbrev pub NoSliceFilter : Type 0
NoSliceFilter = (nal_type : ℕ) (sps pps : List Item) (header : PictureHeader) (ids : List ℕ) (layout : Numbers) (fields : List Item) (inside : List ℤ)
    → AreFields (at_sets nal_type sps pps header ids layout) fields inside → is_set (number sps sps_alf_enabled_flag) ≡ false
    → filter_of fields ≡ []
