-- The adaptive loop filter of a slice header (H.266 7.3.7).
use Rattle.std.specs.Prelude.{◌≡◌, ℤ, true, List, length, slice_index}
use Rattle.vx_bits.specs.declared.list.Item.{Item}
use Rattle.vx_table.specs.Forms.{form_of}
use Rattle.vx_table.specs.Rewrites.{Takes}
use Rattle.vx_table.specs.Scope.{is_set}
use Rattle.vx_fields.specs.declared.pps.TheConstants.{pps_alf_info_in_ph_flag}
use Rattle.vx_fields.specs.declared.sps.TheConstants.{sps_alf_enabled_flag}
use Rattle.vx_ph.specs.declared.tables.TheConstants.{ALF}
use Rattle.vx_ph.specs.Filter.{filter_of}
use Rattle.vx_sh.specs.Value.{AreFields}
use Rattle.vx_sh.specs.Whole.{At}

-- It goes through under the sets of the slice, if it is in the slice header.
abbrev pub SliceHasFilter : Type 0
SliceHasFilter = (n : At) (fields : List Item) (inside : List ℤ) → AreFields n fields inside → length n.slice ≡ 1024
    → is_set (slice_index n.slice sps_alf_enabled_flag) ≡ true → slice_index n.slice pps_alf_info_in_ph_flag ≡ 0
    → Takes (form_of ALF n.slice) (filter_of fields)
