-- The classes of NAL unit types in the code, related to their definition.
use Rattle.std.specs.Prelude.{ℕ, ◌==◌, cond}
use Rattle.vx_pic.specs.declared.unit_types.TheConstants as types
use Rattle.vx_pic.specs.Units.{is_slice_type, is_end_type, Class, other_unit, vps_unit, sps_unit, pps_unit, prefix_aps, suffix_aps}
use Rattle.vx_pic.specs.Units.{header_unit, slice_unit, end_unit, sei_unit}
use Rattle.vx_assemble.specs.declared.unit.UnitClass.{UnitClass}
use Rattle.vx_assemble.specs.declared.unit.UnitClass.TheVariants as classes

abbrev pub class_seen : UnitClass → Class
class_seen classes.Other = other_unit
class_seen classes.Vps = vps_unit
class_seen classes.Sps = sps_unit
class_seen classes.Pps = pps_unit
class_seen classes.PrefixAps = prefix_aps
class_seen classes.SuffixAps = suffix_aps
class_seen classes.Header = header_unit
class_seen classes.Slice = slice_unit
class_seen classes.End = end_unit
class_seen classes.Sei = sei_unit

-- The types that are none of those of sets and headers.
abbrev pub class_behind_sets : ℕ → Class
class_behind_sets t =
    cond (is_slice_type t) slice_unit (cond (is_end_type t) end_unit (cond (t == types.PREFIX_SEI_NUT) sei_unit other_unit))
