-- The sets of generated streams are what their units spell.
use Rattle.std.proofs.Common.{◌≡◌, ℤ, true, List, drop, refl}
use Rattle.vx_bits.specs.Codes.{bits_of, exp_golomb, fixed, leading_zeros, magnitude}
use Rattle.vx_pps.specs.Items.{values_in}
use Rattle.vx_sps.specs.Set as sps_set
use Rattle.vx_sps.specs.Structure.{sps_form}
use Rattle.vx_table.specs.Forms.{after, coding_at, form_of, has_value, limits_at, one_field, part, present, turns}
use Rattle.vx_table.specs.Parts.{sections_form}
use Rattle.vx_table.specs.Scope.{fresh, natural, powers_below, value}
use Rattle.vx_table.specs.Spelling.{code_of, fault_of, item_of, items_along}
use Rattle.vx_table.specs.Values.{bits_along}
use Rattle.vx_gen.specs.Units as units
use Rattle.vx_gen.specs.Pictures.{generated_sps}
use Rattle.vx_gen.proofs.Testing.{are_values, they_follow}

abbrev sps_values : List ℤ
sps_values = values_in sps_form generated_sps

sps_goes : are_values sps_form sps_values ≡ true
unfolding fresh natural powers_below value after coding_at form_of has_value limits_at one_field part present turns sections_form fault_of
sps_goes = refl

sps_are : generated_sps ≡ items_along sps_form sps_values
unfolding fresh natural powers_below value after coding_at form_of has_value limits_at one_field part present turns sections_form item_of
sps_are = refl

sps_bits : bits_of (drop 2 units.sps) ≡ bits_along sps_form 0 sps_values
unfolding fresh natural powers_below value after coding_at form_of has_value limits_at one_field part present turns sections_form code_of exp_golomb fixed leading_zeros magnitude
sps_bits = refl

pub sps_spelled : sps_set.IsSpsSpelling generated_sps (drop 2 units.sps)
sps_spelled =
    let on = they_follow sps_form sps_values sps_goes in
    record { set = record { values = sps_values; end = on.0; follows = on.1; all = sps_are }; bits = sps_bits }
