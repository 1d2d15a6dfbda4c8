-- The PPS of a generated stream is what its unit spells.
use Rattle.std.proofs.Common.{◌≡◌, ℕ, ℤ, ◌<◌, true, List, drop, refl}
use Rattle.vx_bits.specs.Codes.{bits_of, exp_golomb, fixed, leading_zeros, magnitude}
use Rattle.vx_pps.specs.Items.{values_in}
use Rattle.vx_pps.specs.Partition.{partition}
use Rattle.vx_pps.specs.Pps as pps_set
use Rattle.vx_pps.specs.Pps.{pps_form}
use Rattle.vx_table.specs.Forms.{after, coding_at, form_of, has_value, limits_at, one_field, part, present, turns}
use Rattle.vx_table.specs.Parts.{sections_form}
use Rattle.vx_table.specs.Scope.{fresh, natural, powers_below, value}
use Rattle.vx_table.specs.Spelling.{code_of, fault_of, item_of, items_along}
use Rattle.vx_table.specs.Values.{bits_along}
use Rattle.vx_gen.specs.Units as units
use Rattle.vx_gen.specs.Pictures.{generated_pps}
use Rattle.vx_gen.proofs.Below.{below_16}
use Rattle.vx_gen.proofs.Testing.{are_values, they_follow}

abbrev pps_values : ℕ → List ℤ
pps_values k = values_in pps_form (generated_pps k)

Goes : ℕ → Type 0
Goes k = are_values pps_form (pps_values k) ≡ true

Spells : ℕ → Type 0
Spells k = bits_of (drop 2 (units.pps k)) ≡ bits_along pps_form 0 (pps_values k)

goes : (k : ℕ) → k < 16 → Goes k
unfolding Goes fresh natural powers_below value after coding_at form_of has_value limits_at one_field part present turns sections_form fault_of pps_form partition
goes = below_16 Goes refl refl refl refl refl refl refl refl refl refl refl refl refl refl refl refl

spells : (k : ℕ) → k < 16 → Spells k
unfolding Spells fresh natural powers_below value after coding_at form_of has_value limits_at one_field part present turns sections_form code_of exp_golomb fixed leading_zeros magnitude pps_form partition
spells = below_16 Spells refl refl refl refl refl refl refl refl refl refl refl refl refl refl refl refl

are : (k : ℕ) → items_along pps_form (pps_values k) ≡ generated_pps k
unfolding fresh natural powers_below value after coding_at form_of has_value limits_at one_field part present turns sections_form item_of pps_form partition
are k = refl

pub pps_spelled : (k : ℕ) → k < 16 → pps_set.IsPpsSpelling (generated_pps k) (drop 2 (units.pps k))
unfolding Goes Spells
pps_spelled k low =
    let on = they_follow pps_form (pps_values k) (goes k low) in
    record { is = record { end = on.0; set = record { values = pps_values k; follows = on.1; given = are k } }; bits = spells k low }
