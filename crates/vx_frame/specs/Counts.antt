-- How many ids each type of sets has, from 0 up.
use Rattle.std.specs.Prelude.{ℕ}

-- How many ids a type has (H.266 7.4.3.5, 7.4.3.6).
abbrev pub pps_slots : ℕ
pps_slots = 64

abbrev pub alf_slots : ℕ
alf_slots = 8

abbrev pub lmcs_slots : ℕ
lmcs_slots = 4

abbrev pub scaling_slots : ℕ
scaling_slots = 8
