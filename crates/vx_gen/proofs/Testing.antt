-- Values that go through a form which computes.
use Rattle.std.proofs.Common.{◌≡◌, ℕ, ℤ, pos, negsuc, zero, suc, ◌+◌, ◌^◌, true, false, ◌&&◌, List, [], ◌∷◌, Option, Some, None, refl}
use Rattle.std.specs.Prelude.{Bool, not, nat_lt, ◌++◌, length}
use Rattle.std.proofs.lemmas.Bool.{and_parts, ltb-true}
use Rattle.vx_bits.specs.Codes.{code_number}
use Rattle.vx_table.specs.declared.rows.Coding.{Coding}
use Rattle.vx_table.specs.declared.rows.Coding.TheVariants.{Fixed, Golomb, SignedGolomb, Zeros, OneAndZeros, Trailing, Absent, Refused}
use Rattle.vx_table.specs.declared.rows.Fault.{Fault}
use Rattle.vx_table.specs.declared.rows.Cell.{Cell}
use Rattle.vx_table.specs.Forms.{Form, done, field}
use Rattle.vx_table.specs.Spelling.{HasCode, MayEnd, code_of, fault_of}
use Rattle.vx_table.specs.laws.Trailing.{is_trailing}
use Rattle.vx_table.specs.Values.{IsValueOf, Follows, to_end, through, bits_along, Closes}

abbrev pub is_zero : ℤ → Bool
is_zero (pos zero) = true
is_zero (pos (suc n)) = false
is_zero (negsuc n) = false

abbrev pub is_coded : Coding ℕ → ℤ → Bool
is_coded (Fixed n) (pos v) = nat_lt v (2 ^ n)
is_coded (Fixed n) (negsuc v) = false
is_coded Golomb (pos v) = nat_lt (v + 1) (2 ^ 32)
is_coded Golomb (negsuc v) = false
is_coded SignedGolomb v = nat_lt (code_number v + 1) (2 ^ 32)
is_coded Zeros v = is_zero v
is_coded OneAndZeros v = is_zero v
is_coded Trailing v = is_zero v
is_coded Absent v = is_zero v
is_coded Refused v = false

abbrev pub is_none : Option Fault → Bool
is_none None = true
is_none (Some fault) = false

abbrev pub is_value : Cell ℕ → ℤ → Bool
is_value cell v = is_coded cell.coding v && is_none (fault_of cell.limits v)

-- the values go through the form
abbrev pub are_values : {A : Type 0} → Form A → List ℤ → Bool
are_values (done s) [] = true
are_values (done s) (v ∷ w) = false
are_values (field cell goes) [] = false
are_values (field cell goes) (v ∷ w) = is_value cell v && are_values (goes v) w

zero_is : (v : ℤ) → is_zero v ≡ true → v ≡ pos 0
zero_is (pos zero) h = refl
zero_is (pos (suc n)) h = absurd (cc)
zero_is (negsuc n) h = absurd (cc)

coded : (coding : Coding ℕ) (v : ℤ) → is_coded coding v ≡ true → HasCode coding v
unfolding HasCode
coded (Fixed n) (pos v) h = ltb-true v (2 ^ n) h
coded (Fixed n) (negsuc v) h = absurd (cc)
coded Golomb (pos v) h = ltb-true (v + 1) (2 ^ 32) h
coded Golomb (negsuc v) h = absurd (cc)
coded SignedGolomb v h = ltb-true (code_number v + 1) (2 ^ 32) h
coded Zeros v h = zero_is v h
coded OneAndZeros v h = zero_is v h
coded Trailing v h = zero_is v h
coded Absent v h = zero_is v h
coded Refused v h = absurd (cc)

none_is : (fault : Option Fault) → is_none fault ≡ true → fault ≡ None
none_is None h = refl
none_is (Some fault) h = absurd (cc)

pub value_is : (cell : Cell ℕ) (v : ℤ) → is_value cell v ≡ true → IsValueOf cell v
value_is cell v h =
    let parts = and_parts (is_coded cell.coding v) (is_none (fault_of cell.limits v)) h in
    record { code = coded cell.coding v parts.0; range = none_is (fault_of cell.limits v) parts.1 }

-- to an end
pub they_follow : {A : Type 0} (form : Form A) (values : List ℤ) → are_values form values ≡ true → (end : A) × Follows form values end
they_follow (done s) [] h = (s, to_end)
they_follow (done s) (v ∷ w) h = absurd (cc)
they_follow (field cell goes) [] h = absurd (cc)
they_follow (field cell goes) (v ∷ w) h =
    let parts = and_parts (is_value cell v) (are_values (goes v) w) h in
    let more = they_follow (goes v) w parts.1 in
    (more.0, through (value_is cell v parts.0) more.1)

-- ---- anything may follow

-- no value is that of a trailing
abbrev pub are_open : {A : Type 0} → Form A → List ℤ → Bool
are_open (done s) w = true
are_open (field cell goes) [] = true
are_open (field cell goes) (v ∷ w) = not (is_trailing cell.coding) && are_open (goes v) w

may_end : (coding : Coding ℕ) (rest : List Bool) → not (is_trailing coding) ≡ true → MayEnd coding rest
unfolding MayEnd is_trailing
may_end (Fixed n) rest h = tt
may_end Golomb rest h = tt
may_end SignedGolomb rest h = tt
may_end Zeros rest h = tt
may_end OneAndZeros rest h = tt
may_end Trailing rest h = absurd (cc)
may_end Absent rest h = tt
may_end Refused rest h = tt

pub they_close : {A : Type 0} (form : Form A) (place : ℕ) (values : List ℤ) (rest : List Bool) → are_open form values ≡ true → Closes form place values rest
they_close (done s) place w rest h = tt
they_close (field cell goes) place [] rest h = tt
they_close (field cell goes) place (v ∷ w) rest h =
    let parts = and_parts (not (is_trailing cell.coding)) (are_open (goes v) w) h in
    let on : ℕ = place + length (code_of cell.coding place v) in
    (may_end cell.coding (bits_along (goes v) on w ++ rest) parts.0, they_close (goes v) on w rest parts.1)
