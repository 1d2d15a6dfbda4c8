-- Values that are written out go through a form that computes: each is one that its field may have, as shown or as tested.
use Rattle.std.proofs.Common.{◌≡◌, ℕ, ℤ, pos, negsuc, zero, suc, ◌+◌, ◌^◌, true, false, ◌&&◌, List, [], ◌∷◌, Option, Some, None, refl}
use Rattle.std.specs.Prelude.{Bool, nat_lt}
use Rattle.std.proofs.lemmas.Bool.{and_parts, ltb-true}
use Rattle.vx_table.specs.declared.rows.Coding.{Coding}
use Rattle.vx_table.specs.declared.rows.Coding.TheVariants.{Fixed, Golomb, SignedGolomb, Zeros, OneAndZeros, Trailing, Absent, Refused}
use Rattle.vx_table.specs.declared.rows.Fault.{Fault}
use Rattle.vx_table.specs.declared.rows.Cell.{Cell}
use Rattle.vx_table.specs.Forms.{Form, done, field}
use Rattle.vx_table.specs.Spelling.{HasCode, fault_of, items_along}
use Rattle.vx_table.specs.Values.{IsValueOf, Follows, to_end, through}
use Rattle.vx_table.specs.Rewrites.{Takes}
use Rattle.vx_bits.specs.declared.list.Item.{Item}
use Rattle.vx_sps.proofs.Stages.{TakesTo}

abbrev pub is_zero : ℤ → Bool
is_zero (pos zero) = true
is_zero (pos (suc n)) = false
is_zero (negsuc n) = false

abbrev pub is_coded : Coding ℕ → ℤ → Bool
is_coded (Fixed n) (pos v) = nat_lt v (2 ^ n)
is_coded Golomb (pos v) = nat_lt (v + 1) (2 ^ 32)
is_coded Zeros v = is_zero v
is_coded coding v = false

abbrev pub is_none : Option Fault → Bool
is_none None = true
is_none (Some fault) = false

abbrev pub is_value : Cell ℕ → ℤ → Bool
is_value cell v = is_coded cell.coding v && is_none (fault_of cell.limits v)

abbrev pub are_values : Form (List ℕ) → List ℤ → Bool
are_values (done s) [] = true
are_values (done s) (v ∷ w) = false
are_values (field cell goes) [] = false
are_values (field cell goes) (v ∷ w) = is_value cell v && are_values (goes v) w

zero_is : (v : ℤ) → is_zero v ≡ true → v ≡ pos 0
zero_is (pos zero) h = refl
zero_is (pos (suc n)) h = absurd (cc)
zero_is (negsuc n) h = absurd (cc)

coded : (coding : Coding ℕ) (v : ℤ) → is_coded coding v ≡ true → HasCode coding v
unfolding HasCode
coded (Fixed n) (pos v) h = ltb-true v (2 ^ n) h
coded (Fixed n) (negsuc v) h = absurd (cc)
coded Golomb (pos v) h = ltb-true (v + 1) (2 ^ 32) h
coded Golomb (negsuc v) h = absurd (cc)
coded SignedGolomb v h = absurd (cc)
coded Zeros v h = zero_is v h
coded OneAndZeros v h = absurd (cc)
coded Trailing v h = absurd (cc)
coded Absent v h = absurd (cc)
coded Refused v h = absurd (cc)

none_is : (fault : Option Fault) → is_none fault ≡ true → fault ≡ None
none_is None h = refl
none_is (Some fault) h = absurd (cc)

pub value_is : (cell : Cell ℕ) (v : ℤ) → is_value cell v ≡ true → IsValueOf cell v
value_is cell v h =
    let parts = and_parts (is_coded cell.coding v) (is_none (fault_of cell.limits v)) h in
    record { code = coded cell.coding v parts.0; range = none_is (fault_of cell.limits v) parts.1 }

-- Values that go through a form, to an end of which a fact holds.
pub data Valued (P : List ℕ → Type 0) : Form (List ℕ) → List ℤ → Type 0 where
  at_end : {s : List ℕ} → P s → Valued P (done s) []
  owed : {cell : Cell ℕ} {goes : ℤ → Form (List ℕ)} {v : ℤ} {w : List ℤ} → HasCode cell.coding v → fault_of cell.limits v ≡ None → Valued P (goes v) w → Valued P (field cell goes) (v ∷ w)
  tested : {cell : Cell ℕ} {goes : ℤ → Form (List ℕ)} {v : ℤ} {w : List ℤ} → is_value cell v ≡ true → Valued P (goes v) w → Valued P (field cell goes) (v ∷ w)
  all_tested : {form : Form (List ℕ)} {w : List ℤ} → are_values form w ≡ true → ((s : List ℕ) → P s) → Valued P form w

EndsIn : Form (List ℕ) → List ℤ → (List ℕ → Type 0) → Type 0
EndsIn form values P = (end : List ℕ) × Follows form values end × P end

all_end : (P : List ℕ → Type 0) (form : Form (List ℕ)) (values : List ℤ) → are_values form values ≡ true → ((s : List ℕ) → P s) → EndsIn form values P
unfolding EndsIn
all_end P (done s) [] h holds = (s, to_end, holds s)
all_end P (done s) (v ∷ w) h holds = absurd (cc)
all_end P (field cell goes) [] h holds = absurd (cc)
all_end P (field cell goes) (v ∷ w) h holds =
    let parts = and_parts (is_value cell v) (are_values (goes v) w) h in
    let more = all_end P (goes v) w parts.1 holds in
    (more.0, through (value_is cell v parts.0) more.1, more.2)

values_end : {P : List ℕ → Type 0} {form : Form (List ℕ)} {values : List ℤ} → Valued P form values → EndsIn form values P
unfolding EndsIn
values_end (at_end {s} here) = (s, to_end, here)
values_end (owed code range rest) = let more = values_end rest in (more.0, through (record { code = code; range = range }) more.1, more.2)
values_end (tested {cell} {goes} {v} h rest) = let more = values_end rest in (more.0, through (value_is cell v h) more.1, more.2)
values_end {P} (all_tested {form} {w} h holds) = all_end P form w h holds

pub values_take_to : (form : Form (List ℕ)) (values : List ℤ) (items : List Item) (P : List ℕ → Type 0) → Valued P form values → items_along form values ≡ items → TakesTo form items P
unfolding EndsIn
values_take_to form values items P are same =
    let on = values_end are in
    record { takes = record { values = values; end = on.0; follows = on.1; all = same }; at_end = on.2 }

abbrev pub Anywhere : List ℕ → Type 0
Anywhere s = Unit {0}

pub they_take : (form : Form (List ℕ)) (values : List ℤ) (items : List Item) → Valued Anywhere form values → items_along form values ≡ items → Takes form items
they_take form values items are same = (values_take_to form values items Anywhere are same).takes
