-- The headers of generated streams go through their forms, and are what the fronts of slices spell.
use Rattle.std.proofs.Common.{◌≡◌, ℕ, ◌+◌, ◌*◌, ◌/◌, ◌%◌, ◌<◌, ◌&&◌, Bool, true, List, [], ◌∷◌, ◌++◌, length, drop, refl}
use Rattle.vx_bits.specs.Codes.{bits_of, exp_golomb, fixed, leading_zeros, magnitude}
use Rattle.vx_bits.specs.declared.list.Item.{Item}
use Rattle.vx_pps.specs.Items.{values_in}
use Rattle.vx_table.specs.Forms.{Form, after, coding_at, form_of, has_value, limits_at, one_field, part, present, turns}
use Rattle.vx_table.specs.Parts.{sections_form}
use Rattle.vx_table.specs.Scope.{fresh, natural, powers_below, value}
use Rattle.vx_table.specs.Spelling.{code_of, fault_of, item_of, items_along}
use Rattle.vx_table.specs.laws.Trailing.{is_trailing}
use Rattle.vx_table.specs.Values.{bits_along}
use Rattle.vx_rpl.specs.Resolved.{table_of}
use Rattle.vx_ph.specs.Header.{ph_before_weights, header_form}
use Rattle.vx_ph.specs.InForce.{both_sets, in_force, structures}
use Rattle.vx_gen.specs.Pictures.{idr_header, generated_pps, generated_sps, trailing_header}
use Rattle.vx_gen.proofs.Below.{below_16}
use Rattle.vx_gen.proofs.Testing.{are_open, are_values}

-- the form of a picture header under the sets
abbrev pub header_at : ℕ → Form (List ℕ)
header_at k = header_form (structures generated_sps) (in_force generated_sps (generated_pps k))

-- the bits of a slice's front behind the first
abbrev pub behind_first : List ℕ → List Bool
behind_first front = drop 1 (bits_of front)

-- these items are those of values that go through the form, and the bits begin with their spelling
pub record Begins (form : Form (List ℕ)) (items : List Item) (front : List Bool) : Type 0 where
  pub goes : (are_values form (values_in form items) && are_open form (values_in form items)) ≡ true
  pub all : items ≡ items_along form (values_in form items)
  pub bits : front ≡ bits_along form 1 (values_in form items) ++ drop (length (bits_along form 1 (values_in form items))) front

-- ---- of an IDR picture

abbrev pub idr_front : List ℕ
idr_front = 196 ∷ 24 ∷ []

pub idr_begins : (k : ℕ) → Begins (header_at k) idr_header (behind_first idr_front)
unfolding fresh natural powers_below value after coding_at form_of has_value limits_at one_field part present turns sections_form fault_of item_of code_of is_trailing exp_golomb fixed leading_zeros magnitude table_of ph_before_weights header_form both_sets in_force
idr_begins k = record { goes = refl; all = refl; bits = refl }

-- up to the id
abbrev pub idr_to_id : List Item
idr_to_id = idr_header

-- ---- of a trailing picture

abbrev pub trailing_front : ℕ → List ℕ
trailing_front l = (136 + l / 2) ∷ (120 + 128 * (l % 2)) ∷ []

Goes : ℕ → Type 0
Goes l = (k : ℕ) → Begins (header_at k) (trailing_header l) (behind_first (trailing_front l))

pub trailing_begins : (l : ℕ) → l < 16 → (k : ℕ) → Begins (header_at k) (trailing_header l) (behind_first (trailing_front l))
unfolding Goes fresh natural powers_below value after coding_at form_of has_value limits_at one_field part present turns sections_form fault_of item_of code_of is_trailing exp_golomb fixed leading_zeros magnitude table_of ph_before_weights header_form both_sets in_force
trailing_begins =
    below_16 Goes
    (λ k. record { goes = refl; all = refl; bits = refl })
    (λ k. record { goes = refl; all = refl; bits = refl })
    (λ k. record { goes = refl; all = refl; bits = refl })
    (λ k. record { goes = refl; all = refl; bits = refl })
    (λ k. record { goes = refl; all = refl; bits = refl })
    (λ k. record { goes = refl; all = refl; bits = refl })
    (λ k. record { goes = refl; all = refl; bits = refl })
    (λ k. record { goes = refl; all = refl; bits = refl })
    (λ k. record { goes = refl; all = refl; bits = refl })
    (λ k. record { goes = refl; all = refl; bits = refl })
    (λ k. record { goes = refl; all = refl; bits = refl })
    (λ k. record { goes = refl; all = refl; bits = refl })
    (λ k. record { goes = refl; all = refl; bits = refl })
    (λ k. record { goes = refl; all = refl; bits = refl })
    (λ k. record { goes = refl; all = refl; bits = refl })
    (λ k. record { goes = refl; all = refl; bits = refl })
