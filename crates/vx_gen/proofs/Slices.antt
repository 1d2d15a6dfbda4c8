-- The slice headers of generated streams are what the fronts of slices spell.
use Rattle.std.proofs.Common.{◌≡◌, ℕ, ℤ, pos, ◌<◌, true, List, [], ◌∷◌, drop, slice_set, None, refl, arith}
use Rattle.std.proofs.lemmas.Bool.{and_parts}
use Rattle.vx_bits.specs.Codes.{EndsInNoZero, bits_of, exp_golomb, fixed, leading_zeros, magnitude}
use Rattle.vx_bits.specs.declared.list.Item.{Item}
use Rattle.vx_fields.specs.declared.sh.TheConstants.{sh_picture_header_in_slice_header_flag}
use Rattle.vx_layout.specs.Rects.{fits}
use Rattle.vx_pps.specs.Items.{values_in}
use Rattle.vx_rpl.specs.HeaderLists.{behind_list_0, list_0, list_1, list_of, lists_of}
use Rattle.vx_rpl.specs.Lists.{begun, choice_form, chosen_form, first_form, list_form, lists_form, picked, second_form}
use Rattle.vx_rpl.specs.Resolved.{table_of}
use Rattle.vx_table.specs.Forms.{Form, done, after, coding_at, form_of, has_value, limits_at, one_field, part, present, turns}
use Rattle.vx_table.specs.Parts.{sections_form}
use Rattle.vx_table.specs.Scope.{fresh, natural, powers_below, value}
use Rattle.vx_table.specs.Spelling.{code_of, fault_of, item_of}
use Rattle.vx_table.specs.Values.{to_end, through, bits_along}
use Rattle.vx_table.proofs.Joined.{joined}
use Rattle.vx_ph.specs.Header as ph
use Rattle.vx_ph.specs.Header.{header_form}
use Rattle.vx_ph.specs.InForce.{both_sets, in_force, structures}
use Rattle.vx_sh.specs.declared.header.SliceHeader.{SliceHeader}
use Rattle.vx_sh.specs.Slice.{address_form, sh_before_weights, front_form, rest_form, with_entry_points}
use Rattle.vx_sh.specs.Value.{IsSliceOf, IsSliceHeaderSpelling, TellsNumbers, values_of}
use Rattle.vx_sh.specs.Whole.{At, behind_header, subpic_id_form, located, points_at, slice_form, subpic_form}
use Rattle.vx_pic.specs.PictureLayout.{ids_of}
use Rattle.vx_pic.specs.Readings.{Begun}
use Rattle.vx_pic.specs.UnderSets.{at_slice_of}
use Rattle.vx_gen.specs.Pictures.{idr_header, idr_slice, layout, generated_pps, generated_sps, trailing_header, trailing_slice}
use Rattle.vx_gen.proofs.Below.{below_16}
use Rattle.vx_gen.proofs.Clear.{last_nonzero}
use Rattle.vx_gen.proofs.Headers.{header_at, idr_begins, idr_front, trailing_begins, trailing_front}
use Rattle.vx_gen.proofs.Testing.{are_open, are_values, they_follow, value_is}

-- a picture that is begun with this header
abbrev pub under : ℕ → List Item → Begun
under k header = record { sps = generated_sps; pps = generated_pps k; layout = layout; header = header; temporal_id = 0; unit = None }

-- its slice's header, as a value
abbrev pub header_value : ℕ → List Item → SliceHeader
header_value k fields = record { inside = true; fields = fields; subpic = 0; address = 0; lists = lists_of (structures generated_sps) (in_force generated_sps (generated_pps k)) fields }

-- behind the first flag
abbrev at_of : At → List ℕ
at_of n = slice_set n.slice sh_picture_header_in_slice_header_flag 1

-- the form behind the picture header
abbrev rest_at : At → Form (List ℕ)
rest_at n = behind_header n.table n.ids n.layout (at_of n)

abbrev rest_values : At → List Item → List ℤ
rest_values n fields = values_in (rest_at n) (drop 1 fields)

-- ---- of an IDR picture

abbrev idr_at : ℕ → At
idr_at k = at_slice_of 8 (under k idr_header)

idr_rest : (k : ℕ) → are_values (rest_at (idr_at k)) (rest_values (idr_at k) idr_slice) ≡ true
unfolding fresh natural powers_below value after coding_at form_of has_value limits_at one_field part present turns sections_form fault_of table_of both_sets in_force located subpic_id_form subpic_form points_at behind_header with_entry_points address_form front_form sh_before_weights rest_form lists_of list_0 list_1 list_of behind_list_0 ids_of fits
idr_rest k = refl

pub idr_tells : (k : ℕ) → TellsNumbers (idr_at k) (header_value k idr_slice)
unfolding fresh natural ids_of
idr_tells k = record { inside = refl; subpic = refl; address = refl; lists = refl }

idr_is : (k : ℕ) → IsSliceOf (idr_at k) idr_slice idr_header
unfolding fresh natural powers_below value after coding_at form_of has_value limits_at one_field part present turns sections_form fault_of item_of table_of both_sets in_force located subpic_id_form subpic_form points_at behind_header with_entry_points address_form front_form sh_before_weights rest_form lists_of list_0 list_1 list_of behind_list_0 ids_of fits ph.ph_before_weights header_form
idr_is k =
    let inside : List ℤ = values_in (header_at k) idr_header in
    let header = they_follow (header_at k) inside (and_parts (are_values (header_at k) inside) (are_open (header_at k) inside) (idr_begins k).goes).0 in
    let rest = they_follow (rest_at (idr_at k)) (rest_values (idr_at k) idr_slice) (idr_rest k) in
    record {
      inside = inside;
      slice = record {
        first = pos 1 ∷ [];
        behind = rest_values (idr_at k) idr_slice;
        at = at_of (idr_at k);
        end = rest.0;
        begins = through (value_is _ (pos 1) refl) to_end;
        goes_on = joined (λ t. done (at_of (idr_at k))) header.1 to_end;
        ends = rest.1;
        all = refl;
      };
      others = [];
      given = refl;
    }

pub idr_spelled : (k : ℕ) → IsSliceHeaderSpelling (idr_at k) idr_slice idr_header idr_front
unfolding idr_is fresh natural powers_below value after coding_at form_of has_value limits_at one_field part present turns sections_form code_of exp_golomb fixed leading_zeros magnitude table_of both_sets in_force located subpic_id_form subpic_form points_at behind_header with_entry_points address_form front_form sh_before_weights rest_form lists_of list_0 list_1 list_of behind_list_0 ids_of fits ph.ph_before_weights header_form slice_form
idr_spelled k = record { is = idr_is k; bits = refl; last = last_nonzero idr_front refl }

-- ---- of a trailing picture

abbrev trailing_at : ℕ → ℕ → At
trailing_at k l = at_slice_of 0 (under k (trailing_header l))

trailing_rest : (k l : ℕ) → are_values (rest_at (trailing_at k l)) (rest_values (trailing_at k l) trailing_slice) ≡ true
unfolding fresh natural powers_below value after coding_at form_of has_value limits_at one_field part present turns sections_form fault_of table_of both_sets in_force located subpic_id_form subpic_form points_at behind_header with_entry_points address_form front_form sh_before_weights rest_form lists_of list_0 list_1 list_of behind_list_0 ids_of fits picked begun choice_form chosen_form list_form first_form second_form lists_form
trailing_rest k l = refl

pub trailing_tells : (k l : ℕ) → TellsNumbers (trailing_at k l) (header_value k trailing_slice)
unfolding fresh natural ids_of
trailing_tells k l = record { inside = refl; subpic = refl; address = refl; lists = refl }

trailing_is : (k l : ℕ) → l < 16 → IsSliceOf (trailing_at k l) trailing_slice (trailing_header l)
unfolding fresh natural powers_below value after coding_at form_of has_value limits_at one_field part present turns sections_form fault_of item_of table_of both_sets in_force located subpic_id_form subpic_form points_at behind_header with_entry_points address_form front_form sh_before_weights rest_form lists_of list_0 list_1 list_of behind_list_0 ids_of fits ph.ph_before_weights header_form picked begun choice_form chosen_form list_form first_form second_form lists_form
trailing_is k l low =
    let inside : List ℤ = values_in (header_at k) (trailing_header l) in
    let header = they_follow (header_at k) inside (and_parts (are_values (header_at k) inside) (are_open (header_at k) inside) (trailing_begins l low k).goes).0 in
    let rest = they_follow (rest_at (trailing_at k l)) (rest_values (trailing_at k l) trailing_slice) (trailing_rest k l) in
    record {
      inside = inside;
      slice = record {
        first = pos 1 ∷ [];
        behind = rest_values (trailing_at k l) trailing_slice;
        at = at_of (trailing_at k l);
        end = rest.0;
        begins = through (value_is _ (pos 1) refl) to_end;
        goes_on = joined (λ t. done (at_of (trailing_at k l))) header.1 to_end;
        ends = rest.1;
        all = refl;
      };
      others = [];
      given = refl;
    }

Spelled : ℕ → Type 0
Spelled l = (k : ℕ) (low : l < 16) → bits_of (trailing_front l) ≡ bits_along (slice_form (trailing_at k l)) 0 (values_of (trailing_is k l low).slice)

trailing_bits : (l : ℕ) → l < 16 → Spelled l
unfolding Spelled trailing_is fresh natural powers_below value after coding_at form_of has_value limits_at one_field part present turns sections_form code_of exp_golomb fixed leading_zeros magnitude table_of both_sets in_force located subpic_id_form subpic_form points_at behind_header with_entry_points address_form front_form sh_before_weights rest_form lists_of list_0 list_1 list_of behind_list_0 ids_of fits ph.ph_before_weights header_form slice_form picked begun choice_form chosen_form list_form first_form second_form lists_form
trailing_bits =
    below_16 Spelled (λ k low. refl) (λ k low. refl) (λ k low. refl) (λ k low. refl) (λ k low. refl) (λ k low. refl) (λ k low. refl) (λ k low. refl)
    (λ k low. refl) (λ k low. refl) (λ k low. refl) (λ k low. refl) (λ k low. refl) (λ k low. refl) (λ k low. refl) (λ k low. refl)

front_ends : (l : ℕ) → EndsInNoZero (trailing_front l)
front_ends l n size none = let one : n ≡ 1 = omega (arith, size) in let last = rw one at none in absurd (omega (arith, last))

pub trailing_spelled : (k l : ℕ) → l < 16 → IsSliceHeaderSpelling (trailing_at k l) trailing_slice (trailing_header l) (trailing_front l)
unfolding Spelled
trailing_spelled k l low = record { is = trailing_is k l low; bits = trailing_bits l low k low; last = front_ends l }
