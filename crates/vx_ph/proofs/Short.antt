-- No spelling of a picture header is long.
use Rattle.std.proofs.Common.{◌≡◌, ℕ, ℤ, pos, negsuc, zero, suc, ◌+◌, ◌≤◌, ◌==◌, Bool, List, [], ◌∷◌, length, replicate, slice_get, slice_index, slice_set, take, Option, None, Some, refl, ap, subst, ◌∙◌, inl, inr, arith}
use Rattle.std.specs.Prelude.{filter}
use Rattle.std.proofs.lemmas.Bool.{cases_Bool, cases_eq, cases_lt}
use Rattle.std.proofs.lemmas.List.{length-append, length-take}
use Rattle.vx_bits.specs.declared.list.Item.{Item}
use Rattle.vx_bits.proofs.Bits.{length-bits_of}
use Rattle.vx_table.specs.declared.rows.Coding.TheVariants.{Trailing}
use Rattle.vx_table.specs.declared.rows.Formula.TheVariants.{Plain}
use Rattle.vx_table.specs.declared.rows.Presence.TheVariants.{When}
use Rattle.vx_table.specs.declared.rows.Term.TheVariants.{Latest}
use Rattle.vx_table.specs.Forms.{◌>>=◌, after, coding_at, form_of, has_value, limits_at, one_field, part}
use Rattle.vx_table.specs.Parts.{sections_form}
use Rattle.vx_table.specs.Scope.{fresh, loaded, most, natural}
use Rattle.vx_table.specs.laws.Sizes.{EachSpelling, IsShort, IsWithin, code_bits, greatest_coded, greatest_ranged, greatest_value, most_turns, part_bits, presence_keeps, row_keeps, table_bits}
use Rattle.vx_table.specs.Values.{Follows, bits_along, through, to_end}
use Rattle.vx_table.specs.Spelling.{code_of}
use Rattle.vx_table.specs.Loaded.{number}
use Rattle.vx_table.proofs.Loading.{no_number, set_below}
use Rattle.vx_table.proofs.Joined.{bits_joined, parted}
use Rattle.vx_table.proofs.Sizes.{coded_most, short_present, short_then}
use Rattle.vx_fields.specs.declared.names.ph.TheConstants.{EXTRA_PH_BITS, HAS_WEIGHTS}
use Rattle.vx_fields.specs.declared.pps.TheConstants.{pps_pic_parameter_set_id, pps_rpl_info_in_ph_flag}
use Rattle.vx_fields.specs.declared.rpl.TheConstants.{num_ref_entries}
use Rattle.vx_fields.specs.declared.sps.TheConstants.{sps_num_ref_pic_lists}
use Rattle.vx_rpl.specs.declared.entry.RplTable.{RplTable}
use Rattle.vx_rpl.specs.declared.entry.Structure.{Structure}
use Rattle.vx_rpl.specs.Resolved.{behind_second, entries_from, is_of_table, past, second_or_first, structure_of, structures_behind, structures_from, table_of}
use Rattle.vx_rpl.specs.Lists.{lists_form, weights, weights_form}
use Rattle.vx_sps.specs.Set.{is_weighted}
use Rattle.vx_ph.specs.declared.tables.TheConstants.{TRAILING}
use Rattle.vx_ph.specs.Depends.{all_of_sets, of_header}
use Rattle.vx_ph.specs.Header.{back, ph_before_weights, ph_before_lists, header_form, lists_if_present, middle, weights_if_present}
use Rattle.vx_ph.specs.Picture.{unit_form}
use Rattle.vx_ph.specs.laws.Sizes.{AreFew, IsBounded, SetsAreBounded, SpellingIsShort}
use Rattle.vx_ph.proofs.Carrying.{all_depend}
use Rattle.vx_ph.proofs.Bounding.{bound_by, sections_few, within_none, within_one}
use Rattle.vx_ph.proofs.Copied.{few_by_given}
use Rattle.vx_ph.proofs.Passing.{shows_all}
use Rattle.vx_ph.proofs.Sets.{in_force_length, of_extra, of_pps, of_sps}
use Rattle.vx_ph.proofs.ShortLists.{bounds, lists_few}

-- ---- a header at a scope whose numbers keep the bounds

front_few : (s : List ℕ) → IsWithin bounds s → IsShort bounds 3000 (sections_form ph_before_lists s)
unfolding table_bits part_bits most_turns code_bits row_keeps presence_keeps greatest_coded greatest_ranged greatest_value has_value
front_few s within = sections_few bounds 3000 ph_before_lists s refl (omega arith) within

middle_few : (s : List ℕ) → IsWithin bounds s → IsShort bounds 3000 (sections_form middle s)
unfolding table_bits part_bits most_turns code_bits row_keeps presence_keeps greatest_coded greatest_ranged greatest_value has_value
middle_few s within = sections_few bounds 3000 middle s refl (omega arith) within

back_few : (s : List ℕ) → IsWithin bounds s → IsShort bounds 4000 (sections_form back s)
unfolding table_bits part_bits most_turns code_bits row_keeps presence_keeps greatest_coded greatest_ranged greatest_value has_value
back_few s within = sections_few bounds 4000 back s refl (omega arith) within

pub weights_few : (s : List ℕ) → IsWithin bounds s → IsShort bounds 20000 (weights_form s)
unfolding table_bits part_bits most_turns code_bits row_keeps presence_keeps greatest_coded greatest_ranged greatest_value has_value
weights_few s within = sections_few bounds 20000 weights s refl (omega arith) within

header_few : (table : RplTable) (s : List ℕ) → AreFew table.first → AreFew table.second → IsWithin bounds s → IsShort bounds 46200 (header_form table s)
unfolding header_form ph_before_weights presence_keeps most_turns
header_few table s first second within =
    short_then bounds (ph_before_weights table s >>= weights_if_present) (sections_form back) 42200 4000
    (short_then bounds (ph_before_weights table s) weights_if_present 22200 20000
    (short_then bounds (sections_form ph_before_lists s >>= lists_if_present table) (sections_form middle) 19200 3000
    (short_then bounds (sections_form ph_before_lists s) (lists_if_present table) 3000 16200 (front_few s within)
    (λ t there. short_present bounds (When (Plain (Latest pps_rpl_info_in_ph_flag))) (lists_form table) 16200 t refl there (λ u at. lists_few table u first second at)))
    middle_few)
    (λ t there. short_present bounds (When (Plain (Latest HAS_WEIGHTS))) weights_form 20000 t refl there weights_few))
    back_few

-- what ends a unit
trailing_few : (s : List ℕ) (values : List ℤ) (end : List ℕ) (place : ℕ) → Follows (form_of TRAILING s) values end → length (bits_along (form_of TRAILING s) place values) ≤ 8
unfolding form_of part one_field coding_at limits_at after has_value
trailing_few s values end place (through {v} value to_end) = let few = coded_most Trailing place v in omega (arith, few, length-append (code_of Trailing place v) [])

-- ---- at any scope

pub bounded_few : (table : RplTable) (s : List ℕ) → IsBounded table s → EachSpelling (header_form table s) (λ size end. size ≤ 46200)
bounded_few table s few =
    few_by_given all_of_sets of_header (header_form table) (bound_by EXTRA_PH_BITS 32 ∷ []) bounds 46200 refl refl (all_depend table) (shows_all table)
    (λ t within. header_few table t few.first few.second within) s few.long (within_one EXTRA_PH_BITS 32 [] s few.extra (within_none s few.numbers))

pub spelling_is_short : SpellingIsShort
unfolding unit_form
spelling_is_short table s header bytes few u =
    let p = parted (header_form table s) (form_of TRAILING) u.follows in
    let less = (bounded_few table s few).at 0 p.front p.mid p.first in
    let front_bits : List Bool = bits_along (header_form table s) 0 p.front in
    let last = trailing_few p.mid p.others u.end (0 + length front_bits) p.second in
    let bits = u.bits ∙ ap (λ w. bits_along (unit_form table s) 0 w) p.all ∙ bits_joined (form_of TRAILING) 0 p.others p.first in
    omega (arith, less, last, ap length bits, length-append front_bits (bits_along (form_of TRAILING p.mid) (0 + length front_bits) p.others), length-bits_of bytes)

-- ---- sets

-- the numbers of items have 32 bits
natural_low : (v : ℤ) → natural v ≤ most
unfolding natural
natural_low (pos n) = omega arith
natural_low (negsuc n) = omega arith

loaded_low : (s : List ℕ) (items : List Item) (of : ℕ) → slice_index s of ≤ most → slice_index (loaded s items) of ≤ most
loaded_low s [] of low = low
loaded_low s (item ∷ items) of low =
    let here = natural_low item.value in
    let set = set_below s item.field of (natural item.value) 4294967296 (λ same. omega (arith, here)) (omega (arith, low)) in
    loaded_low (slice_set s item.field (natural item.value)) items of (omega (arith, set))

pub number_low : (items : List Item) (of : ℕ) → number items of ≤ most
unfolding fresh
number_low items of = loaded_low (replicate 1024 0) items of (let none = no_number 1024 of in omega (arith, none))

-- structures that items tell
few_more : (y : Structure) (xs : List Structure) → length y.entries ≤ 29 → ((k : ℕ) (x : Structure) → slice_get xs k ≡ Some x → length x.entries ≤ 29)
    → (k : ℕ) (x : Structure) → slice_get (y ∷ xs) k ≡ Some x → length x.entries ≤ 29
few_more y xs here rest zero x is = let same : y ≡ x = cc in subst (λ (z : Structure). length z.entries ≤ 29) same here
few_more y xs here rest (suc k) x is = rest k x is

no_structure : (k : ℕ) (x : Structure) → slice_get {X = Structure} [] k ≡ Some x → ⊥
no_structure k x is = cc

few_told : (weighted : Bool) (items : List Item) (k : ℕ) (x : Structure) → slice_get (structures_from weighted items) k ≡ Some x → length x.entries ≤ 29
few_told weighted [] k x is = absurd (no_structure k x is)
few_told weighted (item ∷ items) k x is = elim (cases_Bool (item.field == sps_num_ref_pic_lists)) [
  | inl ends ↦ absurd (no_structure k x (rw ends at is))
  | inr goes_on ↦ elim (cases_Bool (item.field == num_ref_entries)) [
    | inl begins ↦ few_more (structure_of weighted items) (structures_from weighted items) (omega (arith, length-take 29 (entries_from weighted 0 items))) (few_told weighted items) k x (rw (goes_on, begins) at is)
    | inr passes_on ↦ few_told weighted items k x (rw (goes_on, passes_on) at is)
  ]
]

first_few : (found : List Structure) (n : ℕ) → ((k : ℕ) (x : Structure) → slice_get found k ≡ Some x → length x.entries ≤ 29) → (k : ℕ) (x : Structure) → slice_get (take n found) k ≡ Some x → length x.entries ≤ 29
first_few found zero few k x is = absurd (no_structure k x is)
first_few [] (suc n) few k x is = absurd (no_structure k x is)
first_few (y ∷ found) (suc n) few k x is = few_more y (take n found) (few 0 y refl) (first_few found n (λ i z at. few (suc i) z at)) k x is

behind_few : (weighted : Bool) (found : Option (List Item)) → AreFew (structures_behind weighted found)
behind_few weighted None = record { count = omega arith; each = λ k x is. absurd (no_structure k x is) }
behind_few weighted (Some items) = record {
  count = omega (arith, length-take 64 (structures_from weighted items));
  each = first_few (structures_from weighted items) 64 (few_told weighted items);
}

second_few : (weighted : Bool) (items : List Item) (found : Option (List Item)) → AreFew (second_or_first weighted items found)
second_few weighted items None = behind_few weighted (past sps_num_ref_pic_lists items)
second_few weighted items (Some others) = behind_few weighted (Some others)

pub sets_are_bounded : SetsAreBounded
unfolding table_of
sets_are_bounded sps pps extra =
    let told = filter is_of_table sps in record {
      long = in_force_length sps pps;
      numbers = λ n. elim (cases_lt n pps_pic_parameter_set_id) [
        | inl below ↦ let is = of_sps sps pps n below in let low = number_low sps n in omega (arith, is, low)
        | inr above ↦ elim (cases_eq n EXTRA_PH_BITS) [
          | inl bits ↦ rw bits (let is = of_extra sps pps in omega (arith, is, extra))
          | inr other ↦ let is = of_pps sps pps n above other in let low = number_low pps n in omega (arith, is, low)
        ]
      ];
      extra = let is = of_extra sps pps in omega (arith, is, extra);
      first = behind_few (is_weighted sps) (past sps_num_ref_pic_lists told);
      second = second_few (is_weighted sps) told (behind_second (past sps_num_ref_pic_lists told));
    }
