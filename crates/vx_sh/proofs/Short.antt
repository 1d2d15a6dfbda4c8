-- No spelling of a slice header is long.
use Rattle.std.proofs.Common.{◌≡◌, ℕ, suc, ◌+◌, ◌≤◌, ◌==◌, Bool, true, false, cond, List, [], ◌∷◌, length, slice_index, slice_set, refl, ap, sym, subst, ◌∙◌, inl, inr, arith}
use Rattle.std.specs.Prelude.{nat_lt}
use Rattle.std.proofs.lemmas.Bool.{cases_Bool, cases_lt}
use Rattle.std.proofs.lemmas.List.Sums.{count_by-le-length, length-filter}
use Rattle.vx_bits.proofs.Bits.{length-bits_of}
use Rattle.vx_table.specs.declared.rows.Formula.TheVariants.{Plain}
use Rattle.vx_table.specs.declared.rows.Presence.TheVariants.{When}
use Rattle.vx_table.specs.declared.rows.Term.TheVariants.{Latest}
use Rattle.vx_table.specs.Claims.{hides_counter, hides_row}
use Rattle.vx_table.specs.Depends.{Agree, IsLeft}
use Rattle.vx_table.specs.Forms.{Form, done, ◌>>=◌, form_of, has_value}
use Rattle.vx_table.specs.Parts.{sections_form}
use Rattle.vx_table.specs.Scope.{fresh, loaded, most}
use Rattle.vx_table.specs.laws.Sizes.{Bound, EachSpelling, IsShort, IsWithin, code_bits, greatest_coded, greatest_ranged, greatest_value, most_turns, part_bits, presence_keeps, row_keeps, table_bits}
use Rattle.vx_table.proofs.Agreeing.{agree_on}
use Rattle.vx_table.proofs.Loading.{set_below}
use Rattle.vx_table.proofs.Rewrites.{left_end, tables_leave}
use Rattle.vx_table.proofs.Sizes.{short_present, short_then, spelling_done, spelling_then, spelling_weaker, within_set}
use Rattle.vx_fields.specs.declared.names.rpl.TheConstants.{ENTRIES_0, ENTRIES_1}
use Rattle.vx_fields.specs.declared.names.sh.TheConstants.{DEFAULT_ACTIVE_0, DEFAULT_ACTIVE_1, EXTRA_SH_BITS, HAS_LISTS, HAS_WEIGHTS, NAL_TYPE, NUM_ENTRY_POINTS, NUM_SLICES, NUM_SUBPICS, SUBPIC}
use Rattle.vx_fields.specs.declared.ph.TheConstants.{ph_gdr_or_irap_pic_flag}
use Rattle.vx_fields.specs.declared.sh.TheConstants.{sh_picture_header_in_slice_header_flag, sh_slice_address, sh_subpic_id}
use Rattle.vx_fields.specs.declared.sps.TheConstants.{sps_entropy_coding_sync_enabled_flag, sps_entry_point_offsets_present_flag}
use Rattle.vx_layout.specs.declared.numbers.Numbers.{Numbers}
use Rattle.vx_layout.specs.declared.rect.Rect.{Rect}
use Rattle.vx_layout.specs.Layouts.{slices_in, subpic_at}
use Rattle.vx_layout.specs.Rects.{fits}
use Rattle.vx_rpl.specs.declared.entry.RplTable.{RplTable}
use Rattle.vx_rpl.specs.Lists.{lists_form, weights_form}
use Rattle.vx_sps.specs.Set.{extra_sh_bits_of}
use Rattle.vx_pps.specs.Pps.{default_active}
use Rattle.vx_ph.specs.Header.{header_form}
use Rattle.vx_ph.specs.InForce.{in_force}
use Rattle.vx_ph.specs.laws.Sizes as ph
use Rattle.vx_ph.specs.laws.Sizes.{AreFew}
use Rattle.vx_ph.proofs.Bounding.{bound_by, sections_few, set_here, table_few, within_none, within_one}
use Rattle.vx_ph.proofs.Copied.{few_by_given}
use Rattle.vx_ph.proofs.Short.{bounded_few, number_low, sets_are_bounded, weights_few}
use Rattle.vx_ph.proofs.ShortLists.{bounds, lists_few}
use Rattle.vx_ph.proofs.Sets.{in_force_length, joined_below}
use Rattle.vx_sh.specs.declared.tables.TheConstants.{ADDRESS, HEADER_INSIDE, KNOWN_SUBPIC, SUBPIC_ID}
use Rattle.vx_sh.specs.Depends.{all_fields, all_given}
use Rattle.vx_sh.specs.laws.Sizes.{IsBounded, NumbersAreBounded, SpellingIsShort, points_limit}
use Rattle.vx_sh.specs.Slice.{address_form, before_lists, sh_before_weights, behind_weights, between, front_form, lists_here, rest_form, weights_here, with_entry_points}
use Rattle.vx_sh.specs.Value.{values_of}
use Rattle.vx_sh.specs.Whole.{At, behind_header, header_inside, subpic_id_form, index_of, located, points_of, slice_form, num_slices_in_subpic, subpic_form, there}
use Rattle.vx_sh.proofs.Kept.{all_are_shown, all_depend}
use Rattle.vx_sh.proofs.Reshaping.{subpic_leaves}
use Rattle.vx_sh.proofs.SameScopes.{sps_told}
use Rattle.vx_sh.proofs.Scopes.{header_from_header, slice_scopes_are_whole, with_header}
use Rattle.vx_sh.proofs.Sized.{all_follow}
use Rattle.vx_sh.proofs.Writable.{nothing_inside, something_inside}

-- ---- behind the id of the subpicture, at a scope whose numbers keep the bounds

before_lists_few : (s : List ℕ) → IsWithin bounds s → IsShort bounds 1468 (sections_form before_lists s)
unfolding table_bits part_bits most_turns code_bits row_keeps presence_keeps greatest_coded greatest_ranged greatest_value has_value
before_lists_few s within = sections_few bounds 1468 before_lists s refl (omega arith) within

between_few : (s : List ℕ) → IsWithin bounds s → IsShort bounds 300 (sections_form between s)
unfolding table_bits part_bits most_turns code_bits row_keeps presence_keeps greatest_coded greatest_ranged greatest_value has_value
between_few s within = sections_few bounds 300 between s refl (omega arith) within

behind_weights_few : (s : List ℕ) → IsWithin bounds s → IsShort bounds 2102000 (sections_form behind_weights s)
unfolding table_bits part_bits most_turns code_bits row_keeps presence_keeps greatest_coded greatest_ranged greatest_value has_value
behind_weights_few s within = sections_few bounds 2102000 behind_weights s refl (omega arith) within

address_few : (points : ℕ → ℕ) → ((a : ℕ) → points a ≤ points_limit) → (s : List ℕ) → IsWithin bounds s → IsShort bounds 32 (address_form points s)
unfolding address_form with_entry_points table_bits part_bits most_turns code_bits row_keeps presence_keeps greatest_coded greatest_ranged greatest_value has_value
address_few points few s within =
    short_then bounds (form_of ADDRESS s) (λ t. done (with_entry_points points t)) 32 0 (table_few bounds 32 ADDRESS s refl (omega arith) within)
    (λ t there. spelling_done (with_entry_points points t) (λ size u. (size ≤ 0) × IsWithin bounds u) (omega arith, within_set bounds t NUM_ENTRY_POINTS (points (slice_index t sh_slice_address)) there (few (slice_index t sh_slice_address))))

rest_few : (table : RplTable) (points : ℕ → ℕ) → AreFew table.first → AreFew table.second → ((a : ℕ) → points a ≤ points_limit) → (s : List ℕ) → IsWithin bounds s
    → IsShort bounds 2140000 (rest_form table points s)
unfolding rest_form sh_before_weights front_form presence_keeps most_turns
rest_few table points first second few s within =
    short_then bounds (sh_before_weights table points s >>= weights_here) (sections_form behind_weights) 38000 2102000
    (short_then bounds (sh_before_weights table points s) weights_here 18000 20000
    (short_then bounds (front_form points s >>= lists_here table) (sections_form between) 17700 300
    (short_then bounds (front_form points s) (lists_here table) 1500 16200
    (short_then bounds (address_form points s) (sections_form before_lists) 32 1468 (address_few points few s within) before_lists_few)
    (λ t there. short_present bounds (When (Plain (Latest HAS_LISTS))) (lists_form table) 16200 t refl there (λ u at. lists_few table u first second at)))
    between_few)
    (λ t there. short_present bounds (When (Plain (Latest HAS_WEIGHTS))) weights_form 20000 t refl there weights_few))
    behind_weights_few

-- ---- at each scope where what is given keeps these

abbrev given_bounds : List Bound
given_bounds = bound_by EXTRA_SH_BITS 32 ∷ bound_by DEFAULT_ACTIVE_0 14 ∷ bound_by DEFAULT_ACTIVE_1 14 ∷ []

there_few : (table : RplTable) (points : ℕ → ℕ) (s : List ℕ) → AreFew table.first → AreFew table.second → ((a : ℕ) → points a ≤ points_limit) → length s ≡ 1024 → IsWithin given_bounds s
    → EachSpelling (rest_form table points s) (λ size end. size ≤ 2140000)
there_few table points s first second few long within =
    few_by_given all_given all_fields (rest_form table points) given_bounds bounds 2140000 refl refl (all_depend table points) (all_are_shown table points)
    (rest_few table points first second few) s long within

-- ---- up to the id

-- what the number of entry points depends on
abbrev flags : List ℕ
flags = sps_entropy_coding_sync_enabled_flag ∷ sps_entry_point_offsets_present_flag ∷ []

-- a part keeps the bounds, and leaves these alone
record Goes (s t : List ℕ) : Type 0 where
  within : IsWithin given_bounds t
  same : Agree flags s t

part_goes : (n : ℕ) (s : List ℕ) (form : Form (List ℕ)) → IsShort given_bounds n form → IsLeft flags s form → EachSpelling form (λ size t. (size ≤ n) × Goes s t)
unfolding fresh
part_goes n s form short left = record {
  at = λ place values end follows. (let is = short.at place values end follows in (is.0, record { within = is.1; same = left_end left follows }));
}

first_goes : (s : List ℕ) → IsWithin given_bounds s → EachSpelling (form_of HEADER_INSIDE s) (λ size t. (size ≤ 1) × Goes s t)
unfolding fresh hides_counter hides_row table_bits part_bits most_turns code_bits row_keeps presence_keeps greatest_coded greatest_ranged greatest_value has_value
first_goes s within = part_goes 1 s (form_of HEADER_INSIDE s) (table_few given_bounds 1 HEADER_INSIDE s refl (omega arith) within) ((tables_leave flags HEADER_INSIDE refl).at s)

inside_few : (table : RplTable) (sets s : List ℕ) → ph.IsBounded table sets → EachSpelling (header_inside table sets s) (λ size t. (size ≤ 46200) × (s ≡ t))
inside_few table sets s few = elim (cases_Bool (slice_index s sh_picture_header_in_slice_header_flag == 0)) [
  | inl none ↦ rw (nothing_inside table sets s none) (spelling_done s (λ size t. (size ≤ 46200) × (s ≡ t)) (omega arith, refl))
  | inr some ↦ rw (something_inside table sets s some)
      (spelling_then (header_form table sets) (λ t. done s) (λ size t. size ≤ 46200) (λ size t. (size ≤ 46200) × (s ≡ t)) (bounded_few table sets few)
      (λ size t less. spelling_done s (λ k u. (size + k ≤ 46200) × (s ≡ u)) (omega (arith, less), refl)))
]

index_most : (id : ℕ) (ids : List ℕ) → index_of id ids ≤ length ids
index_most id [] = omega arith
index_most id (n ∷ more) = elim (n == id) as (λ b. cond b 0 (index_of id more + 1) ≤ suc (length more)) [
  | true ↦ omega arith
  | false ↦ let less = index_most id more in omega (arith, less)
]

id_few : (ids : List ℕ) (layout : Numbers) (s : List ℕ) → length ids ≤ most → ((k : ℕ) → num_slices_in_subpic layout k ≤ most) → IsWithin given_bounds s → IsShort given_bounds 32 (subpic_form ids layout s)
unfolding subpic_form subpic_id_form located table_bits part_bits most_turns code_bits row_keeps presence_keeps greatest_coded greatest_ranged greatest_value has_value
id_few ids layout s few slices within =
    short_then given_bounds (subpic_id_form ids layout s) (form_of KNOWN_SUBPIC) 32 0
    (short_then given_bounds (form_of SUBPIC_ID s) (λ t. done (located ids layout t)) 32 0 (table_few given_bounds 32 SUBPIC_ID s refl (omega arith) within)
    (λ t at.
    let k : ℕ = index_of (slice_index t sh_subpic_id) ids in
    let low = index_most (slice_index t sh_subpic_id) ids in
    let first = within_set given_bounds t NUM_SUBPICS (length ids) at few in
    let second = within_set given_bounds (slice_set t NUM_SUBPICS (length ids)) SUBPIC k first (omega (arith, low, few)) in
    spelling_done (located ids layout t) (λ size u. (size ≤ 0) × IsWithin given_bounds u)
    (omega arith, within_set given_bounds (slice_set (slice_set t NUM_SUBPICS (length ids)) SUBPIC k) NUM_SLICES (num_slices_in_subpic layout k) second (slices k))))
    (λ t at. table_few given_bounds 0 KNOWN_SUBPIC t refl (omega arith) at)

id_goes : (ids : List ℕ) (layout : Numbers) (s : List ℕ) → length ids ≤ most → ((k : ℕ) → num_slices_in_subpic layout k ≤ most) → IsWithin given_bounds s
    → EachSpelling (subpic_form ids layout s) (λ size t. (size ≤ 32) × Goes s t)
unfolding fresh hides_counter hides_row
id_goes ids layout s few slices within =
    part_goes 32 s (subpic_form ids layout s) (id_few ids layout s few slices within)
    ((subpic_leaves flags ids layout (tables_leave flags SUBPIC_ID refl) (tables_leave flags KNOWN_SUBPIC refl) refl refl refl).at s)

-- ---- the whole

module _ (n : At) (few : IsBounded n) where
  slice_within : IsWithin given_bounds n.slice
  slice_within = within_one EXTRA_SH_BITS 32 _ n.slice few.extra (within_one DEFAULT_ACTIVE_0 14 _ n.slice few.first (within_one DEFAULT_ACTIVE_1 14 [] n.slice few.second (within_none n.slice few.numbers)))

  points_few : (s : List ℕ) → Agree flags n.slice s → (a : ℕ) → points_of n.layout s a ≤ points_limit
  unfolding fresh
  points_few s agree a =
      let has = agree.same sps_entry_point_offsets_present_flag refl in
      let sync = agree.same sps_entropy_coding_sync_enabled_flag refl in
      rw (sym has, sym sync) (few.points (slice_index s SUBPIC) a)

  behind_few : (s : List ℕ) → Goes n.slice s → EachSpelling (behind_header n.table n.ids n.layout s) (λ size end. size ≤ 2140032)
  unfolding behind_header
  behind_few s goes =
      spelling_then (subpic_form n.ids n.layout s) (there n.table n.layout) (λ size t. (size ≤ 32) × Goes s t) (λ size end. size ≤ 2140032) (id_goes n.ids n.layout s few.ids few.slices goes.within)
      (λ k t is.
      let agree = agree_on goes.same is.1.same in
      spelling_weaker (there n.table n.layout t) (λ size end. size ≤ 2140000) (λ size end. k + size ≤ 2140032)
      (there_few n.table (points_of n.layout t) t few.sets.first few.sets.second (points_few t agree) (sym agree.size ∙ few.long) is.1.within)
      (λ size end less. let one = is.0 in omega (arith, one, less)))

  slice_few : EachSpelling (slice_form n) (λ size end. size ≤ 2186233)
  unfolding slice_form
  slice_few =
      spelling_then (form_of HEADER_INSIDE n.slice >>= header_inside n.table n.sets) (behind_header n.table n.ids n.layout) (λ size t. (size ≤ 46201) × Goes n.slice t) (λ size end. size ≤ 2186233)
      (spelling_then (form_of HEADER_INSIDE n.slice) (header_inside n.table n.sets) (λ size t. (size ≤ 1) × Goes n.slice t) (λ size t. (size ≤ 46201) × Goes n.slice t) (first_goes n.slice slice_within)
      (λ k t is. spelling_weaker (header_inside n.table n.sets t) (λ size u. (size ≤ 46200) × (t ≡ u)) (λ size u. (k + size ≤ 46201) × Goes n.slice u) (inside_few n.table n.sets t few.sets)
      (λ size u less. (let one = is.0 in let other = less.0 in omega (arith, one, other), subst (Goes n.slice) less.1 is.1))))
      (λ k t is. spelling_weaker (behind_header n.table n.ids n.layout t) (λ size end. size ≤ 2140032) (λ size end. k + size ≤ 2186233) (behind_few t is.1)
      (λ size end less. let one = is.0 in omega (arith, one, less)))

pub spelling_is_short : SpellingIsShort
spelling_is_short n fields others bytes few is =
    let f = is.is.slice in
    let less = (slice_few n few).at 0 (values_of f) f.end (all_follow n fields is.is.inside f) in
    omega (arith, less, ap length is.bits, length-bits_of bytes)

-- ---- what sets, a picture header and a layout come to

slices_few : (layout : Numbers) (k : ℕ) → length layout.slices ≤ most → num_slices_in_subpic layout k ≤ most
slices_few layout k few =
    let test : Rect → Bool = λ r. fits r (subpic_at layout k) in
    elim (nat_lt k (length layout.subpics)) as (λ b. cond b (length (slices_in layout k)) 0 ≤ most) [
      | true ↦ omega (arith, few, length-filter test layout.slices, count_by-le-length test layout.slices)
      | false ↦ omega arith
    ]

pub numbers_are_bounded : NumbersAreBounded
unfolding with_header
numbers_are_bounded n little =
    let sps = n.sps.now in
    let pps = n.pps.now in
    let header = n.header.now in
    let sets = sets_are_bounded sps pps little.ph_bits in
    let both : List ℕ = with_header sps pps header.fields in
    let numbers : IsWithin [] both = within_none both (λ m. elim (cases_lt m ph_gdr_or_irap_pic_flag) [
      | inl below ↦ let is = joined_below ph_gdr_or_irap_pic_flag (in_force sps pps) (loaded fresh header.fields) m (omega (arith, in_force_length sps pps)) below in let low = sets.numbers m in omega (arith, is, low)
      | inr past ↦ let is = header_from_header sps pps header.fields m past in let low = number_low header.fields m in omega (arith, is, low)
    ]) in
    let sh_bits = little.sh_bits in
    let active_0 = little.active 0 in
    let active_1 = little.active 1 in
    let listed : List ℕ = slice_set (slice_set both ENTRIES_0 (length header.lists.first)) ENTRIES_1 (length header.lists.second) in
    let typed : List ℕ = slice_set listed NAL_TYPE n.nal_type in
    let extra : List ℕ = slice_set typed EXTRA_SH_BITS (extra_sh_bits_of sps) in
    let active : List ℕ = slice_set extra DEFAULT_ACTIVE_0 (default_active pps 0) in
    let lists = within_set [] _ ENTRIES_1 (length header.lists.second) (within_set [] both ENTRIES_0 (length header.lists.first) numbers little.first) little.second in
    let bits = within_set [] typed EXTRA_SH_BITS (extra_sh_bits_of sps) (within_set [] listed NAL_TYPE n.nal_type lists little.type) (omega (arith, sh_bits)) in
    let whole = within_set [] active DEFAULT_ACTIVE_1 (default_active pps 1) (within_set [] extra DEFAULT_ACTIVE_0 (default_active pps 0) bits (omega (arith, active_0))) (omega (arith, active_1)) in
    record {
      sets = sets;
      long = slice_scopes_are_whole n.nal_type sps pps header;
      numbers = whole.at;
      extra =
          let here = set_here typed EXTRA_SH_BITS (extra_sh_bits_of sps) in
          let one = set_below extra DEFAULT_ACTIVE_0 EXTRA_SH_BITS (default_active pps 0) 33 (λ same. absurd (omega (arith, same))) (omega (arith, here, sh_bits)) in
          let two = set_below active DEFAULT_ACTIVE_1 EXTRA_SH_BITS (default_active pps 1) 33 (λ same. absurd (omega (arith, same))) (omega (arith, one)) in
          omega (arith, two);
      first =
          let here = set_here extra DEFAULT_ACTIVE_0 (default_active pps 0) in
          let one = set_below active DEFAULT_ACTIVE_1 DEFAULT_ACTIVE_0 (default_active pps 1) 15 (λ same. absurd (omega (arith, same))) (omega (arith, here, active_0)) in
          omega (arith, one);
      second = let here = set_here active DEFAULT_ACTIVE_1 (default_active pps 1) in omega (arith, here, active_1);
      ids = little.ids;
      slices = λ k. slices_few n.layout.now k little.slices;
      points = λ k m. rw (sps_told n.nal_type sps pps header sps_entry_point_offsets_present_flag (omega arith), sps_told n.nal_type sps pps header sps_entropy_coding_sync_enabled_flag (omega arith)) (little.points k m);
    }
