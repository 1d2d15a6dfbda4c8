-- No spelling of a set is long: its tables have few bits each, by the ranges of the fields that count.
use Rattle.std.proofs.Common.{◌≡◌, ℕ, ℤ, suc, ◌+◌, ◌*◌, ◌<◌, ◌≤◌, true, false, inl, inr, List, [], ◌∷◌, ◌++◌, length, take, drop, slice_set, slice_index, refl, ap, sym, subst, ◌∙◌, arith}
use Rattle.std.proofs.lemmas.Bool.{cases_lt}
use Rattle.std.proofs.lemmas.List.{get_or_past, set_past}
use Rattle.std.proofs.lemmas.Grind.{get_or-set_at}
use Rattle.vx_bits.proofs.Bits.{length-bits_of}
use Rattle.vx_table.specs.declared.rows.Term.TheVariants.{Number, Latest}
use Rattle.vx_table.specs.declared.rows.Formula.{Formula}
use Rattle.vx_table.specs.declared.rows.Formula.TheVariants.{Plain, Plus}
use Rattle.vx_table.specs.declared.rows.Cell.{Cell}
use Rattle.vx_table.specs.declared.rows.Coding.TheVariants.{Fixed}
use Rattle.vx_table.specs.declared.rows.Limits.TheVariants.{Any}
use Rattle.vx_table.specs.declared.rows.Presence.TheVariants.{When, Repeat}
use Rattle.vx_table.specs.declared.rows.Row.{Row}
use Rattle.vx_table.specs.declared.rows.Row.TheVariants.{Field, Name}
use Rattle.vx_table.specs.Scope.{fresh, natural, value}
use Rattle.vx_table.specs.Forms.{◌>>=◌, has_value, coding_at, cell_at, after, one_field, turns, present, part, form_of}
use Rattle.vx_table.specs.Parts.{Section, always, sections_form}
use Rattle.vx_table.specs.Spelling.{code_of}
use Rattle.vx_table.specs.Claims.{comes_always}
use Rattle.vx_table.specs.laws.Sizes.{EachSpelling, Bound, IsWithin, greatest_value, greatest_coded, greatest_ranged, presence_keeps, row_keeps, sections_keep, code_bits, most_turns, part_bits, table_bits, sections_bits, IsShort}
use Rattle.vx_table.proofs.Blocks.{form-field, form-name, form-block-whole}
use Rattle.vx_table.proofs.Chains.{there_always}
use Rattle.vx_table.proofs.Loading.{set_below}
use Rattle.vx_table.proofs.Rewrites.{sections_together}
use Rattle.vx_table.proofs.Sizes.{spelling_done, spelling_field, spelling_weaker, coded_most, fresh_within, within_set, value_within, after_within, short_then, short_field, short_turns, short_present, tables_are_short, sections_are_short}
use Rattle.vx_fields.specs.declared.ptl.TheConstants as ptl
use Rattle.vx_fields.specs.declared.rpl.TheConstants as rpl
use Rattle.vx_fields.specs.declared.sps.TheConstants as sps
use Rattle.vx_fields.specs.declared.timing.TheConstants as timing
use Rattle.vx_fields.specs.declared.names.ptl.TheConstants as names
use Rattle.vx_fields.specs.declared.names.rpl.TheConstants.{NUM_STRUCTURES}
use Rattle.vx_fields.specs.declared.names.sps.TheConstants.{NUM_PLACES, NUM_QP_TABLES}
use Rattle.vx_ptl.specs.declared.tables.TheConstants.{PTL}
use Rattle.vx_sps.specs.Structure as set
use Rattle.vx_sps.specs.Structure.{sps_form}
use Rattle.vx_sps.specs.Set.{SpellingIsShort}

abbrev bound_by : ℕ → ℕ → Bound
bound_by of most = record { of = of; greatest = most }

-- the fields and names that count
abbrev bounds : List Bound
bounds =
    bound_by sps.sps_max_sublayers_minus1 6 ∷ bound_by ptl.gci_num_additional_bits 255 ∷ bound_by ptl.ptl_sublayer_level_present_flag 1
    ∷ bound_by names.WITH_LEVEL 6 ∷ bound_by ptl.ptl_num_sub_profiles 255 ∷ bound_by sps.sps_num_subpics_minus1 999 ∷ bound_by NUM_PLACES 1000
    ∷ bound_by sps.sps_num_extra_ph_bytes 3 ∷ bound_by sps.sps_num_extra_sh_bytes 3 ∷ bound_by names.LOWER 6 ∷ bound_by sps.sps_joint_cbcr_enabled_flag 1
    ∷ bound_by NUM_QP_TABLES 3 ∷ bound_by sps.sps_num_points_in_qp_table_minus1 74 ∷ bound_by sps.sps_num_ref_pic_lists 64 ∷ bound_by NUM_STRUCTURES 64
    ∷ bound_by rpl.num_ref_entries 29 ∷ bound_by sps.sps_num_ladf_intervals_minus2 3 ∷ bound_by timing.general_nal_hrd_params_present_flag 1
    ∷ bound_by timing.general_vcl_hrd_params_present_flag 1 ∷ bound_by names.KINDS 2 ∷ bound_by timing.hrd_cpb_cnt_minus1 31
    ∷ bound_by sps.sps_vui_payload_size_minus1 1023 ∷ []

abbrev front : List Section
front = set.ids ++ set.start

abbrev behind : List Section
behind = set.resampling ++ (set.picture ++ (set.counts ++ (set.dpb ++ (set.tools ++ (set.timing ++ set.end)))))

behind_keep : sections_keep bounds behind ≡ true
unfolding row_keeps presence_keeps greatest_coded greatest_ranged greatest_value has_value
behind_keep = refl

behind_short : (s : List ℕ) → IsWithin bounds s → IsShort bounds 700000 (sections_form behind s)
unfolding most_turns table_bits part_bits code_bits greatest_value
behind_short s within = spelling_weaker (sections_form behind s) (λ k u. (k ≤ 685247) × IsWithin bounds u) (λ k u. (k ≤ 700000) × IsWithin bounds u)
    (sections_are_short bounds behind s behind_keep within) (λ k u few. (let less = few.0 in omega (arith, less), few.1))

front_keep : sections_keep bounds front ≡ true
unfolding row_keeps presence_keeps greatest_coded greatest_ranged greatest_value has_value
front_keep = refl

front_short : IsShort bounds 100 (sections_form front fresh)
unfolding most_turns table_bits part_bits code_bits greatest_value
front_short = spelling_weaker (sections_form front fresh) (λ k u. (k ≤ sections_bits bounds front) × IsWithin bounds u) (λ k u. (k ≤ 100) × IsWithin bounds u)
    (sections_are_short bounds front fresh front_keep (fresh_within bounds)) (λ k u few. (let less = few.0 in omega (arith, less), few.1))

-- ---- profile, tier and level, where the levels that come are counted by flags before them

-- a table whose bits are few however it is entered
record Short (rows : List Row) : Type 0 where
  at : (s : List ℕ) → IsWithin bounds s → IsShort bounds (table_bits bounds rows) (form_of rows s)

step_field : (c : Cell Formula) (rows : List Row) → row_keeps bounds (Field c) ≡ true → Short rows → Short (Field c ∷ rows)
unfolding table_bits part_bits
step_field c rows keeps more = record {
  at = λ s within. subst (IsShort bounds (table_bits bounds (Field c ∷ rows))) (sym (form-field c rows s)) (short_field bounds c (form_of rows) s (table_bits bounds rows) keeps within more.at);
}

-- before the turn of a sublayer
record CountsLevels (k : ℕ) (t : List ℕ) : Type 0 where
  within : IsWithin bounds t
  few : slice_index t names.WITH_LEVEL ≤ k

abbrev level_flag : Cell Formula
level_flag = record { field = ptl.ptl_sublayer_level_present_flag; kept = false; coding = Fixed (Plain (Number 1)); limits = Any }

abbrev one_more : Formula
one_more = Plus (Latest names.WITH_LEVEL) (Latest ptl.ptl_sublayer_level_present_flag)

abbrev flag_rows : List Row
flag_rows = Field level_flag ∷ Name names.WITH_LEVEL one_more ∷ []

flag_keeps : row_keeps bounds (Field level_flag) ≡ true
unfolding row_keeps greatest_coded greatest_ranged greatest_value has_value
flag_keeps = refl

after_flag : (u : List ℕ) (v : ℤ) (k : ℕ) → slice_index u names.WITH_LEVEL ≤ k → slice_index (after u (cell_at u level_flag) v) names.WITH_LEVEL ≤ k
unfolding after has_value coding_at
after_flag u v k few =
    let set = set_below u ptl.ptl_sublayer_level_present_flag names.WITH_LEVEL (natural v) (suc k) (λ same. absurd (omega arith)) (omega (arith, few)) in
    omega (arith, set)

counted_level : (k : ℕ) (u : List ℕ) → k < 6 → CountsLevels k u → CountsLevels (k + 1) (slice_set u names.WITH_LEVEL (value u one_more))
unfolding value
counted_level k u small before =
    let flag = before.within.at ptl.ptl_sublayer_level_present_flag in
    let few = before.few in
    let more : value u one_more ≤ k + 1 = omega (arith, flag, few) in
    let set = set_below u names.WITH_LEVEL names.WITH_LEVEL (value u one_more) (k + 2) (λ same. omega (arith, more)) (omega (arith, few)) in
    record { within = within_set bounds u names.WITH_LEVEL (value u one_more) before.within (omega (arith, more, small)); few = omega (arith, set) }

flag_bit : (u : List ℕ) (place : ℕ) (v : ℤ) → length (code_of (coding_at u level_flag.coding) place v) + 0 ≤ 1
unfolding coding_at value
flag_bit u place v = let few = coded_most (coding_at u level_flag.coding) place v in omega (arith, few)

one_flag : (k : ℕ) (t : List ℕ) → k < 6 → CountsLevels k t → EachSpelling (form_of flag_rows (slice_set t names.TURN k)) (λ size u. (size ≤ 1) × CountsLevels (k + 1) u)
unfolding form_of part one_field after has_value coding_at value
one_flag k t small before =
    let u : List ℕ = slice_set t names.TURN k in
    let within : IsWithin bounds u = within_set bounds t names.TURN k before.within (omega (arith, small)) in
    let few = before.few in
    let set = set_below t names.TURN names.WITH_LEVEL k (suc k) (λ same. omega arith) (omega (arith, few)) in
    spelling_field (cell_at u level_flag) _ (λ size u. (size ≤ 1) × CountsLevels (k + 1) u) (λ place v is.
    let w : List ℕ = after u (cell_at u level_flag) v in
    let at : CountsLevels k w = record { within = after_within bounds u level_flag v flag_keeps within is; few = after_flag u v k (omega (arith, set)) } in
    spelling_done (slice_set w names.WITH_LEVEL (value w one_more)) (λ size u. (length (code_of (coding_at u level_flag.coding) place v) + size ≤ 1) × CountsLevels (k + 1) u) (flag_bit u place v, counted_level k w small at))

abbrev sublayers : Formula
sublayers = Plain (Latest sps.sps_max_sublayers_minus1)

set_here : (s : List ℕ) (n v : ℕ) → slice_index (slice_set s n v) n ≤ v
set_here s n v = elim (cases_lt n (length s)) [
  | inl within ↦ rw (get_or-set_at s n n v 0 refl within) (omega arith)
  | inr past ↦ rw (set_past s n v past, get_or_past s n 0 past) (omega arith)
]

levels_counted : (s : List ℕ) → CountsLevels 0 s → IsShort bounds 6 (present (Repeat names.TURN sublayers) (form_of flag_rows) s)
unfolding present greatest_value
levels_counted s before =
    let few = before.within.at sps.sps_max_sublayers_minus1 in
    let times : value s sublayers ≤ 6 = value_within bounds s sublayers before.within in
    spelling_weaker (turns (form_of flag_rows) names.TURN 0 (value s sublayers) s) (λ k u. (k ≤ value s sublayers * 1) × CountsLevels (0 + value s sublayers) u) (λ k u. (k ≤ 6) × IsWithin bounds u)
    (short_turns bounds (form_of flag_rows) names.TURN 1 0 (value s sublayers) CountsLevels s before (λ k t below at. one_flag k t (omega (arith, below, times)) at))
    (λ k u less. (let one = less.0 in omega (arith, one, times), less.1.within))

behind_levels : Short (drop 17 PTL)
unfolding row_keeps presence_keeps greatest_coded greatest_ranged greatest_value has_value
behind_levels = record { at = λ s within. tables_are_short bounds (drop 17 PTL) s refl within }

levels_short : (s : List ℕ) → IsWithin bounds s → IsShort bounds (table_bits bounds (drop 13 PTL)) (form_of (drop 13 PTL) s)
unfolding table_bits part_bits most_turns code_bits greatest_value value
levels_short s within =
    let t : List ℕ = slice_set s names.WITH_LEVEL 0 in
    let begun : CountsLevels 0 t = record { within = within_set bounds s names.WITH_LEVEL 0 within (omega arith); few = set_here s names.WITH_LEVEL 0 } in
    let whole = form-name names.WITH_LEVEL (Plain (Number 0)) (drop 14 PTL) s ∙ form-block-whole (Repeat names.TURN sublayers) 2 (drop 15 PTL) t (omega arith) in
    subst (IsShort bounds (table_bits bounds (drop 13 PTL))) (sym whole)
    (spelling_weaker _ (λ k u. (k ≤ 6 + table_bits bounds (drop 17 PTL)) × IsWithin bounds u) (λ k u. (k ≤ table_bits bounds (drop 13 PTL)) × IsWithin bounds u)
    (short_then bounds (present (Repeat names.TURN sublayers) (form_of flag_rows) t) (form_of (drop 17 PTL)) 6 (table_bits bounds (drop 17 PTL)) (levels_counted t begun) behind_levels.at)
    (λ k u few. (let less = few.0 in omega (arith, less), few.1)))

constraints_short : (s : List ℕ) → IsWithin bounds s → IsShort bounds (table_bits bounds (drop 6 PTL)) (form_of (drop 6 PTL) s)
unfolding table_bits part_bits most_turns code_bits row_keeps presence_keeps greatest_coded greatest_ranged greatest_value has_value
constraints_short s within =
    let inside : List Row = take 5 (drop 7 PTL) in
    subst (IsShort bounds (table_bits bounds (drop 6 PTL))) (sym (form-block-whole (When (Plain (Latest ptl.gci_present_flag))) 5 (drop 7 PTL) s (omega arith)))
    (short_then bounds (present (When (Plain (Latest ptl.gci_present_flag))) (form_of inside) s) (form_of (drop 12 PTL)) (1 * table_bits bounds inside) (table_bits bounds (drop 12 PTL))
    (short_present bounds (When (Plain (Latest ptl.gci_present_flag))) (form_of inside) (table_bits bounds inside) s refl within (λ t at. tables_are_short bounds inside t refl at))
    (step_field _ _ refl (record { at = levels_short })).at)

ptl_short : Short PTL
unfolding row_keeps greatest_coded greatest_ranged greatest_value has_value
ptl_short = step_field _ _ refl (step_field _ _ refl (step_field _ _ refl (step_field _ _ refl (step_field _ _ refl (step_field _ _ refl (record { at = constraints_short }))))))

-- ---- the set

profile_short : (s : List ℕ) → IsWithin bounds s → IsShort bounds 800000 (sections_form (always PTL ∷ behind) s)
unfolding sections_form comes_always table_bits part_bits most_turns code_bits greatest_value
profile_short s within =
    let there = there_always (always PTL).presence (form_of PTL) s refl in
    subst (λ f. IsShort bounds 800000 (f >>= sections_form behind)) (sym there)
    (spelling_weaker (form_of PTL s >>= sections_form behind) (λ k u. (k ≤ table_bits bounds PTL + 700000) × IsWithin bounds u) (λ k u. (k ≤ 800000) × IsWithin bounds u)
    (short_then bounds (form_of PTL s) (sections_form behind) (table_bits bounds PTL) 700000 (ptl_short.at s within) behind_short) (λ k u few. (let less = few.0 in omega (arith, less), few.1)))

sps_short : IsShort bounds 900000 sps_form
sps_short =
    subst (IsShort bounds 900000) (sym (sections_together front (always PTL ∷ behind) fresh))
    (spelling_weaker (sections_form front fresh >>= sections_form (always PTL ∷ behind)) (λ k u. (k ≤ 100 + 800000) × IsWithin bounds u) (λ k u. (k ≤ 900000) × IsWithin bounds u)
    (short_then bounds (sections_form front fresh) (sections_form (always PTL ∷ behind)) 100 800000 front_short profile_short) (λ k u few. (let less = few.0 in omega (arith, less), few.1)))

pub spelling_is_short : SpellingIsShort
spelling_is_short items bytes is =
    let few = (sps_short.at 0 is.set.values is.set.end is.set.follows).0 in
    omega (arith, few, ap length is.bits, length-bits_of bytes)
