-- The run beside each structure.
use Rattle.std.proofs.Common.{◌≡◌, ℕ, ℤ, ◌+◌, Bool, true, false, List, [], ◌∷◌, ◌++◌, length, take, drop, nat_lt, ◌<◌, refl, ap, sym, ◌∙◌, arith, rules}
use Rattle.std.specs.Prelude.{cond}
use Rattle.std.proofs.lemmas.List.{length-replicate, append-nil, append_assoc, length-append}
use Rattle.std.proofs.lemmas.List.Elements.{All-nil, All-append}
use Rattle.vx_bits.specs.declared.list.Item.{Item}
use Rattle.std.proofs.lemmas.Bool.{ltb-true, lt-ltb}
use Rattle.vx_bits.specs.Codes.{to_boundary, zeros_from}
use Rattle.vx_fields.specs.declared.ptl.TheConstants.{ptl_sublayer_level_present_flag, sublayer_level_idc}
use Rattle.vx_table.specs.declared.rows.Formula.{Formula}
use Rattle.vx_table.specs.declared.rows.Cell.{Cell}
use Rattle.vx_table.specs.declared.rows.Row.{Row}
use Rattle.vx_table.specs.declared.rows.Row.TheVariants.{Field}
use Rattle.vx_table.specs.Scope.{value}
use Rattle.vx_table.specs.Forms.{has_value, coding_at, part, form_of}
use Rattle.vx_table.specs.Spelling.{code_of, items_along}
use Rattle.vx_table.specs.Values.{Follows, bits_along}
use Rattle.vx_ptl.specs.declared.tables.TheConstants.{PTL, DPB, TIMING, SUBLAYER_TIMING}
use Rattle.vx_ptl.specs.Run.{field_codes, item_bits, run_bits, IsRunItem}
use Rattle.vx_ptl.specs.Spelling.{profile_tier_level, dpb_parameters, general_timing, timing_of_sublayers, no_more, one_more, AreWritten, StructuresAreSpelled, RunsAreSpelled}
use Rattle.vx_ptl.proofs.Beside.{Between, Even, written, owed, spelled}
use Rattle.vx_ptl.proofs.Keeping.{Each, IsPlain, no_gap, Leads, plain_leads, has_at, leads_over, leads_field, leads_name, leads_block}

dpb_plain : Each IsPlain DPB
unfolding field_codes coding_at has_value value
dpb_plain = search rules

timing_plain : Each IsPlain TIMING
unfolding field_codes coding_at has_value value
timing_plain = search rules

sublayer_plain : Each IsPlain SUBLAYER_TIMING
unfolding field_codes coding_at has_value value
sublayer_plain = search rules

-- behind the zeros up to a boundary there are none
no_more_zeros : (place at : ℕ) → at ≡ place + length (zeros_from place) → zeros_from at ≡ []
no_more_zeros place at here =
    let none : to_boundary at ≡ 0 = omega (arith, here, length-replicate (to_boundary place) false) in
    rw none refl

-- A gap before the first flag, or none, and then a gap make one gap.
gap_over : (first : Bool) (place : ℕ) (gaps : List Bool) → cond first (zeros_from place) [] ≡ gaps → zeros_from place ≡ gaps ++ zeros_from (place + length gaps)
gap_over true place gaps is = rw (← is, no_more_zeros place _ refl) (sym (append-nil (zeros_from place)))
gap_over false place gaps is =
    let here : place + length gaps ≡ place = omega (arith, ap length is) in
    rw (here, ← is) refl

-- Between the fields before the flags, the last one stands before the zeros there;
abbrev Front : Between
Front before place gaps = (nat_lt before ptl_sublayer_level_present_flag ≡ true) × (gaps ≡ [])

-- at the flags, the gap before the first is still to come;
abbrev Flags : Between
Flags before place gaps = (nat_lt before sublayer_level_idc ≡ true) × (cond (nat_lt before ptl_sublayer_level_present_flag) (zeros_from place) [] ≡ gaps)

-- at the levels behind them, the gap before the first is, or before the number behind them;
abbrev Levels : Between
Levels before place gaps = cond (nat_lt before sublayer_level_idc) (zeros_from place) [] ≡ gaps

-- and behind that number there is none.
abbrev Behind : Between
Behind before place gaps = (nat_lt before sublayer_level_idc ≡ false) × (gaps ≡ [])

-- the zeros before the flags
front_over : (before place : ℕ) (gaps : List Bool) → Front before place gaps → Flags before place (gaps ++ zeros_from (place + length gaps))
front_over before place gaps here =
    let at : place + length gaps ≡ place = omega (arith, ap length here.1) in
    let under : before < sublayer_level_idc = omega (arith, ltb-true before ptl_sublayer_level_present_flag here.0) in
    (lt-ltb before sublayer_level_idc under, rw (at, here.1, here.0) refl)

-- and those behind them
flags_over : (before place : ℕ) (gaps : List Bool) → Flags before place gaps → Levels before place (gaps ++ zeros_from (place + length gaps))
flags_over before place gaps here = rw here.0 (gap_over (nat_lt before ptl_sublayer_level_present_flag) place gaps here.1)

-- a plain field before the flags
plain_front : (c : Cell Formula) (rows : List Row) (to : Between) → IsPlain c → nat_lt c.field ptl_sublayer_level_present_flag ≡ true → Leads Front rows to
    → Leads Front (Field c ∷ rows) to
plain_front c rows to plain under rest =
    leads_field Front Front to c rows (λ s before place gaps v here code. written (has_at s c.coding plain.value) (plain.coded s) (rw (no_gap c before place plain, here.1) refl) (under, refl)) rest

-- and the first of them
plain_start : (c : Cell Formula) (rows : List Row) (to : Between) → IsPlain c → nat_lt c.field ptl_sublayer_level_present_flag ≡ true → Leads Front rows to
    → Leads Even (Field c ∷ rows) to
plain_start c rows to plain under rest =
    leads_field Even Front to c rows (λ s before place gaps v here code. written (has_at s c.coding plain.value) (plain.coded s) (rw (no_gap c before place plain, here) refl) (under, refl)) rest

behind_ends : Leads Behind [] Even
unfolding form_of part
behind_ends = record { runs = λ s before place gaps here. here.1 }

subprofiles : Leads Behind (drop 21 PTL) Even
unfolding field_codes coding_at has_value value
subprofiles =
    leads_block Behind Even _ _ _ (leads_field Behind Behind Behind _ _ (λ s before place gaps v here code. written refl refl (rw (here.0, here.1) refl) (refl, refl)) (leads_over Behind)) behind_ends

levels : Leads Levels (drop 18 PTL) Even
unfolding field_codes coding_at has_value value
levels =
    leads_block Levels Even _ _ _ (leads_field Levels Levels Levels _ _ (λ s before place gaps v here code. written refl refl here refl) (leads_over Levels))
    (leads_field Levels Behind Even _ _ (λ s before place gaps v here code. written refl refl here (refl, refl)) subprofiles)

flags : Leads Flags (drop 13 PTL) Even
unfolding field_codes coding_at has_value value code_of
flags =
    leads_name Flags Even _ _ _
    (leads_block Flags Even _ _ _
    (leads_field Flags Flags Flags _ _ (λ s before place gaps v here code. written refl refl here.1 (refl, refl)) (leads_name Flags Flags _ _ _ (leads_over Flags)))
    (leads_field Flags Levels Even _ _ (λ s before place gaps v here code. owed refl (flags_over before place gaps here)) levels))

front : Leads Front (drop 12 PTL) Even
unfolding field_codes coding_at has_value value code_of
front = leads_field Front Flags Even _ _ (λ s before place gaps v here code. owed refl (front_over before place gaps here)) flags

constraints : Leads Front (take 5 (drop 7 PTL)) Front
unfolding field_codes coding_at has_value value
constraints =
    leads_block Front Front _ _ _ (plain_front _ _ Front (search rules) refl (leads_over Front))
    (plain_front _ _ Front (search rules) refl (leads_block Front Front _ _ _ (plain_front _ _ Front (search rules) refl (leads_over Front)) (leads_over Front)))

ptl_leads : Leads Even PTL Even
unfolding field_codes coding_at has_value value
ptl_leads =
    plain_start _ _ Even (search rules) refl
    (plain_front _ _ Even (search rules) refl (plain_front _ _ Even (search rules) refl (plain_front _ _ Even (search rules) refl (plain_front _ _ Even (search rules) refl
    (plain_front _ _ Even (search rules) refl (leads_block Front Even _ _ _ constraints front))))))

-- What a table's rows lead through is written as it is spelled.
table_written : (rows : List Row) (s : List ℕ) (values : List ℤ) (scope : List ℕ) (place : ℕ) → Leads Even rows Even → Follows (form_of rows s) values scope
    → AreWritten place (items_along (form_of rows s) values) (bits_along (form_of rows s) place values)
table_written rows s values scope place leads follows =
    let here : place ≡ place + length {A = Bool} [] = omega arith in
    let at = λ (before : ℕ). spelled (form_of rows s) values scope before place place [] here follows (leads.runs s before place [] refl) in
    ((at 0).0, λ before. (at before).1)

pub structures_spelled : StructuresAreSpelled
structures_spelled _ values scope place (profile_tier_level s) follows = table_written PTL s values scope place ptl_leads follows
structures_spelled _ values scope place (dpb_parameters s) follows = table_written DPB s values scope place (plain_leads DPB dpb_plain) follows
structures_spelled _ values scope place (general_timing s) follows = table_written TIMING s values scope place (plain_leads TIMING timing_plain) follows
structures_spelled _ values scope place (timing_of_sublayers s) follows = table_written SUBLAYER_TIMING s values scope place (plain_leads SUBLAYER_TIMING sublayer_plain) follows

-- the last field of the items, or the one before them
last_field : ℕ → List Item → ℕ
last_field before [] = before
last_field before (item ∷ items) = last_field item.field items

-- a run behind a run
run_behind : (before place at : ℕ) (items more : List Item) → at ≡ place + length (run_bits before place items) → run_bits before place (items ++ more) ≡ run_bits before place items ++ run_bits (last_field before items) at more
unfolding run_bits last_field
run_behind before place at [] more here = let same : at ≡ place = omega (arith, here) in rw same refl
run_behind before place at (item ∷ items) more here =
    let next : ℕ = place + length (item_bits before place item) in
    let even : at ≡ next + length (run_bits item.field next items) = omega (arith, here, length-append (item_bits before place item) (run_bits item.field next items)) in
    rw (run_behind item.field next at items more even) (sym (append_assoc (item_bits before place item) (run_bits item.field next items) (run_bits (last_field item.field items) at more)))

pub runs_spelled : RunsAreSpelled
unfolding run_bits
runs_spelled _ _ _ no_more = (All-nil IsRunItem, λ before. refl)
runs_spelled _ _ _ (one_more {form} {values} {scope} {place} {items} {bits} is follows more) =
    let first = structures_spelled form values scope place is follows in
    let rest = runs_spelled (place + length (bits_along form place values)) items bits more in (
      All-append IsRunItem (items_along form values) items first.0 rest.0,
      λ before.
          let here : place + length (bits_along form place values) ≡ place + length (run_bits before place (items_along form values)) = rw (first.1 before) refl in
          run_behind before place _ (items_along form values) items here ∙ rw (first.1 before, rest.1 (last_field before (items_along form values))) refl,
    )
