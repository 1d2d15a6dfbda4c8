-- What is known goes along a slice header behind the id, part by part.
use Rattle.std.proofs.Common.{◌≡◌, ℕ, Bool, true, IsTrue, List, slice_index, ap, sym}
use Rattle.vx_table.specs.declared.rows.Cell.{Cell}
use Rattle.vx_table.specs.declared.rows.Formula.{Formula}
use Rattle.vx_table.specs.declared.rows.Row.{Row}
use Rattle.vx_table.specs.declared.rows.Row.TheVariants.{Field}
use Rattle.vx_table.specs.declared.rows.Term.TheVariants.{Latest}
use Rattle.vx_table.specs.declared.rows.Formula.TheVariants.{Plain}
use Rattle.vx_table.specs.declared.rows.Presence.TheVariants.{When}
use Rattle.vx_table.specs.Forms.{done, ◌>>=◌, cell_at, form_of}
use Rattle.vx_table.specs.Parts.{sections_form}
use Rattle.vx_table.specs.EachField.{EachField, rows_pass, sections_pass}
use Rattle.vx_table.specs.Depends.{has, at_ends, Carries}
use Rattle.vx_table.specs.Claims.{knows_formula, knows_presence, within_block, grown, table_depends, behind_table, sections_chain, behind_sections}
use Rattle.vx_table.proofs.Agreeing.{inside_grown, grows}
use Rattle.vx_table.proofs.Dependence.{agree_grown}
use Rattle.vx_table.proofs.EachField.{each_then, each_present, each_of_rows, each_of_sections}
use Rattle.vx_table.proofs.Chains.{table_carries, sections_carry, carries_together, carries_present}
use Rattle.vx_fields.specs.declared.sh.TheConstants.{sh_slice_address}
use Rattle.vx_layout.specs.declared.numbers.Numbers.{Numbers}
use Rattle.vx_fields.specs.declared.names.sh.TheConstants.{NUM_ENTRY_POINTS, HAS_LISTS, HAS_WEIGHTS}
use Rattle.vx_rpl.specs.declared.entry.RplTable.{RplTable}
use Rattle.vx_rpl.specs.Lists.{lists_form, weights, weights_form}
use Rattle.vx_rpl.specs.Depends.{lists_pass}
use Rattle.vx_rpl.proofs.Passing.{lists_each}
use Rattle.vx_sh.specs.declared.tables.TheConstants.{SUBPIC_ID, KNOWN_SUBPIC, ADDRESS}
use Rattle.vx_sh.specs.Slice.{with_entry_points, address_form, before_lists, lists_here, between, weights_here, behind_weights, front_form, sh_before_weights, rest_form}
use Rattle.vx_sh.specs.Whole.{located, subpic_id_form, subpic_form, points_of, there, behind_header}

-- where the address is known, so is the number of entry points
pub points_carry : (points : ℕ → ℕ) (shown known : List ℕ) → IsTrue (has known sh_slice_address)
    → Carries shown known (grown shown known NUM_ENTRY_POINTS) (λ t. done (with_entry_points points t))
unfolding with_entry_points
points_carry points shown known at = record {
  alike = λ inside s t agree.
      let same : points (slice_index s sh_slice_address) ≡ points (slice_index t sh_slice_address) = ap points (agree.same sh_slice_address at) in
      at_ends (rw same (agree_grown shown known NUM_ENTRY_POINTS (points (slice_index t sh_slice_address)) agree));
  inside = λ inside. inside_grown NUM_ENTRY_POINTS inside;
  grows = grows shown known NUM_ENTRY_POINTS;
}

-- of what is known behind each part
pub rest_carries : (table : RplTable) (points : ℕ → ℕ) (shown a b c d behind_lists e f : List ℕ)
    → table_depends shown a ADDRESS ≡ true → behind_table shown a ADDRESS ≡ b → IsTrue (has b sh_slice_address) → grown shown b NUM_ENTRY_POINTS ≡ c
    → sections_chain shown c before_lists ≡ true → behind_sections shown c before_lists ≡ d
    → knows_formula d (Plain (Latest HAS_LISTS)) ≡ true → Carries shown d behind_lists (lists_form table)
    → sections_chain shown d between ≡ true → behind_sections shown d between ≡ e
    → knows_formula e (Plain (Latest HAS_WEIGHTS)) ≡ true → sections_chain shown e weights ≡ true
    → sections_chain shown e behind_weights ≡ true → behind_sections shown e behind_weights ≡ f
    → Carries shown a f (rest_form table points)
unfolding address_form front_form sh_before_weights rest_form knows_presence within_block
rest_carries table points shown a b c d behind_lists e f test_a is_b at is_c test_c is_d knows_d lists test_d is_e knows_e weights_test test_e is_f =
    let first : Carries shown a b (form_of ADDRESS) = rw (sym is_b) (table_carries shown a ADDRESS test_a) in
    let counted : Carries shown b c (λ t. done (with_entry_points points t)) = rw (sym is_c) (points_carry points shown b at) in
    let address : Carries shown a c (address_form points) = carries_together shown a b c (form_of ADDRESS) (λ t. done (with_entry_points points t)) first counted in
    let second : Carries shown c d (sections_form before_lists) = rw (sym is_d) (sections_carry shown c before_lists test_c) in
    let front : Carries shown a d (front_form points) = carries_together shown a c d (address_form points) (sections_form before_lists) address second in
    let with_lists = carries_together shown a d d (front_form points) (lists_here table) front
    (carries_present shown d behind_lists (When (Plain (Latest HAS_LISTS))) (lists_form table) knows_d lists) in
    let third : Carries shown d e (sections_form between) = rw (sym is_e) (sections_carry shown d between test_d) in
    let before : Carries shown a e (sh_before_weights table points)
    = carries_together shown a d e (λ s. front_form points s >>= lists_here table) (sections_form between) with_lists third in
    let with_weights = carries_together shown a e e (sh_before_weights table points) weights_here before
    (carries_present shown e (behind_sections shown e weights) (When (Plain (Latest HAS_WEIGHTS))) weights_form knows_e (sections_carry shown e weights weights_test)) in
    let last : Carries shown e f (sections_form behind_weights) = rw (sym is_f) (sections_carry shown e behind_weights test_e) in
    carries_together shown a e f (λ s. sh_before_weights table points s >>= weights_here) (sections_form behind_weights) with_weights last

-- what holds of each field of the parts holds of each field
pub rest_each : (P : Cell ℕ → Type 0) (table : RplTable) (points : ℕ → ℕ) → ((s : List ℕ) → EachField P (form_of ADDRESS s)) → ((s : List ℕ) → EachField P (sections_form before_lists s))
    → ((s : List ℕ) → EachField P (lists_form table s)) → ((s : List ℕ) → EachField P (sections_form between s)) → ((s : List ℕ) → EachField P (weights_form s))
    → ((s : List ℕ) → EachField P (sections_form behind_weights s)) → (s : List ℕ) → EachField P (rest_form table points s)
unfolding address_form front_form sh_before_weights rest_form
rest_each P table points address second lists third weights_each last s =
    let in_address : EachField P (address_form points s) = each_then P (form_of ADDRESS s) (λ t. done (with_entry_points points t)) (address s) (λ t. tt) in
    let in_front : EachField P (front_form points s) = each_then P (address_form points s) (sections_form before_lists) in_address second in
    let in_lists : EachField P (front_form points s >>= lists_here table)
    = each_then P (front_form points s) (lists_here table) in_front (λ t. each_present P (When (Plain (Latest HAS_LISTS))) (lists_form table) t lists) in
    let in_before : EachField P (sh_before_weights table points s) = each_then P (front_form points s >>= lists_here table) (sections_form between) in_lists third in
    let in_weights : EachField P (sh_before_weights table points s >>= weights_here)
    = each_then P (sh_before_weights table points s) weights_here in_before (λ t. each_present P (When (Plain (Latest HAS_WEIGHTS))) weights_form t weights_each) in
    each_then P (sh_before_weights table points s >>= weights_here) (sections_form behind_weights) in_weights last

-- a test of all rows behind a picture header
pub record Pass (test : Row → Bool) : Type 0 where
  pub id : rows_pass test SUBPIC_ID ≡ true
  pub known : rows_pass test KNOWN_SUBPIC ≡ true
  pub address : rows_pass test ADDRESS ≡ true
  pub before_lists : sections_pass test before_lists ≡ true
  pub lists : lists_pass test ≡ true
  pub between : sections_pass test between ≡ true
  pub weights : sections_pass test weights ≡ true
  pub behind_weights : sections_pass test behind_weights ≡ true

-- of the rows behind the id
pub record RestPass (test : Row → Bool) : Type 0 where
  pub address : rows_pass test ADDRESS ≡ true
  pub before_lists : sections_pass test before_lists ≡ true
  pub lists : lists_pass test ≡ true
  pub between : sections_pass test between ≡ true
  pub weights : sections_pass test weights ≡ true
  pub behind_weights : sections_pass test behind_weights ≡ true

pub rest_passes : (P : Cell ℕ → Type 0) (test : Row → Bool) (sound : (c : Cell Formula) (s : List ℕ) → test (Field c) ≡ true → P (cell_at s c)) (table : RplTable) (points : ℕ → ℕ) (s : List ℕ)
    → RestPass test → EachField P (rest_form table points s)
rest_passes P test sound table points s pass =
    rest_each P table points (λ u. each_of_rows P test sound ADDRESS u pass.address) (λ u. each_of_sections P test sound before_lists u pass.before_lists)
    (λ u. lists_each P test sound table u pass.lists) (λ u. each_of_sections P test sound between u pass.between) (λ u. each_of_sections P test sound weights u pass.weights)
    (λ u. each_of_sections P test sound behind_weights u pass.behind_weights) s

-- of the id
pub subpic_passes : (P : Cell ℕ → Type 0) (test : Row → Bool) (sound : (c : Cell Formula) (s : List ℕ) → test (Field c) ≡ true → P (cell_at s c)) (ids : List ℕ) (layout : Numbers) (s : List ℕ)
    → rows_pass test SUBPIC_ID ≡ true → rows_pass test KNOWN_SUBPIC ≡ true → EachField P (subpic_form ids layout s)
unfolding subpic_form subpic_id_form
subpic_passes P test sound ids layout s id known =
    each_then P (subpic_id_form ids layout s) (form_of KNOWN_SUBPIC)
    (each_then P (form_of SUBPIC_ID s) (λ u. done (located ids layout u)) (each_of_rows P test sound SUBPIC_ID s id) (λ u. tt)) (λ u. each_of_rows P test sound KNOWN_SUBPIC u known)

pub behind_each : (P : Cell ℕ → Type 0) (test : Row → Bool) (sound : (c : Cell Formula) (s : List ℕ) → test (Field c) ≡ true → P (cell_at s c)) (table : RplTable) (ids : List ℕ) (layout : Numbers) (s : List ℕ)
    → Pass test → EachField P (behind_header table ids layout s)
unfolding behind_header
behind_each P test sound table ids layout s pass =
    each_then P (subpic_form ids layout s) (there table layout) (subpic_passes P test sound ids layout s pass.id pass.known) (λ t. rest_passes P test sound table (points_of layout t) t
    (record { address = pass.address; before_lists = pass.before_lists; lists = pass.lists; between = pass.between; weights = pass.weights; behind_weights = pass.behind_weights }))
