-- That slice headers are read again, and can be rewritten.
use Rattle.std.proofs.Common.{◌≡◌, ℕ, true, List, [], ◌∷◌, ◌++◌, slice_index, refl}
use Rattle.std.proofs.lemmas.List.{append-nil}
use Rattle.vx_bits.specs.declared.list.Item.{Item}
use Rattle.vx_table.specs.declared.rows.Term.TheVariants.{Latest}
use Rattle.vx_table.specs.declared.rows.Formula.TheVariants.{Plain}
use Rattle.vx_table.specs.declared.rows.Presence.TheVariants.{When}
use Rattle.vx_table.specs.Scope.{fresh}
use Rattle.vx_table.specs.Forms.{done, ◌>>=◌, has_value, form_of}
use Rattle.vx_table.specs.Parts.{Section, always, sections_form}
use Rattle.vx_table.specs.Spelling.{items_along}
use Rattle.vx_table.specs.Depends.{has}
use Rattle.vx_table.specs.Claims.{knows_formula, knows_width, knows_range, knows_presence, hides_counter, hides_row, behind_field, within_block, depends, table_depends, behind_rows, behind_table, comes_always, behind_sections}
use Rattle.vx_table.specs.laws.Again.{shows_row}
use Rattle.vx_table.specs.Rewrites.{Takes}
use Rattle.vx_table.proofs.Again.{tables_show, sections_show, all_shown_then, answers_again}
use Rattle.vx_table.proofs.Agreeing.{agree_itself, agree_outside}
use Rattle.vx_table.proofs.Chains.{sections_carry}
use Rattle.vx_table.proofs.Dependence.{inside_with_all}
use Rattle.vx_table.proofs.EachField.{each_present}
use Rattle.vx_table.proofs.Rewrites.{tables_leave, sections_leave, leaves_together, leaves_present, takes_again}
use Rattle.vx_fields.specs.declared.sh.TheConstants.{sh_slice_address}
use Rattle.vx_fields.specs.declared.sps.TheConstants.{sps_chroma_format_idc, sps_alf_enabled_flag, sps_ccalf_enabled_flag}
use Rattle.vx_fields.specs.declared.names.sh.TheConstants.{NUM_ENTRY_POINTS, HAS_LISTS, HAS_WEIGHTS}
use Rattle.vx_rpl.specs.declared.entry.RplTable.{RplTable}
use Rattle.vx_rpl.specs.Lists.{lists_form, weights, weights_form}
use Rattle.vx_rpl.proofs.Passing.{lists_show, lists_leave}
use Rattle.vx_sh.specs.declared.tables.TheConstants.{ADDRESS, TYPE, LISTS_HERE, CHROMA_QP_AND_FILTERS, END, ALIGNMENT}
use Rattle.vx_sh.specs.Slice.{with_entry_points, address_form, own, before_lists, lists_here, between, weights_here, qp, behind_weights, front_form, sh_before_weights, rest_form}
use Rattle.vx_sh.specs.Depends.{starred_given, starred_fields}
use Rattle.vx_sh.specs.laws.Again.{kept, SlicesReadAgain, SlicesRewrite}
use Rattle.vx_sh.proofs.Kept.{kept_depend, all_depend, all_are_shown}
use Rattle.vx_ph.proofs.Admitting.{Adds, adds_none, adds_all, adds_then, adds_before, adds_sections, refilled}

pub slices_read_again : SlicesReadAgain
slices_read_again table points s t old new items after result agree reads =
    answers_again _ _ (rest_form table points s) (rest_form table points t) old new items after result ((all_depend table points).alike s t agree) ((all_are_shown table points).at s) ((all_are_shown table points).at t) reads

-- what the uses and the QP read
abbrev uses_read : List ℕ
uses_read = sps_chroma_format_idc ∷ sps_alf_enabled_flag ∷ sps_ccalf_enabled_flag ∷ starred_given

abbrev uses_shown : List ℕ
uses_shown = uses_read ++ starred_fields

-- ---- the parts

address_adds : (points : ℕ → ℕ) (t : List ℕ) → Adds kept uses_read t (address_form points) []
unfolding fresh shows_row hides_row hides_counter address_form with_entry_points
address_adds points t = adds_none (address_form points)
    record { at = λ s. all_shown_then kept (form_of ADDRESS s) (λ u. done (with_entry_points points u)) ((tables_show kept ADDRESS refl).at s) (λ u. tt) }
    (leaves_together uses_read (form_of ADDRESS) (λ u. done (with_entry_points points u)) (tables_leave uses_read ADDRESS refl)
    record { at = λ u. agree_outside uses_read u NUM_ENTRY_POINTS (points (slice_index u sh_slice_address)) refl })

uses_add : (t : List ℕ) (uses : List Item) → Takes (sections_form own t) uses → Adds kept uses_read t (sections_form own) uses
unfolding fresh shows_row hides_row hides_counter has_value knows_formula knows_width knows_range knows_presence behind_field within_block depends table_depends behind_rows behind_table comes_always
uses_add t uses takes =
    let shown = sections_show uses_shown own refl in
    adds_all (sections_form own) uses (sections_leave kept own refl) (sections_leave uses_read own refl)
    (λ u agree. takes_again uses_shown (behind_sections uses_shown uses_read own) (sections_form own t) (sections_form own u) uses
    ((sections_carry uses_shown uses_read own refl).alike (inside_with_all uses_read starred_fields) t u agree) (shown.at t) (shown.at u) takes)

delta_adds : (t : List ℕ) (delta : List Item) → Takes (sections_form qp t) delta → Adds kept uses_read t (sections_form qp) delta
unfolding fresh shows_row hides_row hides_counter has_value knows_formula knows_width knows_range knows_presence behind_field within_block depends table_depends behind_rows behind_table comes_always
delta_adds t delta takes =
    let shown = sections_show uses_shown qp refl in
    adds_all (sections_form qp) delta (sections_leave kept qp refl) (sections_leave uses_read qp refl)
    (λ u agree. takes_again uses_shown (behind_sections uses_shown uses_read qp) (sections_form qp t) (sections_form qp u) delta
    ((sections_carry uses_shown uses_read qp refl).alike (inside_with_all uses_read starred_fields) t u agree) (shown.at t) (shown.at u) takes)

before_lists_adds : (t : List ℕ) (uses : List Item) → Takes (sections_form own t) uses → Adds kept uses_read t (sections_form before_lists) uses
unfolding fresh shows_row hides_row hides_counter
before_lists_adds t uses takes =
    let first : List Section = always TYPE ∷ [] in
    let last : List Section = always LISTS_HERE ∷ [] in
    let kind = adds_none (sections_form first) (sections_show kept first refl) (sections_leave uses_read first refl) in
    let lists = adds_none (sections_form last) (sections_show kept last refl) (sections_leave uses_read last refl) in
    adds_sections first (own ++ last) [] uses kind (rw (append-nil uses) at (adds_sections own last uses [] (uses_add t uses takes) lists))

lists_add : (table : RplTable) (t : List ℕ) → Adds kept uses_read t (lists_here table) []
unfolding fresh shows_row hides_row hides_counter
lists_add table t = adds_none (lists_here table)
    record { at = λ s. each_present (λ cell. has kept cell.field ≡ true) (When (Plain (Latest HAS_LISTS))) (lists_form table) s (lists_show table kept refl).at }
    (leaves_present uses_read (Plain (Latest HAS_LISTS)) (lists_form table) (lists_leave table uses_read refl refl))

between_adds : (t : List ℕ) → Adds kept uses_read t (sections_form between) []
unfolding fresh shows_row hides_row hides_counter
between_adds t = adds_none (sections_form between) (sections_show kept between refl) (sections_leave uses_read between refl)

weights_add : (t : List ℕ) → Adds kept uses_read t weights_here []
unfolding fresh shows_row hides_row hides_counter
weights_add t = adds_none weights_here
    record { at = λ s. each_present (λ cell. has kept cell.field ≡ true) (When (Plain (Latest HAS_WEIGHTS))) weights_form s (sections_show kept weights refl).at }
    (leaves_present uses_read (Plain (Latest HAS_WEIGHTS)) weights_form (sections_leave uses_read weights refl))

behind_weights_adds : (t : List ℕ) (delta : List Item) → Takes (sections_form qp t) delta → Adds kept uses_read t (sections_form behind_weights) delta
unfolding fresh shows_row hides_row hides_counter
behind_weights_adds t delta takes =
    let last : List Section = always CHROMA_QP_AND_FILTERS ∷ always END ∷ always ALIGNMENT ∷ [] in
    rw (append-nil delta) at (adds_sections qp last delta [] (delta_adds t delta takes) (adds_none (sections_form last) (sections_show kept last refl) (sections_leave uses_read last refl)))

-- ---- the whole

rest_adds : (table : RplTable) (points : ℕ → ℕ) (t : List ℕ) (uses delta : List Item) → Takes (sections_form own t) uses → Takes (sections_form qp t) delta
    → Adds kept uses_read t (rest_form table points) (uses ++ delta)
unfolding front_form sh_before_weights rest_form
rest_adds table points t uses delta takes_uses takes_delta =
    let front : Adds kept uses_read t (front_form points) uses
    = adds_then (address_form points) (sections_form before_lists) [] uses (address_adds points t) (before_lists_adds t uses takes_uses) in
    let with_lists = adds_before (front_form points) (lists_here table) uses front (lists_add table t) in
    let before : Adds kept uses_read t (sh_before_weights table points) uses
    = adds_before (λ s. front_form points s >>= lists_here table) (sections_form between) uses with_lists (between_adds t) in
    let with_weights = adds_before (sh_before_weights table points) weights_here uses before (weights_add t) in
    adds_then (λ s. sh_before_weights table points s >>= weights_here) (sections_form behind_weights) uses delta with_weights (behind_weights_adds t delta takes_delta)

pub slices_rewrite : SlicesRewrite
slices_rewrite table points s t values end uses delta agree follows takes_uses takes_delta =
    let adds = rest_adds table points t uses delta takes_uses takes_delta in
    let is = refilled ((kept_depend table points).alike s t agree) (adds.admits t (agree_itself uses_read t)) follows in (
      items_along (rest_form table points t) is.values,
      record {
        values = is.values;
        end = is.end;
        follows = is.follows;
        all = refl;
        shown_ones = is.shown_ones;
        other_ones = is.other_ones;
      },
    )
