-- A slice header has no filter where the SPS doesn't enable it.
use Rattle.std.proofs.Common.{◌≡◌, ℕ, false, List, slice_index, refl, ap, ◌∙◌, arith}
use Rattle.std.proofs.lemmas.List.Elements.{filter-append}
use Rattle.vx_table.specs.declared.rows.Formula.TheVariants.{Plain}
use Rattle.vx_table.specs.declared.rows.Term.TheVariants.{Latest}
use Rattle.vx_table.specs.laws.Absence.{AreZero, AreHidden, is_zero, never_comes, rows_hide, zeros_behind, table_hides, behind_zeros}
use Rattle.vx_table.specs.Claims.{comes_always, hides_counter, hides_row}
use Rattle.vx_table.specs.Depends.{has, Leaves}
use Rattle.vx_table.specs.Forms.{done, ◌>>=◌, form_of}
use Rattle.vx_table.specs.Loaded.{number}
use Rattle.vx_table.specs.Parts.{sections_form}
use Rattle.vx_table.specs.Scope.{fresh}
use Rattle.vx_table.specs.Spelling.{items_along}
use Rattle.vx_table.proofs.Absence.{hidden_have_no_items, hidden_together, left_hide, sections_hide, tables_hide}
use Rattle.vx_table.proofs.Agreeing.{agree_outside}
use Rattle.vx_table.proofs.Rewrites.{leaves_present, leaves_together, sections_leave, tables_leave}
use Rattle.vx_fields.specs.declared.names.sh.TheConstants.{HAS_LISTS, HAS_WEIGHTS, NUM_ENTRY_POINTS}
use Rattle.vx_fields.specs.declared.sh.TheConstants.{sh_slice_address}
use Rattle.vx_fields.specs.declared.sps.TheConstants.{sps_alf_enabled_flag}
use Rattle.vx_layout.specs.declared.numbers.Numbers.{Numbers}
use Rattle.vx_rpl.specs.declared.entry.RplTable.{RplTable}
use Rattle.vx_rpl.specs.Lists.{lists_form, weights, weights_form}
use Rattle.vx_rpl.proofs.Passing.{lists_leave}
use Rattle.vx_ph.specs.Filter.{filter_of}
use Rattle.vx_ph.proofs.Filtering.{of_filter}
use Rattle.vx_ph.proofs.Enabled.{only, zero_alone}
use Rattle.vx_sh.specs.declared.tables.TheConstants.{ADDRESS, HEADER_INSIDE, KNOWN_SUBPIC, SUBPIC_ID}
use Rattle.vx_sh.specs.laws.Enabled.{NoSliceFilter}
use Rattle.vx_sh.specs.InForce.{at_sets}
use Rattle.vx_sh.specs.Slice.{address_form, before_lists, sh_before_weights, behind_weights, between, front_form, lists_here, rest_form, weights_here, with_entry_points}
use Rattle.vx_sh.specs.Whole.{behind_header, subpic_form, there}
use Rattle.vx_sh.proofs.Reshaping.{subpic_leaves}
use Rattle.vx_sh.proofs.SameScopes.{sps_told}

-- where the SPS has no filter
abbrev off : List ℕ
off = only sps_alf_enabled_flag

address_hides : (points : ℕ → ℕ) → AreHidden of_filter off (address_form points)
unfolding fresh hides_row hides_counter address_form with_entry_points
address_hides points =
    let leaves : (names : List ℕ) → Leaves names (form_of ADDRESS) → (has names NUM_ENTRY_POINTS ≡ false) → Leaves names (address_form points) = λ names table outside.
    leaves_together names (form_of ADDRESS) (λ t. done (with_entry_points points t)) table
    record { at = λ t. agree_outside names t NUM_ENTRY_POINTS (points (slice_index t sh_slice_address)) outside } in
    left_hide of_filter off (address_form points) (leaves of_filter (tables_leave of_filter ADDRESS refl) refl) (leaves off (tables_leave off ADDRESS refl) refl)

lists_hide : (table : RplTable) → AreHidden of_filter off (lists_here table)
unfolding fresh hides_row hides_counter
lists_hide table = left_hide of_filter off (lists_here table)
    (leaves_present of_filter (Plain (Latest HAS_LISTS)) (lists_form table) (lists_leave table of_filter refl refl))
    (leaves_present off (Plain (Latest HAS_LISTS)) (lists_form table) (lists_leave table off refl refl))

weights_hide : AreHidden of_filter off weights_here
unfolding fresh hides_row hides_counter
weights_hide = left_hide of_filter off weights_here
    (leaves_present of_filter (Plain (Latest HAS_WEIGHTS)) weights_form (sections_leave of_filter weights refl))
    (leaves_present off (Plain (Latest HAS_WEIGHTS)) weights_form (sections_leave off weights refl))

rest_hides : (table : RplTable) (points : ℕ → ℕ) → AreHidden of_filter off (rest_form table points)
unfolding rest_form sh_before_weights front_form fresh is_zero never_comes rows_hide zeros_behind table_hides behind_zeros comes_always hides_counter hides_row
rest_hides table points =
    hidden_together of_filter off (λ s. sh_before_weights table points s >>= weights_here) (sections_form behind_weights)
    (hidden_together of_filter off (sh_before_weights table points) weights_here
    (hidden_together of_filter off (λ s. front_form points s >>= lists_here table) (sections_form between)
    (hidden_together of_filter off (front_form points) (lists_here table)
    (hidden_together of_filter off (address_form points) (sections_form before_lists) (address_hides points) (sections_hide of_filter off before_lists refl))
    (lists_hide table))
    (left_hide of_filter off (sections_form between) (sections_leave of_filter between refl) (sections_leave off between refl)))
    weights_hide)
    (left_hide of_filter off (sections_form behind_weights) (sections_leave of_filter behind_weights refl) (sections_leave off behind_weights refl))

behind_hides : (table : RplTable) (ids : List ℕ) (layout : Numbers) → AreHidden of_filter off (behind_header table ids layout)
unfolding behind_header fresh hides_row hides_counter
behind_hides table ids layout =
    hidden_together of_filter off (subpic_form ids layout) (there table layout)
    (left_hide of_filter off (subpic_form ids layout)
    (subpic_leaves of_filter ids layout (tables_leave of_filter SUBPIC_ID refl) (tables_leave of_filter KNOWN_SUBPIC refl) refl refl refl)
    (subpic_leaves off ids layout (tables_leave off SUBPIC_ID refl) (tables_leave off KNOWN_SUBPIC refl) refl refl refl))
    record { at = λ s are. (rest_hides table _).at s are }

first_hides : AreHidden of_filter off (form_of HEADER_INSIDE)
unfolding fresh is_zero never_comes rows_hide table_hides
first_hides = tables_hide of_filter off HEADER_INSIDE refl

pub no_slice_filter : NoSliceFilter
no_slice_filter nal_type sps pps header ids layout fields inside f none =
    let n = at_sets nal_type sps pps header ids layout in
    let are : AreZero off n.slice = zero_alone sps_alf_enabled_flag n.slice (number sps sps_alf_enabled_flag) (sps_told nal_type sps pps header sps_alf_enabled_flag (omega arith)) none in
    let first = hidden_have_no_items of_filter off (form_of HEADER_INSIDE) n.slice f.first f.at first_hides are f.begins in
    let behind = hidden_have_no_items of_filter off (behind_header n.table n.ids n.layout) f.at f.behind f.end (behind_hides n.table n.ids n.layout) first.1 f.ends in
    ap (λ xs. filter_of xs) f.all
    ∙ filter-append (λ item. has of_filter item.field) (items_along (form_of HEADER_INSIDE n.slice) f.first) (items_along (behind_header n.table n.ids n.layout f.at) f.behind)
    ∙ rw (first.0, behind.0) refl
