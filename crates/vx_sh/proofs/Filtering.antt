-- The filter of a slice header goes through its table.
use Rattle.std.proofs.Common.{◌≡◌, ℕ, ℤ, ◌<◌, ◌==◌, true, List, [], ◌∷◌, length, slice_index, slice_set, refl, ap, sym, subst, ◌∙◌, arith}
use Rattle.std.proofs.lemmas.Bool.{not-true}
use Rattle.std.proofs.lemmas.Grind.{get_or-set_at}
use Rattle.std.proofs.lemmas.List.{get_or-set_other}
use Rattle.vx_table.specs.declared.rows.Formula.TheVariants.{Plain}
use Rattle.vx_table.specs.declared.rows.Presence.TheVariants.{When}
use Rattle.vx_table.specs.declared.rows.Row.{Row}
use Rattle.vx_table.specs.declared.rows.Term.TheVariants.{Latest, Number}
use Rattle.vx_table.specs.Claims.{hides_counter, hides_row}
use Rattle.vx_table.specs.Depends.{Leaves}
use Rattle.vx_table.specs.EachField.{EachField, rows_pass}
use Rattle.vx_table.specs.Forms.{Form, done, ◌>>=◌, form_of, part, present}
use Rattle.vx_table.specs.Parts.{Section, always, provided, sections_form}
use Rattle.vx_table.specs.Rewrites.{Takes}
use Rattle.vx_table.specs.Scope.{fresh, is_set, value}
use Rattle.vx_table.specs.Spelling.{items_along}
use Rattle.vx_table.specs.Values.{Follows}
use Rattle.vx_table.proofs.Agreeing.{agree_on, agree_outside}
use Rattle.vx_table.proofs.EachField.{each_of_rows, each_of_sections, each_present, each_then}
use Rattle.vx_table.proofs.Joined.{parted}
use Rattle.vx_table.proofs.Rewrites.{leaves_agree, leaves_present, leaves_together, tables_leave}
use Rattle.vx_fields.specs.declared.names.sh.TheConstants.{HAS_ALF, HAS_LISTS, HAS_WEIGHTS, NUM_ENTRY_POINTS}
use Rattle.vx_fields.specs.declared.pps.TheConstants.{pps_alf_info_in_ph_flag}
use Rattle.vx_fields.specs.declared.sh.TheConstants.{sh_slice_address}
use Rattle.vx_fields.specs.declared.sps.TheConstants.{sps_alf_enabled_flag, sps_ccalf_enabled_flag, sps_chroma_format_idc}
use Rattle.vx_rpl.specs.declared.entry.RplTable.{RplTable}
use Rattle.vx_rpl.specs.Lists.{lists_form, weights, weights_form}
use Rattle.vx_rpl.proofs.Passing.{lists_each}
use Rattle.vx_pps.proofs.Cutting.{none_shown}
use Rattle.vx_pps.proofs.Framing.{unshown_first}
use Rattle.vx_ph.specs.declared.tables.TheConstants.{ALF}
use Rattle.vx_ph.specs.Filter.{filter_of}
use Rattle.vx_ph.proofs.Filtering.{HasNone, all_of_it, none_row, of_filter, of_first, of_second}
use Rattle.vx_ph.proofs.Renaming.{filter_again}
use Rattle.vx_sh.specs.declared.tables.TheConstants.{ADDRESS, FILTER_HERE, HEADER_INSIDE, KNOWN_SUBPIC, LMCS_AND_SCALING, LISTS_HERE, SUBPIC_ID, TYPE}
use Rattle.vx_sh.specs.laws.Filter.{SliceHasFilter}
use Rattle.vx_sh.specs.Slice.{address_form, before_lists, sh_before_weights, behind_weights, between, front_form, lists_here, rest_form, weights_here, with_entry_points}
use Rattle.vx_sh.specs.Whole.{behind_header, subpic_form, there}
use Rattle.vx_sh.proofs.Depending.{subpic_passes}
use Rattle.vx_sh.proofs.Reshaping.{subpic_leaves}
use Rattle.vx_sh.proofs.Told.{done_is}

abbrev reads : List ℕ
reads = sps_alf_enabled_flag ∷ pps_alf_info_in_ph_flag ∷ sps_chroma_format_idc ∷ sps_ccalf_enabled_flag ∷ []

-- a table that is always there
abbrev once : List Row → List ℕ → Form (List ℕ)
once rows = present (When (Plain (Number 1))) (form_of rows)

none_once : (rows : List Row) (s : List ℕ) → rows_pass (hides_row of_filter) rows ≡ true → EachField HasNone (once rows s)
none_once rows s pass = each_present HasNone (When (Plain (Number 1))) (form_of rows) s (λ t. each_of_rows HasNone (hides_row of_filter) none_row rows t pass)

-- ---- where the filter stands

alf_if : List ℕ → Form (List ℕ)
alf_if = present (When (Plain (Latest HAS_ALF))) (form_of ALF)

alf_is : (s : List ℕ) → is_set (slice_index s HAS_ALF) ≡ true → alf_if s ≡ form_of ALF s
unfolding alf_if present value
alf_is s is = rw (not-true (slice_index s HAS_ALF == 0) is) refl

here_is : (t : List ℕ) → slice_index t pps_alf_info_in_ph_flag ≡ 0 → once FILTER_HERE t ≡ done (slice_set t HAS_ALF (slice_index t sps_alf_enabled_flag))
unfolding present value form_of part
here_is t apart =
    let still : slice_index (slice_set t HAS_ALF (slice_index t sps_alf_enabled_flag)) pps_alf_info_in_ph_flag ≡ 0
    = get_or-set_other t HAS_ALF pps_alf_info_in_ph_flag (slice_index t sps_alf_enabled_flag) 0 (λ e. absurd (omega (arith, e))) ∙ apart in
    rw still refl

type_leaves : Leaves reads (once TYPE)
unfolding fresh hides_counter hides_row
type_leaves = leaves_present reads (Plain (Number 1)) (form_of TYPE) (tables_leave reads TYPE refl)

here_leaves : Leaves reads (once FILTER_HERE)
unfolding fresh hides_counter hides_row
here_leaves = leaves_present reads (Plain (Number 1)) (form_of FILTER_HERE) (tables_leave reads FILTER_HERE refl)

abbrev behind_filter : List Section
behind_filter = always LMCS_AND_SCALING ∷ always LISTS_HERE ∷ []

abbrev from_filter : List Section
from_filter = provided (Plain (Latest HAS_ALF)) ALF ∷ behind_filter

none_type : (s : List ℕ) → EachField HasNone (once TYPE s)
unfolding fresh hides_row hides_counter
none_type s = none_once TYPE s refl

none_here : (s : List ℕ) → EachField HasNone (once FILTER_HERE s)
unfolding fresh hides_row hides_counter
none_here s = none_once FILTER_HERE s refl

none_behind : (s : List ℕ) → EachField HasNone (sections_form behind_filter s)
unfolding fresh hides_row hides_counter
none_behind s = each_of_sections HasNone (hides_row of_filter) none_row behind_filter s refl

own_has : (s : List ℕ) {w : List ℤ} {end : List ℕ} → length s ≡ 1024 → is_set (slice_index s sps_alf_enabled_flag) ≡ true → slice_index s pps_alf_info_in_ph_flag ≡ 0
    → Follows (sections_form before_lists s) w end → Takes (form_of ALF s) (filter_of (items_along (sections_form before_lists s) w))
unfolding sections_form alf_if fresh
own_has s {w} {end} size has_it apart on =
    let p = parted (once TYPE s) (sections_form (always FILTER_HERE ∷ from_filter)) on in
    let first = leaves_agree reads (once TYPE) s p.front p.mid type_leaves p.first in
    let q = parted (once FILTER_HERE p.mid) (sections_form from_filter) p.second in
    let left = agree_on first (leaves_agree reads (once FILTER_HERE) p.mid q.front q.mid here_leaves q.first) in
    let is_done = here_is p.mid (sym (first.same pps_alf_info_in_ph_flag refl) ∙ apart) in
    let follows_done : Follows (done (slice_set p.mid HAS_ALF (slice_index p.mid sps_alf_enabled_flag))) q.front q.mid = subst (λ f. Follows f q.front q.mid) is_done q.first in
    let within : HAS_ALF < length p.mid = omega (arith, first.size, size) in
    let told : slice_index q.mid HAS_ALF ≡ slice_index s sps_alf_enabled_flag
    = ap (λ u. slice_index u HAS_ALF) (sym (done_is follows_done)) ∙ get_or-set_at p.mid HAS_ALF HAS_ALF (slice_index p.mid sps_alf_enabled_flag) 0 refl within ∙ sym (first.same sps_alf_enabled_flag refl) in
    let alf = alf_is q.mid (ap is_set told ∙ has_it) in
    let r = parted (alf_if q.mid) (sections_form behind_filter) q.second in
    let follows : Follows (form_of ALF q.mid) r.front r.mid = subst (λ f. Follows f r.front r.mid) alf r.first in
    let items : filter_of (items_along (sections_form before_lists s) w) ≡ items_along (form_of ALF q.mid) r.front
    = of_second (sections_form (always FILTER_HERE ∷ from_filter)) p (none_type s) ∙ of_second (sections_form from_filter) q (none_here p.mid) ∙ of_first (sections_form behind_filter) r (none_behind r.mid)
    ∙ ap (λ f. filter_of (items_along f r.front)) alf ∙ all_of_it q.mid follows in
    filter_again q.mid s _ (sym left.size) (sym (left.same sps_chroma_format_idc refl)) (sym (left.same sps_ccalf_enabled_flag refl))
    (record { values = r.front; end = r.mid; follows = follows; all = sym items })

-- ---- behind the id

address_leaves : (points : ℕ → ℕ) → Leaves reads (address_form points)
unfolding fresh hides_row hides_counter address_form with_entry_points
address_leaves points = leaves_together reads (form_of ADDRESS) (λ t. done (with_entry_points points t)) (tables_leave reads ADDRESS refl)
    record { at = λ t. agree_outside reads t NUM_ENTRY_POINTS (points (slice_index t sh_slice_address)) refl }

none_address : (points : ℕ → ℕ) (s : List ℕ) → EachField HasNone (address_form points s)
unfolding fresh hides_row hides_counter address_form
none_address points s = each_then HasNone (form_of ADDRESS s) (λ t. done (with_entry_points points t)) (each_of_rows HasNone (hides_row of_filter) none_row ADDRESS s refl) (λ t. tt)

none_lists : (table : RplTable) (s : List ℕ) → EachField HasNone (lists_here table s)
unfolding fresh hides_row hides_counter
none_lists table s = each_present HasNone (When (Plain (Latest HAS_LISTS))) (lists_form table) s (λ t. lists_each HasNone (hides_row of_filter) none_row table t refl)

none_between : (s : List ℕ) → EachField HasNone (sections_form between s)
unfolding fresh hides_row hides_counter
none_between s = each_of_sections HasNone (hides_row of_filter) none_row between s refl

none_weights : (s : List ℕ) → EachField HasNone (weights_here s)
unfolding fresh hides_row hides_counter
none_weights s = each_present HasNone (When (Plain (Latest HAS_WEIGHTS))) weights_form s (λ t. each_of_sections HasNone (hides_row of_filter) none_row weights t refl)

none_last : (s : List ℕ) → EachField HasNone (sections_form behind_weights s)
unfolding fresh hides_row hides_counter
none_last s = each_of_sections HasNone (hides_row of_filter) none_row behind_weights s refl

rest_has : (table : RplTable) (points : ℕ → ℕ) (s : List ℕ) {w : List ℤ} {end : List ℕ} → length s ≡ 1024 → is_set (slice_index s sps_alf_enabled_flag) ≡ true → slice_index s pps_alf_info_in_ph_flag ≡ 0
    → Follows (rest_form table points s) w end → Takes (form_of ALF s) (filter_of (items_along (rest_form table points s) w))
unfolding rest_form sh_before_weights front_form fresh
rest_has table points s {w} {end} size has_it apart on =
    let a = parted (sh_before_weights table points s >>= weights_here) (sections_form behind_weights) on in
    let b = parted (sh_before_weights table points s) weights_here a.first in
    let c = parted (front_form points s >>= lists_here table) (sections_form between) b.first in
    let d = parted (front_form points s) (lists_here table) c.first in
    let e = parted (address_form points s) (sections_form before_lists) d.first in
    let left = leaves_agree reads (address_form points) s e.front e.mid (address_leaves points) e.first in
    let same : filter_of (items_along (rest_form table points s) w) ≡ filter_of (items_along (sections_form before_lists e.mid) e.others)
    = of_first (sections_form behind_weights) a (none_last a.mid) ∙ of_first weights_here b (none_weights b.mid) ∙ of_first (sections_form between) c (none_between c.mid)
    ∙ of_first (lists_here table) d (none_lists table d.mid) ∙ of_second (sections_form before_lists) e (none_address points s) in
    let takes = own_has e.mid (sym left.size ∙ size) (ap is_set (sym (left.same sps_alf_enabled_flag refl)) ∙ has_it) (sym (left.same pps_alf_info_in_ph_flag refl) ∙ apart) e.second in
    subst (λ xs. Takes (form_of ALF s) xs) (sym same)
    (filter_again e.mid s _ (sym left.size) (sym (left.same sps_chroma_format_idc refl)) (sym (left.same sps_ccalf_enabled_flag refl)) takes)

-- ---- the whole

pub slice_has_filter : SliceHasFilter
unfolding behind_header fresh hides_row hides_counter
slice_has_filter n fields inside f size has_it apart =
    let b = parted (subpic_form n.ids n.layout f.at) (there n.table n.layout) f.ends in
    let left = agree_on (leaves_agree reads (form_of HEADER_INSIDE) n.slice f.first f.at (tables_leave reads HEADER_INSIDE refl) f.begins)
    (leaves_agree reads (subpic_form n.ids n.layout) f.at b.front b.mid (subpic_leaves reads n.ids n.layout (tables_leave reads SUBPIC_ID refl) (tables_leave reads KNOWN_SUBPIC refl) refl refl refl) b.first) in
    let same : filter_of fields ≡ filter_of (items_along (there n.table n.layout b.mid) b.others)
    = ap (λ xs. filter_of xs) f.all
    ∙ unshown_first of_filter (items_along (form_of HEADER_INSIDE n.slice) f.first) (items_along (behind_header n.table n.ids n.layout f.at) f.behind)
    (none_shown of_filter (each_of_rows HasNone (hides_row of_filter) none_row HEADER_INSIDE n.slice refl) f.begins)
    ∙ of_second (there n.table n.layout) b (subpic_passes HasNone (hides_row of_filter) none_row n.ids n.layout f.at refl refl) in
    let takes = rest_has n.table _ b.mid (sym left.size ∙ size) (ap is_set (sym (left.same sps_alf_enabled_flag refl)) ∙ has_it) (sym (left.same pps_alf_info_in_ph_flag refl) ∙ apart) b.second in
    subst (λ xs. Takes (form_of ALF n.slice) xs) (sym same)
    (filter_again b.mid n.slice _ (sym left.size) (sym (left.same sps_chroma_format_idc refl)) (sym (left.same sps_ccalf_enabled_flag refl)) takes)
