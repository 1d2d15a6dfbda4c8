-- The filter of a picture header goes through its table.
use Rattle.std.proofs.Common.{◌≡◌, ℕ, ℤ, true, IsFalse, List, [], ◌∷◌, ◌++◌, slice_index, refl, ap, sym, subst, ◌∙◌}
use Rattle.std.proofs.lemmas.Bool.{not-true}
use Rattle.vx_table.specs.declared.rows.Cell.{Cell}
use Rattle.vx_table.specs.declared.rows.Formula.{Formula}
use Rattle.vx_table.specs.declared.rows.Formula.TheVariants.{Plain}
use Rattle.vx_table.specs.declared.rows.Presence.TheVariants.{When}
use Rattle.vx_table.specs.declared.rows.Row.TheVariants.{Field}
use Rattle.vx_table.specs.declared.rows.Term.TheVariants.{Latest}
use Rattle.vx_table.specs.Claims.{hides_counter, hides_row}
use Rattle.vx_table.specs.Depends.{has}
use Rattle.vx_table.specs.EachField.{EachField}
use Rattle.vx_table.specs.Forms.{Form, ◌>>=◌, form_of, present}
use Rattle.vx_table.specs.laws.Again.{AllShown, shows_row}
use Rattle.vx_table.specs.Parts.{Section, always, sections_form}
use Rattle.vx_table.specs.Rewrites.{Takes}
use Rattle.vx_table.specs.Scope.{fresh, is_set, value}
use Rattle.vx_table.specs.Shown.{shown_items}
use Rattle.vx_table.specs.Spelling.{item_of, items_along}
use Rattle.vx_table.specs.Values.{Follows, Parted, to_end, through}
use Rattle.vx_table.proofs.Again.{tables_show}
use Rattle.vx_table.proofs.EachField.{each_of_sections, each_present}
use Rattle.vx_table.proofs.Groups.{cut}
use Rattle.vx_table.proofs.Joined.{items_joined, parted}
use Rattle.vx_table.proofs.Rewrites.{leaves_agree, sections_leave}
use Rattle.vx_table.proofs.Shown.{shown_here}
use Rattle.vx_fields.specs.declared.alf.TheConstants as alf
use Rattle.vx_fields.specs.declared.pps.TheConstants.{pps_alf_info_in_ph_flag, pps_rpl_info_in_ph_flag}
use Rattle.vx_fields.specs.declared.sps.TheConstants.{sps_alf_enabled_flag, sps_ccalf_enabled_flag, sps_chroma_format_idc}
use Rattle.vx_fields.specs.declared.names.ph.TheConstants.{HAS_WEIGHTS}
use Rattle.vx_rpl.specs.declared.entry.RplTable.{RplTable}
use Rattle.vx_rpl.specs.Lists.{lists_form, weights, weights_form}
use Rattle.vx_rpl.proofs.Passing.{lists_each}
use Rattle.vx_pps.proofs.Cutting.{cut_items, none_shown}
use Rattle.vx_pps.proofs.Framing.{unshown_behind, unshown_first}
use Rattle.vx_ph.specs.declared.tables.TheConstants.{ALF, LMCS_AND_SCALING, ORDER_COUNT, OUTPUT, PICTURE, PPS_ID}
use Rattle.vx_ph.specs.Filter.{HeaderHasFilter, filter_of}
use Rattle.vx_ph.specs.Header.{back, ph_before_weights, ph_before_lists, header_form, lists_if_present, middle, weights_if_present}
use Rattle.vx_ph.proofs.Renaming.{filter_again}
use Rattle.vx_ph.proofs.Rewriting.{filter_if, filter_section}

-- the filter's fields
abbrev pub of_filter : List ℕ
of_filter = alf.ALL

-- ---- parts that have none of them

abbrev pub HasNone : Cell ℕ → Type 0
HasNone cell = IsFalse (has of_filter cell.field)

pub none_row : (c : Cell Formula) (s : List ℕ) → hides_row of_filter (Field c) ≡ true → IsFalse (has of_filter c.field)
unfolding hides_row
none_row c s h = not-true (has of_filter c.field) h

pub of_first : {f : Form (List ℕ)} (next : List ℕ → Form (List ℕ)) {values : List ℤ} {end : List ℕ} (p : Parted f next values end) → EachField HasNone (next p.mid)
    → filter_of (items_along (f >>= next) values) ≡ filter_of (items_along f p.front)
of_first {f} next p none =
    ap (λ w. filter_of (items_along (f >>= next) w)) p.all ∙ ap (λ xs. filter_of xs) (items_joined next p.others p.first)
    ∙ unshown_behind of_filter (items_along f p.front) (items_along (next p.mid) p.others) (none_shown of_filter none p.second)

pub of_second : {f : Form (List ℕ)} (next : List ℕ → Form (List ℕ)) {values : List ℤ} {end : List ℕ} (p : Parted f next values end) → EachField HasNone f
    → filter_of (items_along (f >>= next) values) ≡ filter_of (items_along (next p.mid) p.others)
of_second {f} next p none =
    ap (λ w. filter_of (items_along (f >>= next) w)) p.all ∙ ap (λ xs. filter_of xs) (items_joined next p.others p.first)
    ∙ unshown_first of_filter (items_along f p.front) (items_along (next p.mid) p.others) (none_shown of_filter none p.first)

-- ---- the table has no others

shown_all : {f : Form (List ℕ)} {w : List ℤ} {a : List ℕ} → AllShown of_filter f → Follows f w a → shown_items of_filter (items_along f w) ≡ items_along f w
shown_all all to_end = refl
shown_all all (through {cell} {goes} {v} {w} value_ on) = shown_here of_filter cell v (items_along (goes v) w) all.0 ∙ ap (λ x. item_of cell v ++ x) (shown_all (all.1 v) on)

pub all_of_it : (s : List ℕ) {w : List ℤ} {a : List ℕ} → Follows (form_of ALF s) w a → filter_of (items_along (form_of ALF s) w) ≡ items_along (form_of ALF s) w
unfolding fresh shows_row
all_of_it s on = shown_all ((tables_show of_filter ALF refl).at s) on

-- ---- a picture header

abbrev before_filter : List Section
before_filter = always PICTURE ∷ always PPS_ID ∷ always ORDER_COUNT ∷ []

abbrev behind_filter : List Section
behind_filter = always LMCS_AND_SCALING ∷ always OUTPUT ∷ []

abbrev reads : List ℕ
reads = sps_alf_enabled_flag ∷ pps_alf_info_in_ph_flag ∷ sps_chroma_format_idc ∷ sps_ccalf_enabled_flag ∷ []

is_there : (s : List ℕ) → is_set (slice_index s sps_alf_enabled_flag) ≡ true → is_set (slice_index s pps_alf_info_in_ph_flag) ≡ true → filter_if s ≡ form_of ALF s
unfolding filter_if present value
is_there s has_it here = rw (has_it, here) refl

none_behind : (s : List ℕ) → EachField HasNone (sections_form behind_filter s)
unfolding fresh hides_row hides_counter
none_behind s = each_of_sections HasNone (hides_row of_filter) none_row behind_filter s refl

none_before : (s : List ℕ) → EachField HasNone (sections_form before_filter s)
unfolding fresh hides_row hides_counter
none_before s = each_of_sections HasNone (hides_row of_filter) none_row before_filter s refl

none_lists : (table : RplTable) (s : List ℕ) → EachField HasNone (lists_if_present table s)
unfolding fresh hides_row hides_counter
none_lists table s = each_present HasNone (When (Plain (Latest pps_rpl_info_in_ph_flag))) (lists_form table) s (λ t. lists_each HasNone (hides_row of_filter) none_row table t refl)

none_middle : (s : List ℕ) → EachField HasNone (sections_form middle s)
unfolding fresh hides_row hides_counter
none_middle s = each_of_sections HasNone (hides_row of_filter) none_row middle s refl

none_weights : (s : List ℕ) → EachField HasNone (weights_if_present s)
unfolding fresh hides_row hides_counter
none_weights s = each_present HasNone (When (Plain (Latest HAS_WEIGHTS))) weights_form s (λ t. each_of_sections HasNone (hides_row of_filter) none_row weights t refl)

none_back : (s : List ℕ) → EachField HasNone (sections_form back s)
unfolding fresh hides_row hides_counter
none_back s = each_of_sections HasNone (hides_row of_filter) none_row back s refl

in_front : (s : List ℕ) (values : List ℤ) (end : List ℕ) → is_set (slice_index s sps_alf_enabled_flag) ≡ true → is_set (slice_index s pps_alf_info_in_ph_flag) ≡ true → Follows (sections_form ph_before_lists s) values end
    → Takes (form_of ALF s) (filter_of (items_along (sections_form ph_before_lists s) values))
unfolding sections_form filter_if fresh hides_row hides_counter
in_front s values end has_it here on =
    let more = sections_form (filter_section ∷ behind_filter) in
    let p = cut before_filter (filter_section ∷ behind_filter) s on in
    let left = leaves_agree reads (sections_form before_filter) s p.front p.mid (sections_leave reads before_filter refl) p.first in
    let q = parted (filter_if p.mid) (sections_form behind_filter) p.second in
    let there = is_there p.mid (ap is_set (sym (left.same sps_alf_enabled_flag refl)) ∙ has_it) (ap is_set (sym (left.same pps_alf_info_in_ph_flag refl)) ∙ here) in
    let follows : Follows (form_of ALF p.mid) q.front q.mid = subst (λ f. Follows f q.front q.mid) there q.first in
    let items : filter_of (items_along (sections_form ph_before_lists s) values) ≡ items_along (form_of ALF p.mid) q.front
    = ap (λ w. filter_of (items_along (sections_form ph_before_lists s) w)) p.all ∙ ap (λ xs. filter_of xs) (cut_items before_filter (filter_section ∷ behind_filter) s p.others p.first)
    ∙ unshown_first of_filter (items_along (sections_form before_filter s) p.front) (items_along (more p.mid) p.others) (none_shown of_filter (none_before s) p.first)
    ∙ of_first (sections_form behind_filter) q (none_behind q.mid) ∙ ap (λ f. filter_of (items_along f q.front)) there ∙ all_of_it p.mid follows in
    filter_again p.mid s _ (sym left.size) (sym (left.same sps_chroma_format_idc refl)) (sym (left.same sps_ccalf_enabled_flag refl))
    (record { values = q.front; end = q.mid; follows = follows; all = sym items })

pub header_has_filter : HeaderHasFilter
unfolding header_form ph_before_weights
header_has_filter table s items f has_it here =
    let a = parted (ph_before_weights table s >>= weights_if_present) (sections_form back) f.follows in
    let b = parted (ph_before_weights table s) weights_if_present a.first in
    let c = parted (sections_form ph_before_lists s >>= lists_if_present table) (sections_form middle) b.first in
    let d = parted (sections_form ph_before_lists s) (lists_if_present table) c.first in
    let same : filter_of items ≡ filter_of (items_along (sections_form ph_before_lists s) d.front)
    = ap (λ xs. filter_of xs) f.all ∙ of_first (sections_form back) a (none_back a.mid) ∙ of_first weights_if_present b (none_weights b.mid) ∙ of_first (sections_form middle) c (none_middle c.mid)
    ∙ of_first (lists_if_present table) d (none_lists table d.mid) in
    subst (λ xs. Takes (form_of ALF s) xs) (sym same) (in_front s d.front d.mid has_it here d.first)
