-- The items of a slice header tell whether the picture header stands inside, the subpicture and the address.
use Rattle.std.proofs.Common.{◌≡◌, inl, inr, ℕ, ℤ, pos, ◌<◌, nat_le, true, false, None, List, [], ◌∷◌, ◌++◌, length, drop, slice_index, slice_set, refl, ap, sym, subst, ◌∙◌, arith}
use Rattle.std.specs.Prelude.{Bool, not, IsTrue, IsFalse, ◌==◌}
use Rattle.std.proofs.lemmas.Bool.{both_ways, cases_Bool, cases_lt, le-leb, not-true}
use Rattle.std.proofs.lemmas.Grind.{get_or-set_at}
use Rattle.std.proofs.lemmas.List.{append-nil, length-set, get_or-set_other}
use Rattle.std.proofs.lemmas.List.Elements.{filter-append, All-nil}
use Rattle.vx_bits.specs.declared.list.Item.{Item}
use Rattle.vx_table.specs.declared.rows.Term.TheVariants.{Latest}
use Rattle.vx_table.specs.declared.rows.Formula.{Formula}
use Rattle.vx_table.specs.declared.rows.Formula.TheVariants.{Plain}
use Rattle.vx_table.specs.declared.rows.Cell.{Cell}
use Rattle.vx_table.specs.declared.rows.Fault.{Fault}
use Rattle.vx_table.specs.declared.rows.Limits.TheVariants.{Below}
use Rattle.vx_table.specs.declared.rows.Row.{Row}
use Rattle.vx_table.specs.declared.rows.Row.TheVariants.{Field, Block, Name}
use Rattle.vx_table.specs.EachField.{EachField}
use Rattle.vx_table.proofs.EachField.{each_of_rows}
use Rattle.vx_table.specs.Scope.{fresh, natural, value}
use Rattle.vx_table.specs.Forms.{Form, done, field, ◌>>=◌, has_value, cell_at, coding_at, limits_at, after, one_field, part, present, form_of}
use Rattle.vx_table.specs.Parts.{sections_form}
use Rattle.vx_table.specs.Spelling.{HasCode, fault_of, item_of, items_along}
use Rattle.vx_table.specs.Values.{IsValueOf, Follows, to_end, through, Parted}
use Rattle.vx_table.specs.Depends.{has, Inside, Agree, IsLeft, Leaves}
use Rattle.vx_table.specs.Claims.{hides_counter, hides_row}
use Rattle.vx_table.specs.Shown.{shown_items}
use Rattle.vx_table.specs.Loaded.{number, names_none}
use Rattle.vx_table.proofs.Groups.{agree_nothing}
use Rattle.vx_table.proofs.Agreeing.{others_too, agree_set, agree_on, agree_less, agree_outside, valued}
use Rattle.vx_table.proofs.Dependence.{inside_with_all}
use Rattle.vx_table.proofs.Joined.{parted, items_joined}
use Rattle.vx_table.proofs.Loading.{number_of_shown, number_of_last, tables_load}
use Rattle.vx_table.proofs.Rewrites.{left_end, tables_leave, sections_leave, leaves_together, leaves_present}
use Rattle.vx_table.proofs.Shown.{hidden_here, scopes_follow_items}
use Rattle.vx_fields.specs.declared.sh.TheConstants.{sh_picture_header_in_slice_header_flag, sh_subpic_id, sh_slice_address}
use Rattle.vx_fields.specs.declared.names.sh.TheConstants.{NUM_SUBPICS, SUBPIC, NUM_SLICES, NUM_ENTRY_POINTS, HAS_LISTS, HAS_WEIGHTS}
use Rattle.vx_layout.specs.declared.numbers.Numbers.{Numbers}
use Rattle.vx_rpl.specs.declared.entry.RplTable.{RplTable}
use Rattle.vx_rpl.specs.Lists.{lists_form, weights, weights_form}
use Rattle.vx_rpl.proofs.Passing.{lists_leave}
use Rattle.vx_sh.specs.declared.tables.TheConstants.{HEADER_INSIDE, SUBPIC_ID, KNOWN_SUBPIC, ADDRESS}
use Rattle.vx_sh.specs.Slice.{with_entry_points, address_form, before_lists, lists_here, between, weights_here, behind_weights, front_form, sh_before_weights, rest_form}
use Rattle.vx_sh.specs.Whole.{At, index_of, num_slices_in_subpic, located, subpic_id_form, subpic_form, points_of, there, behind_header}
use Rattle.vx_sh.specs.Value.{AreFields, NumbersAreTold}

-- ---- items of one part

pub none_shown : (names s : List ℕ) {f : Form (List ℕ)} {w : List ℤ} {a : List ℕ} → IsLeft names s f → Follows f w a → shown_items names (items_along f w) ≡ []
none_shown names s left to_end = refl
none_shown names s left (through {cell} {goes} {v} {w} value on) = hidden_here names cell v (items_along (goes v) w) left.0 ∙ none_shown names s (left.1 v) on

-- a field's number is that of the part that alone has items of it
pub in_first : (names : List ℕ) (of : ℕ) (here behind : List Item) → IsTrue (has names of) → shown_items names behind ≡ [] → number (here ++ behind) of ≡ number here of
in_first names of here behind is none =
    let shown : shown_items names (here ++ behind) ≡ shown_items names here
    = filter-append (λ item. has names item.field) here behind ∙ ap (λ x. shown_items names here ++ x) none ∙ append-nil (shown_items names here) in
    number_of_shown names of (here ++ behind) is ∙ ap (λ x. number x of) shown ∙ sym (number_of_shown names of here is)

pub in_second : (names : List ℕ) (of : ℕ) (front here : List Item) → IsTrue (has names of) → shown_items names front ≡ [] → number (front ++ here) of ≡ number here of
in_second names of front here is none =
    let shown : shown_items names (front ++ here) ≡ shown_items names here
    = filter-append (λ item. has names item.field) front here ∙ ap (λ x. x ++ shown_items names here) none in
    number_of_shown names of (front ++ here) is ∙ ap (λ x. number x of) shown ∙ sym (number_of_shown names of here is)

-- ---- a field with a default of 0

nothing_agrees : (s : List ℕ) → length s ≡ 1024 → Agree [] s fresh
unfolding fresh
nothing_agrees s size = agree_nothing s fresh size

default_agrees : (s : List ℕ) (of : ℕ) → length s ≡ 1024 → slice_set fresh of 0 ≡ fresh → Agree (of ∷ []) (slice_set s of 0) fresh
default_agrees s of size same =
    let both = agree_set {more = of ∷ []} of 0 (λ m is_not h. others_too [] of m is_not h) (nothing_agrees s size) in
    record { size = both.size ∙ ap length same; same = λ n h. both.same n h ∙ ap (λ t. slice_index t n) same }

id_told : (s : List ℕ) (values : List ℤ) (end : List ℕ) → length s ≡ 1024 → Follows (form_of SUBPIC_ID s) values end
    → slice_index end sh_subpic_id ≡ number (items_along (form_of SUBPIC_ID s) values) sh_subpic_id
unfolding fresh form_of part value names_none hides_counter
id_told s values end size follows =
    let names = sh_subpic_id ∷ [] in
    let items = items_along (form_of SUBPIC_ID s) values in
    let loads = (tables_load names (drop 1 SUBPIC_ID) refl).at (slice_set s sh_subpic_id 0) values end follows in
    sym (loads.same sh_subpic_id refl) ∙ (scopes_follow_items names (slice_set s sh_subpic_id 0) fresh items items (default_agrees s sh_subpic_id size refl) refl).same sh_subpic_id refl

address_told : (s : List ℕ) (values : List ℤ) (end : List ℕ) → length s ≡ 1024 → Follows (form_of ADDRESS s) values end
    → slice_index end sh_slice_address ≡ number (items_along (form_of ADDRESS s) values) sh_slice_address
unfolding fresh form_of part value names_none hides_counter
address_told s values end size follows =
    let names = sh_slice_address ∷ [] in
    let items = items_along (form_of ADDRESS s) values in
    let loads = (tables_load names (drop 1 ADDRESS) refl).at (slice_set s sh_slice_address 0) values end follows in
    sym (loads.same sh_slice_address refl) ∙ (scopes_follow_items names (slice_set s sh_slice_address 0) fresh items items (default_agrees s sh_slice_address size refl) refl).same sh_slice_address refl

-- ---- one part in front of another that leaves names alone

pub record Peeled (names : List ℕ) (form : Form (List ℕ)) (items : List Item) (end : List ℕ) : Type 0 where
  pub front : List ℤ
  pub mid : List ℕ
  pub follows : Follows form front mid
  pub numbers : (of : ℕ) → IsTrue (has names of) → number items of ≡ number (items_along form front) of
  pub agree : Agree names mid end

peel : {names : List ℕ} {f : Form (List ℕ)} (next : List ℕ → Form (List ℕ)) {values : List ℤ} {end : List ℕ} → Leaves names next → Follows (f >>= next) values end
    → Peeled names f (items_along (f >>= next) values) end
peel {names} {f} next {values} {end} leaves follows =
    let parts = parted f next follows in
    record {
      front = parts.front;
      mid = parts.mid;
      follows = parts.first;
      numbers = λ of is. ap (λ w. number (items_along (f >>= next) w) of) parts.all ∙ ap (λ x. number x of) (items_joined next parts.others parts.first)
          ∙ in_first names of (items_along f parts.front) (items_along (next parts.mid) parts.others) is (none_shown names parts.mid (leaves.at parts.mid) parts.second);
      agree = left_end (leaves.at parts.mid) parts.second;
    }

-- peeled on
peel_on : {names : List ℕ} {f : Form (List ℕ)} (next : List ℕ → Form (List ℕ)) {items : List Item} {end : List ℕ} → Leaves names next → Peeled names (f >>= next) items end → Peeled names f items end
peel_on next leaves p =
    let more = peel next leaves p.follows in
    record {
      front = more.front;
      mid = more.mid;
      follows = more.follows;
      numbers = λ of is. p.numbers of is ∙ more.numbers of is;
      agree = agree_on more.agree p.agree;
    }

-- ---- behind the id

abbrev pub three : List ℕ
three = sh_picture_header_in_slice_header_flag ∷ sh_subpic_id ∷ SUBPIC ∷ []

abbrev four : List ℕ
four = sh_picture_header_in_slice_header_flag ∷ sh_subpic_id ∷ SUBPIC ∷ sh_slice_address ∷ []

points_leave : (points : ℕ → ℕ) → Leaves four (λ t. done (with_entry_points points t))
unfolding fresh with_entry_points
points_leave points = record { at = λ t. agree_outside four t NUM_ENTRY_POINTS (points (slice_index t sh_slice_address)) refl }

lists_leave_four : (table : RplTable) → Leaves four (lists_here table)
unfolding fresh hides_row hides_counter
lists_leave_four table = leaves_present four (Plain (Latest HAS_LISTS)) (lists_form table) (lists_leave table four refl refl)

weights_leave_four : Leaves four weights_here
unfolding fresh hides_row hides_counter
weights_leave_four = leaves_present four (Plain (Latest HAS_WEIGHTS)) weights_form (sections_leave four weights refl)

before_lists_leave_four : Leaves four (sections_form before_lists)
unfolding fresh hides_row hides_counter
before_lists_leave_four = sections_leave four before_lists refl

between_leave_four : Leaves four (sections_form between)
unfolding fresh hides_row hides_counter
between_leave_four = sections_leave four between refl

behind_weights_leave_four : Leaves four (sections_form behind_weights)
unfolding fresh hides_row hides_counter
behind_weights_leave_four = sections_leave four behind_weights refl

-- the address's items are all that tell of these names
pub rest_peeled : (table : RplTable) (points : ℕ → ℕ) (s : List ℕ) (values : List ℤ) (end : List ℕ) → Follows (rest_form table points s) values end
    → Peeled four (form_of ADDRESS s) (items_along (rest_form table points s) values) end
unfolding address_form front_form sh_before_weights rest_form
rest_peeled table points s values end follows =
    peel_on (λ t. done (with_entry_points points t)) (points_leave points)
    (peel_on (sections_form before_lists) before_lists_leave_four
    (peel_on (lists_here table) (lists_leave_four table)
    (peel_on (sections_form between) between_leave_four
    (peel_on weights_here weights_leave_four
    (peel (sections_form behind_weights) behind_weights_leave_four follows)))))

-- the rest leaves the others alone
address_leaves : (points : ℕ → ℕ) → Leaves three (address_form points)
unfolding fresh hides_row hides_counter address_form with_entry_points
address_leaves points = leaves_together three (form_of ADDRESS) (λ t. done (with_entry_points points t)) (tables_leave three ADDRESS refl)
    record { at = λ t. agree_outside three t NUM_ENTRY_POINTS (points (slice_index t sh_slice_address)) refl }

pub rest_leaves : (table : RplTable) (points : ℕ → ℕ) → Leaves three (rest_form table points)
unfolding fresh hides_row hides_counter front_form sh_before_weights rest_form
rest_leaves table points =
    leaves_together three (λ s. sh_before_weights table points s >>= weights_here) (sections_form behind_weights)
    (leaves_together three (sh_before_weights table points) weights_here
    (leaves_together three (λ s. front_form points s >>= lists_here table) (sections_form between)
    (leaves_together three (front_form points) (lists_here table)
    (leaves_together three (address_form points) (sections_form before_lists) (address_leaves points) (sections_leave three before_lists refl))
    (leaves_present three (Plain (Latest HAS_LISTS)) (lists_form table) (lists_leave table three refl refl)))
    (sections_leave three between refl))
    (leaves_present three (Plain (Latest HAS_WEIGHTS)) weights_form (sections_leave three weights refl)))
    (sections_leave three behind_weights refl)

there_leaves : (table : RplTable) (layout : Numbers) → Leaves three (there table layout)
there_leaves table layout = record { at = λ s. (rest_leaves table (points_of layout s)).at s }

-- the test of the subpicture has no item, and leaves the subpicture
unfoldable pub only_subpic : List ℕ
only_subpic = SUBPIC ∷ []

abbrev IsGap : Cell ℕ → Type 0
IsGap cell = has_value cell.coding ≡ false

no_items : (f : Form (List ℕ)) (w : List ℤ) → EachField IsGap f → items_along f w ≡ []
unfolding item_of
no_items (done s) w is = refl
no_items (field cell goes) [] is = refl
no_items (field cell goes) (v ∷ w) is = rw (is.0) (no_items (goes v) w (is.1 v))

row_is_gap : Row → Bool
row_is_gap (Field c) = not (has_value c.coding)
row_is_gap (Block presence n) = true
row_is_gap (Name name formula) = true

gap_sound : (c : Cell Formula) (s : List ℕ) → row_is_gap (Field c) ≡ true → IsGap (cell_at s c)
unfolding row_is_gap
gap_sound c s is = valued s c.coding ∙ not-true (has_value c.coding) is

pub known_items : (s : List ℕ) (w : List ℤ) → items_along (form_of KNOWN_SUBPIC s) w ≡ []
unfolding row_is_gap has_value
known_items s w = no_items (form_of KNOWN_SUBPIC s) w (each_of_rows IsGap row_is_gap gap_sound KNOWN_SUBPIC s refl)

pub known_leaves : Leaves only_subpic (form_of KNOWN_SUBPIC)
unfolding fresh hides_row hides_counter only_subpic
known_leaves = tables_leave only_subpic KNOWN_SUBPIC refl

-- ---- the subpicture

pub located_is : (ids : List ℕ) (layout : Numbers) (s : List ℕ) → length s ≡ 1024 → slice_index (located ids layout s) SUBPIC ≡ index_of (slice_index s sh_subpic_id) ids
unfolding located
located_is ids layout s size =
    let i = index_of (slice_index s sh_subpic_id) ids in
    let first = slice_set s NUM_SUBPICS (length ids) in
    let within : SUBPIC < length first = omega (arith, length-set s NUM_SUBPICS (length ids), size) in
    get_or-set_other (slice_set first SUBPIC i) NUM_SLICES SUBPIC (num_slices_in_subpic layout i) 0 (λ is. absurd (omega (arith, is))) ∙ get_or-set_at first SUBPIC SUBPIC i 0 refl within

-- how many there are
pub count_is : (ids : List ℕ) (layout : Numbers) (s : List ℕ) → length s ≡ 1024 → slice_index (located ids layout s) NUM_SUBPICS ≡ length ids
unfolding located
count_is ids layout s size =
    let i = index_of (slice_index s sh_subpic_id) ids in
    let first = slice_set s NUM_SUBPICS (length ids) in
    get_or-set_other (slice_set first SUBPIC i) NUM_SLICES NUM_SUBPICS (num_slices_in_subpic layout i) 0 (λ is. absurd (omega (arith, is)))
    ∙ get_or-set_other first SUBPIC NUM_SUBPICS i 0 (λ is. absurd (omega (arith, is))) ∙ get_or-set_at s NUM_SUBPICS NUM_SUBPICS (length ids) 0 refl (omega (arith, size))

-- it is refused where it is none of them
no_value : (f : Fault) (v : ℤ) → v ≡ pos 0 → fault_of (Below 0 f) v ≡ None → ⊥
unfolding fault_of
no_value f v is none = absurd (let broken = rw is at none in cc)

first_value : {A : Type 0} {cell : Cell ℕ} {goes : ℤ → Form A} {w : List ℤ} {a : A} → Follows (field cell goes) w a → (v : ℤ) × IsValueOf cell v
first_value (through {v} value on) = (v, value)

pub refused : (s : List ℕ) (w : List ℤ) (u : List ℕ) → nat_le (slice_index s NUM_SUBPICS) (slice_index s SUBPIC) ≡ true → Follows (form_of KNOWN_SUBPIC s) w u → ⊥
unfolding form_of part present value one_field coding_at limits_at has_value HasCode
refused s w u is on = let first = first_value (rw is at on) in no_value _ first.0 first.1.code first.1.range

known_below : (s : List ℕ) (w : List ℤ) (u : List ℕ) → Follows (form_of KNOWN_SUBPIC s) w u → slice_index s SUBPIC < slice_index s NUM_SUBPICS
known_below s w u on = elim (cases_lt (slice_index s SUBPIC) (slice_index s NUM_SUBPICS)) [
  | inl below ↦ below
  | inr past ↦ absurd (refused s w u (le-leb (slice_index s NUM_SUBPICS) (slice_index s SUBPIC) past) on)
]

-- the scope keeps its size
pub id_size : (s : List ℕ) (values : List ℤ) (end : List ℕ) → Follows (form_of SUBPIC_ID s) values end → length s ≡ length end
unfolding fresh hides_row hides_counter
id_size s values end follows = (left_end ((tables_leave (sh_slice_address ∷ []) SUBPIC_ID refl).at s) follows).size

pub inside_size : (s : List ℕ) (values : List ℤ) (end : List ℕ) → Follows (form_of HEADER_INSIDE s) values end → length s ≡ length end
unfolding fresh hides_row hides_counter
inside_size s values end follows = (left_end ((tables_leave (sh_slice_address ∷ []) HEADER_INSIDE refl).at s) follows).size

abbrev only_address : List ℕ
only_address = sh_slice_address ∷ []

abbrev pub only_id : List ℕ
only_id = sh_subpic_id ∷ []

abbrev pub only_inside : List ℕ
only_inside = sh_picture_header_in_slice_header_flag ∷ []

pub located_leaves : (names : List ℕ) (ids : List ℕ) (layout : Numbers) → IsFalse (has names NUM_SUBPICS) → IsFalse (has names SUBPIC) → IsFalse (has names NUM_SLICES)
    → Leaves names (λ t. done (located ids layout t))
unfolding located
located_leaves names ids layout subpics subpic slices = record {
  at = λ t.
      let i = index_of (slice_index t sh_subpic_id) ids in
      let first = slice_set t NUM_SUBPICS (length ids) in
      agree_on (agree_outside names t NUM_SUBPICS (length ids) subpics) (agree_on (agree_outside names first SUBPIC i subpic) (agree_outside names (slice_set first SUBPIC i) NUM_SLICES (num_slices_in_subpic layout i) slices));
}

id_leaves_address : (ids : List ℕ) (layout : Numbers) → Leaves only_address (subpic_form ids layout)
unfolding fresh hides_row hides_counter subpic_id_form subpic_form
id_leaves_address ids layout = leaves_together only_address (subpic_id_form ids layout) (form_of KNOWN_SUBPIC)
    (leaves_together only_address (form_of SUBPIC_ID) (λ t. done (located ids layout t)) (tables_leave only_address SUBPIC_ID refl) (located_leaves only_address ids layout refl refl refl)) (tables_leave only_address KNOWN_SUBPIC refl)

id_leaves_inside : (ids : List ℕ) (layout : Numbers) → Leaves only_inside (subpic_form ids layout)
unfolding fresh hides_row hides_counter subpic_id_form subpic_form
id_leaves_inside ids layout = leaves_together only_inside (subpic_id_form ids layout) (form_of KNOWN_SUBPIC)
    (leaves_together only_inside (form_of SUBPIC_ID) (λ t. done (located ids layout t)) (tables_leave only_inside SUBPIC_ID refl) (located_leaves only_inside ids layout refl refl refl)) (tables_leave only_inside KNOWN_SUBPIC refl)

-- names of a smaller set
left_less : {names more : List ℕ} (s : List ℕ) (f : Form (List ℕ)) → Inside names more → IsLeft more s f → IsLeft names s f
left_less s (done t) inside left = agree_less inside left
left_less {names} s (field cell goes) inside left = (
  elim (cases_Bool (has names cell.field)) [ inl is ↦ absurd (both_ways _ left.0 (inside.has_too cell.field is)) | inr is_not ↦ is_not ],
  λ v. left_less s (goes v) inside (left.1 v),
)

pub behind_leaves_inside : (table : RplTable) (ids : List ℕ) (layout : Numbers) → Leaves only_inside (behind_header table ids layout)
unfolding behind_header
behind_leaves_inside table ids layout = leaves_together only_inside (subpic_form ids layout) (there table layout) (id_leaves_inside ids layout)
    record { at = λ s. left_less s (there table layout s) (inside_with_all only_inside (sh_subpic_id ∷ SUBPIC ∷ [])) ((there_leaves table layout).at s) }

-- ---- the whole

pub done_is : {A : Type 0} {a b : A} {w : List ℤ} → Follows (done a) w b → a ≡ b
done_is to_end = refl

inside_told : (s : List ℕ) (values : List ℤ) (end : List ℕ) → length s ≡ 1024 → Follows (form_of HEADER_INSIDE s) values end
    → slice_index end sh_picture_header_in_slice_header_flag ≡ number (items_along (form_of HEADER_INSIDE s) values) sh_picture_header_in_slice_header_flag
unfolding form_of part one_field coding_at limits_at after has_value item_of
inside_told s values end size (through {v} is to_end) =
    get_or-set_at s sh_picture_header_in_slice_header_flag sh_picture_header_in_slice_header_flag (natural v) 0 refl (omega (arith, size))
    ∙ sym (number_of_last sh_picture_header_in_slice_header_flag v [] [] (omega arith) (All-nil (λ item. (item.field == sh_picture_header_in_slice_header_flag) ≡ false)))

-- the id in the part behind the picture header is the one that the items tell
pub id_is : (n : At) (fields : List Item) (inside : List ℤ) (f : AreFields n fields inside) → length n.slice ≡ 1024
    → (b : Parted (subpic_form n.ids n.layout f.at) (there n.table n.layout) f.behind f.end)
    → (k : Parted (subpic_id_form n.ids n.layout f.at) (form_of KNOWN_SUBPIC) b.front b.mid)
    → (i : Parted (form_of SUBPIC_ID f.at) (λ t. done (located n.ids n.layout t)) k.front k.mid)
    → slice_index i.mid sh_subpic_id ≡ number fields sh_subpic_id
unfolding fresh behind_header subpic_form subpic_id_form hides_row hides_counter
id_is n fields inside f size b k i =
    let behind = behind_header n.table n.ids n.layout in
    let first = items_along (form_of HEADER_INSIDE n.slice) f.first in
    let at_size : length f.at ≡ 1024 = sym (inside_size n.slice f.first f.at f.begins) ∙ size in
    let before : number fields sh_subpic_id ≡ number (items_along (behind f.at) f.behind) sh_subpic_id
    = ap (λ items. number items sh_subpic_id) f.all
    ∙ in_second only_id sh_subpic_id first (items_along (behind f.at) f.behind) refl (none_shown only_id n.slice ((tables_leave only_id HEADER_INSIDE refl).at n.slice) f.begins) in
    let subpic : number (items_along (behind f.at) f.behind) sh_subpic_id ≡ number (items_along (subpic_form n.ids n.layout f.at) b.front) sh_subpic_id
    = ap (λ w. number (items_along (behind f.at) w) sh_subpic_id) b.all ∙ ap (λ x. number x sh_subpic_id) (items_joined (there n.table n.layout) b.others b.first)
    ∙ in_first three sh_subpic_id (items_along (subpic_form n.ids n.layout f.at) b.front) (items_along (there n.table n.layout b.mid) b.others) refl
    (none_shown three b.mid ((there_leaves n.table n.layout).at b.mid) b.second) in
    let known : number (items_along (subpic_form n.ids n.layout f.at) b.front) sh_subpic_id ≡ number (items_along (subpic_id_form n.ids n.layout f.at) k.front) sh_subpic_id
    = ap (λ w. number (items_along (subpic_form n.ids n.layout f.at) w) sh_subpic_id) k.all
    ∙ ap (λ x. number x sh_subpic_id) (items_joined (form_of KNOWN_SUBPIC) k.others k.first ∙ ap (λ x. items_along (subpic_id_form n.ids n.layout f.at) k.front ++ x) (known_items k.mid k.others)
    ∙ append-nil (items_along (subpic_id_form n.ids n.layout f.at) k.front)) in
    let here : number (items_along (subpic_id_form n.ids n.layout f.at) k.front) sh_subpic_id ≡ number (items_along (form_of SUBPIC_ID f.at) i.front) sh_subpic_id
    = ap (λ w. number (items_along (subpic_id_form n.ids n.layout f.at) w) sh_subpic_id) i.all
    ∙ ap (λ x. number x sh_subpic_id) (items_joined (λ t. done (located n.ids n.layout t)) i.others i.first ∙ append-nil (items_along (form_of SUBPIC_ID f.at) i.front)) in
    id_told f.at i.front i.mid at_size i.first ∙ sym here ∙ sym known ∙ sym subpic ∙ sym before

subpic_told : (n : At) (fields : List Item) (inside : List ℤ) (f : AreFields n fields inside) → length n.slice ≡ 1024
    → slice_index f.end SUBPIC ≡ index_of (number fields sh_subpic_id) n.ids
unfolding fresh behind_header subpic_form subpic_id_form hides_row hides_counter only_subpic
subpic_told n fields inside f size =
    let b = parted (subpic_form n.ids n.layout f.at) (there n.table n.layout) f.ends in
    let k = parted (subpic_id_form n.ids n.layout f.at) (form_of KNOWN_SUBPIC) b.first in
    let i = parted (form_of SUBPIC_ID f.at) (λ t. done (located n.ids n.layout t)) k.first in
    let still = left_end (known_leaves.at k.mid) k.second in
    let left = left_end ((there_leaves n.table n.layout).at b.mid) b.second in
    let at_size : length f.at ≡ 1024 = sym (inside_size n.slice f.first f.at f.begins) ∙ size in
    let mid_size : length i.mid ≡ 1024 = sym (id_size f.at i.front i.mid i.first) ∙ at_size in
    sym (left.same SUBPIC refl) ∙ sym (still.same SUBPIC refl) ∙ ap (λ s. slice_index s SUBPIC) (sym (done_is i.second)) ∙ located_is n.ids n.layout i.mid mid_size
    ∙ ap (λ id. index_of id n.ids) (id_is n fields inside f size b k i)

subpic_known : (n : At) (fields : List Item) (inside : List ℤ) (f : AreFields n fields inside) → length n.slice ≡ 1024 → slice_index f.end SUBPIC < length n.ids
unfolding fresh behind_header subpic_form subpic_id_form hides_row hides_counter only_subpic
subpic_known n fields inside f size =
    let b = parted (subpic_form n.ids n.layout f.at) (there n.table n.layout) f.ends in
    let k = parted (subpic_id_form n.ids n.layout f.at) (form_of KNOWN_SUBPIC) b.first in
    let i = parted (form_of SUBPIC_ID f.at) (λ t. done (located n.ids n.layout t)) k.first in
    let still = left_end (known_leaves.at k.mid) k.second in
    let left = left_end ((there_leaves n.table n.layout).at b.mid) b.second in
    let at_size : length f.at ≡ 1024 = sym (inside_size n.slice f.first f.at f.begins) ∙ size in
    let mid_size : length i.mid ≡ 1024 = sym (id_size f.at i.front i.mid i.first) ∙ at_size in
    let same : slice_index k.mid SUBPIC ≡ slice_index f.end SUBPIC = still.same SUBPIC refl ∙ left.same SUBPIC refl in
    let count : slice_index k.mid NUM_SUBPICS ≡ length n.ids = ap (λ s. slice_index s NUM_SUBPICS) (sym (done_is i.second)) ∙ count_is n.ids n.layout i.mid mid_size in
    subst (λ m. slice_index f.end SUBPIC < m) count (subst (λ x. x < slice_index k.mid NUM_SUBPICS) same (known_below k.mid k.others b.mid k.second))

address_is : (n : At) (fields : List Item) (inside : List ℤ) (f : AreFields n fields inside) → length n.slice ≡ 1024 → slice_index f.end sh_slice_address ≡ number fields sh_slice_address
unfolding fresh behind_header hides_row hides_counter
address_is n fields inside f size =
    let behind = behind_header n.table n.ids n.layout in
    let at_size : length f.at ≡ 1024 = sym (inside_size n.slice f.first f.at f.begins) ∙ size in
    let parts = parted (subpic_form n.ids n.layout f.at) (there n.table n.layout) f.ends in
    let left = (id_leaves_address n.ids n.layout).at f.at in
    let mid_size : length parts.mid ≡ 1024 = sym (left_end left parts.first).size ∙ at_size in
    let p = rest_peeled n.table (points_of n.layout parts.mid) parts.mid parts.others f.end parts.second in
    let before : number fields sh_slice_address ≡ number (items_along (there n.table n.layout parts.mid) parts.others) sh_slice_address
    = ap (λ items. number items sh_slice_address) f.all
    ∙ in_second only_address sh_slice_address (items_along (form_of HEADER_INSIDE n.slice) f.first) (items_along (behind f.at) f.behind) refl (none_shown only_address n.slice ((tables_leave only_address HEADER_INSIDE refl).at n.slice) f.begins)
    ∙ ap (λ w. number (items_along (behind f.at) w) sh_slice_address) parts.all
    ∙ ap (λ x. number x sh_slice_address) (items_joined (there n.table n.layout) parts.others parts.first)
    ∙ in_second only_address sh_slice_address (items_along (subpic_form n.ids n.layout f.at) parts.front) (items_along (there n.table n.layout parts.mid) parts.others) refl (none_shown only_address f.at left parts.first) in
    sym (p.agree.same sh_slice_address refl) ∙ address_told parts.mid p.front p.mid mid_size p.follows ∙ sym (p.numbers sh_slice_address refl) ∙ sym before

inside_is : (n : At) (fields : List Item) (inside : List ℤ) (f : AreFields n fields inside) → length n.slice ≡ 1024
    → slice_index f.end sh_picture_header_in_slice_header_flag ≡ number fields sh_picture_header_in_slice_header_flag
unfolding fresh
inside_is n fields inside f size =
    let behind = behind_header n.table n.ids n.layout in
    let left = (behind_leaves_inside n.table n.ids n.layout).at f.at in
    let items : number fields sh_picture_header_in_slice_header_flag ≡ number (items_along (form_of HEADER_INSIDE n.slice) f.first) sh_picture_header_in_slice_header_flag
    = ap (λ items. number items sh_picture_header_in_slice_header_flag) f.all
    ∙ in_first only_inside sh_picture_header_in_slice_header_flag (items_along (form_of HEADER_INSIDE n.slice) f.first) (items_along (behind f.at) f.behind) refl (none_shown only_inside f.at left f.ends) in
    sym ((left_end left f.ends).same sh_picture_header_in_slice_header_flag refl) ∙ inside_told n.slice f.first f.at size f.begins ∙ sym items

pub numbers_are_told : NumbersAreTold
numbers_are_told n fields inside f size = record {
  inside = inside_is n fields inside f size;
  subpic = subpic_told n fields inside f size;
  known = subpic_known n fields inside f size;
  address = address_is n fields inside f size;
}
