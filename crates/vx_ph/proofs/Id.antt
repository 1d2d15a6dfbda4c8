-- The id of the PPS in a picture header.
use Rattle.std.proofs.Common.{◌≡◌, ℕ, ℤ, ◌*◌, ◌<◌, Bool, List, [], ◌∷◌, ◌++◌, length, drop, slice_index, Ok, Err, refl, sym, ap, subst, ◌∙◌, arith}
use Rattle.std.proofs.lemmas.List.{append-nil, length-replicate}
use Rattle.std.proofs.lemmas.Bool.{false≢true}
use Rattle.std.proofs.lemmas.List.Elements.{filter-append}
use Rattle.vx_bits.specs.declared.list.Item.{Item}
use Rattle.vx_bits.specs.declared.refusal.Refusal.{Refusal}
use Rattle.vx_bits.specs.declared.refusal.ReadError.TheVariants.{Refused}
use Rattle.vx_bits.specs.Codes.{bits_of}
use Rattle.vx_bits.specs.Place.{Place}
use Rattle.vx_table.specs.declared.rows.Term.TheVariants.{Latest}
use Rattle.vx_table.specs.declared.rows.Formula.TheVariants.{Plain}
use Rattle.vx_table.specs.Scope.{fresh}
use Rattle.vx_table.specs.Forms.{Form, ◌>>=◌, form_of, has_value}
use Rattle.vx_table.specs.Parts.{Section, sections_form}
use Rattle.vx_table.specs.Spelling.{Spells, items_along}
use Rattle.vx_table.specs.Values.{Follows, to_end, through}
use Rattle.vx_table.specs.Depends.{has, Agree, IsLeft, Leaves}
use Rattle.vx_table.specs.Claims.{knows_formula, knows_width, knows_range, knows_presence, hides_counter, hides_row, behind_field, within_block, depends, behind_rows, table_depends, behind_table, comes_always}
use Rattle.vx_table.specs.Named.{named_by_all}
use Rattle.vx_table.specs.Shown.{shown_items}
use Rattle.vx_table.specs.laws.Again.{shows_row}
use Rattle.vx_table.specs.Reading.{PassesOver, LeadsTo}
use Rattle.vx_table.specs.Loaded.{number, names_none, code_below, range_below, row_below}
use Rattle.vx_table.proofs.Chains.{structure_depends_only_on}
use Rattle.vx_table.proofs.Again.{follows_again, reads_again, sections_show}
use Rattle.vx_table.proofs.Joined.{parted, items_joined, spells_parted}
use Rattle.vx_table.proofs.Loading.{number_of_shown, number_below, sections_load, sections_stay_below}
use Rattle.vx_table.proofs.Readings.{reads_error}
use Rattle.vx_table.proofs.Rewrites.{sections_leave, tables_leave, leaves_present, sections_together}
use Rattle.vx_table.proofs.Shown.{hidden_here}
use Rattle.vx_fields.specs.declared.ph.TheConstants.{ph_pic_parameter_set_id}
use Rattle.vx_fields.specs.declared.pps.TheConstants.{pps_rpl_info_in_ph_flag}
use Rattle.vx_fields.specs.declared.names.ph.TheConstants.{HAS_WEIGHTS}
use Rattle.vx_rpl.specs.declared.entry.RplTable.{RplTable}
use Rattle.vx_rpl.specs.Lists.{lists_form, weights, weights_form}
use Rattle.vx_rpl.proofs.Passing.{lists_leave}
use Rattle.vx_ph.proofs.Opening.{spelled_is_read, unit_spells}
use Rattle.vx_ph.proofs.Spelling.{spells_follow}
use Rattle.vx_ph.specs.Header.{ph_before_lists, lists_if_present, middle, weights_if_present, back, ph_before_weights, header_form}
use Rattle.vx_ph.specs.Id.{to_id, pps_id_form, HeaderHasId, UnitHasId}
use Rattle.vx_ph.specs.Picture.{unit_form}
use Rattle.vx_ph.specs.declared.tables.TheConstants.{TRAILING}

-- ---- what is read up to the id

-- its number is the scope's behind it, and below 64
pub id_at_end : (values : List ℤ) (end : List ℕ) → Follows pps_id_form values end
    → (number (items_along pps_id_form values) ph_pic_parameter_set_id ≡ slice_index end ph_pic_parameter_set_id)
    × (number (items_along pps_id_form values) ph_pic_parameter_set_id < 64)
unfolding pps_id_form fresh names_none hides_counter has_value code_below range_below row_below
id_at_end values end follows = (
  ((sections_load (ph_pic_parameter_set_id ∷ []) to_id refl).at fresh values end follows).same ph_pic_parameter_set_id refl,
  number_below ph_pic_parameter_set_id 64 pps_id_form values end (omega arith) (sections_stay_below ph_pic_parameter_set_id 64 to_id fresh (omega arith) refl) follows,
)

-- ---- the id of a header

the_id : List ℕ
the_id = ph_pic_parameter_set_id ∷ []

left_shown : (names s : List ℕ) {f : Form (List ℕ)} {w : List ℤ} {a : List ℕ} → IsLeft names s f → Follows f w a → shown_items names (items_along f w) ≡ []
left_shown names s left to_end = refl
left_shown names s left (through {cell} {goes} {v} {w} value on) = hidden_here names cell v (items_along (goes v) w) left.0 ∙ left_shown names s (left.1 v) on

-- the bits begin with a spelling of the form, whose items have the same id as these
record Begins (total : ℕ) (left : List Bool) (items : List Item) (form : Form (List ℕ)) : Type 0 where
  values : List ℤ
  end : List ℕ
  rest : List Bool
  follows : Follows form values end
  spelled : Spells total form values left rest
  same : shown_items the_id items ≡ shown_items the_id (items_along form values)

-- so they do of its first part, where the second leaves the id alone
first_part : (total : ℕ) (left : List Bool) (items : List Item) (f : Form (List ℕ)) (next : List ℕ → Form (List ℕ)) → Leaves the_id next
    → Begins total left items (f >>= next) → Begins total left items f
first_part total left items f next leaves b =
    let p = parted f next b.follows in
    let whole = subst (λ w. Spells total (f >>= next) w left b.rest) p.all b.spelled in
    let s = spells_parted next p.first whole in
    let none = left_shown the_id p.mid (leaves.at p.mid) p.second in
    record {
      values = p.front;
      end = p.mid;
      rest = s.0;
      follows = p.first;
      spelled = s.1;
      same = b.same ∙ ap (λ w. shown_items the_id (items_along (f >>= next) w)) p.all
          ∙ ap (shown_items the_id) (items_joined next p.others p.first)
          ∙ filter-append (λ item. has the_id item.field) (items_along f p.front) (items_along (next p.mid) p.others)
          ∙ ap (λ more. shown_items the_id (items_along f p.front) ++ more) none ∙ append-nil (shown_items the_id (items_along f p.front));
    }

-- a header's front up to the id
behind_id : List Section
behind_id = drop 2 ph_before_lists

begins_id : (table : RplTable) (s : List ℕ) (total : ℕ) (left : List Bool) (items : List Item) → Begins total left items (header_form table s)
    → Begins total left items (sections_form to_id s)
unfolding header_form ph_before_weights the_id behind_id fresh hides_counter hides_row
begins_id table s total left items b =
    let weighted = first_part total left items (ph_before_weights table s >>= weights_if_present) (sections_form back) (sections_leave the_id back refl) b in
    let between = first_part total left items (ph_before_weights table s) weights_if_present
    (leaves_present the_id (Plain (Latest HAS_WEIGHTS)) weights_form (sections_leave the_id weights refl)) weighted in
    let listed = first_part total left items (sections_form ph_before_lists s >>= lists_if_present table) (sections_form middle) (sections_leave the_id middle refl) between in
    let fronted = first_part total left items (sections_form ph_before_lists s) (lists_if_present table)
    (leaves_present the_id (Plain (Latest pps_rpl_info_in_ph_flag)) (lists_form table) (lists_leave table the_id refl refl)) listed in
    first_part total left items (sections_form to_id s) (sections_form behind_id) (sections_leave the_id behind_id refl)
    (subst (Begins total left items) (sections_together to_id behind_id s) fronted)

-- and then, whatever the sets, with a spelling up to the id, whose items have this id
record HasIdBefore (total : ℕ) (left : List Bool) (items : List Item) : Type 0 where
  values : List ℤ
  rest : List Bool
  spelled : Spells total pps_id_form values left rest
  same : number items ph_pic_parameter_set_id ≡ number (items_along pps_id_form values) ph_pic_parameter_set_id

has_id_before : (table : RplTable) (s : List ℕ) (total : ℕ) (left : List Bool) (items : List Item) → length s ≡ 1024 → Begins total left items (header_form table s)
    → HasIdBefore total left items
unfolding pps_id_form the_id fresh has_value knows_formula knows_width knows_range knows_presence hides_counter hides_row behind_field within_block depends behind_rows table_depends behind_table comes_always shows_row
has_id_before table s total left items long begins =
    let b = begins_id table s total left items begins in
    let shown = [] ++ named_by_all to_id in
    let agree : Agree [] s fresh = record { size = long ∙ sym (length-replicate {A = ℕ} 1024 0); same = λ n there. absurd (false≢true there) } in
    let alike = (structure_depends_only_on [] (named_by_all to_id) to_id refl).alike s fresh agree in
    let all = sections_show shown to_id refl in
    let again = follows_again shown [] (sections_form to_id s) (sections_form to_id fresh) b.values b.end alike (all.at s) (all.at fresh) b.follows in
    record {
      values = b.values;
      rest = b.rest;
      spelled = reads_again shown [] (sections_form to_id s) (sections_form to_id fresh) total b.values left b.rest alike (all.at s) (all.at fresh) b.spelled;
      same = number_of_shown the_id ph_pic_parameter_set_id items refl
          ∙ ap (λ some. number some ph_pic_parameter_set_id) (b.same ∙ ap (shown_items the_id) (sym again.items))
          ∙ sym (number_of_shown the_id ph_pic_parameter_set_id (items_along pps_id_form b.values) refl);
    }

pub header_has_id : HeaderHasId
header_has_id table s place id values rest long is_id spelled =
    let on = spells_follow spelled in
    let b = has_id_before table s place.total place.left (items_along (header_form table s) values) long
    (record { values = values; end = on.0; rest = rest; follows = on.1; spelled = spelled; same = refl }) in
    b.same ∙ is_id b.values b.rest b.spelled

-- that of a unit's header stands in what the unit begins with
pub unit_has_id : UnitHasId
unfolding unit_form the_id fresh hides_row
unit_has_id table s header bytes long u =
    let total = 8 * length bytes in
    let unit : Begins total (bits_of bytes) header.fields (unit_form table s) =
    record { values = u.values; end = u.end; rest = []; follows = u.follows; spelled = unit_spells table s header bytes u; same = ap (shown_items the_id) u.all } in
    let b = has_id_before table s total (bits_of bytes) header.fields long
    (first_part total (bits_of bytes) header.fields (header_form table s) (form_of TRAILING) (tables_leave the_id TRAILING refl) unit) in
    (items_along pps_id_form b.values, (record { total = total; left = b.rest }, spelled_is_read tt pps_id_form total b.spelled refl), b.same)

-- ---- the reader of the id

pub passes_ok : {A B C : Type 0} {form : Form A} {old new : Place} (b : B) (c : C) → PassesOver form old (Ok b) new → PassesOver form old (Ok c) new
passes_ok b c p = record { reads = λ items. let r = p.reads items in (r.0, record { is = r.1.is; only = r.1.only; refusal = r.1.refusal }) }

pub passes_err : {A B C : Type 0} {form : Form A} {old new : Place} (r : Refusal) → PassesOver {B = B} form old (Err r) new → PassesOver {B = C} form old (Err r) new
passes_err r p = record { reads = λ items. let read = p.reads items in (read.0, reads_error (Refused r) read.1) }

pub id_fits : (old new : Place) (end : List ℕ) → PassesOver {B = Unit {0}} pps_id_form old (Ok tt) new → LeadsTo pps_id_form old end
    → slice_index end ph_pic_parameter_set_id < 64
id_fits old new end p leads =
    let found = (p.reads []).1.is in
    let is = id_at_end found.values end (leads found.values new.left found.spelled) in
    subst (λ n. n < 64) is.0 is.1
