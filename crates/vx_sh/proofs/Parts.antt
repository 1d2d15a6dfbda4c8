-- A slice header that is read part by part.
use Rattle.std.proofs.Common.{◌≡◌, ℕ, ℤ, Bool, List, [], ◌++◌, Ok, Err, ap, refl, subst, ◌∙◌}
use Rattle.vx_bits.specs.declared.list.Item.{Item}
use Rattle.vx_bits.specs.declared.refusal.ReadError.{ReadError}
use Rattle.vx_bits.specs.declared.refusal.ReadError.TheVariants as errors
use Rattle.vx_bits.specs.Place.{Place}
use Rattle.vx_table.specs.Forms.{Form, form_of}
use Rattle.vx_table.specs.Walks.{Walks}
use Rattle.vx_table.specs.Spelling.{Spells, items_along}
use Rattle.vx_table.specs.Reading.{ReadsField, PassesField}
use Rattle.vx_table.proofs.Joined.{joined, spells_joined}
use Rattle.vx_table.proofs.PassingOver.{passes, passes_to}
use Rattle.vx_table.proofs.Readings.{reads, leads}
use Rattle.vx_table.proofs.Steps.{then, stop}
use Rattle.vx_sh.specs.declared.tables.TheConstants.{HEADER_INSIDE}
use Rattle.vx_sh.specs.Whole.{At, behind_header, header_inside, slice_form}
use Rattle.vx_sh.specs.inner.Reading.{IsPassed, FieldsRead, ReadsFields}
use Rattle.vx_sh.proofs.Passing.{walk_passes, walk_refused}

-- of another total that is the same
at_total : {form : Form (List ℕ)} {total other : ℕ} {values : List ℤ} {left rest : List Bool} → total ≡ other → Spells total form values left rest → Spells other form values left rest
at_total {form} {values} {left} {rest} same spelled = subst (λ t. Spells t form values left rest) same spelled

pub stops_first : (n : At) {old new : Place} {after : List Item} (e : ReadError) → Walks {A = List ℕ} ReadsField (form_of HEADER_INSIDE n.slice) old [] (Err e) new after → ReadsFields n old (Err e) new after
unfolding slice_form
stops_first n errors.Memory walk = tt
stops_first n (errors.Refused r) walk =
    passes n.slice (Err r) (stop (behind_header n.table n.ids n.layout) (stop (header_inside n.table n.sets) (walk_refused walk)))

pub stops_inside : (n : At) {old mid : Place} {before : List Item} (new : Place) (after : List Item) (at : List ℕ) (e : ReadError) → Walks ReadsField (form_of HEADER_INSIDE n.slice) old [] (Ok at) mid before
    → IsPassed (header_inside n.table n.sets at) at mid (Err e) new → ReadsFields n old (Err e) new after
unfolding slice_form
stops_inside n new after at errors.Memory first walk = tt
stops_inside n new after at (errors.Refused r) first walk =
    passes n.slice (Err r) (stop (behind_header n.table n.ids n.layout) (then (header_inside n.table n.sets) (walk_passes first) walk))

pub stops_behind : (n : At) {old mid next new : Place} {before after : List Item} (at : List ℕ) (e : ReadError) → Walks ReadsField (form_of HEADER_INSIDE n.slice) old [] (Ok at) mid before
    → Walks PassesField (header_inside n.table n.sets at) mid tt (Ok at) next tt
    → Walks {A = List ℕ} ReadsField (behind_header n.table n.ids n.layout at) next before (Err e) new after → ReadsFields n old (Err e) new after
unfolding slice_form
stops_behind n at errors.Memory first inside walk = tt
stops_behind n at (errors.Refused r) first inside walk =
    passes n.slice (Err r) (then (behind_header n.table n.ids n.layout) (then (header_inside n.table n.sets) (walk_passes first) inside) (walk_refused walk))

pub reads_all : (n : At) {old mid next new : Place} {before after : List Item} (at end : List ℕ) → Walks ReadsField (form_of HEADER_INSIDE n.slice) old [] (Ok at) mid before
    → Walks PassesField (header_inside n.table n.sets at) mid tt (Ok at) next tt
    → Walks ReadsField (behind_header n.table n.ids n.layout at) next before (Ok end) new after → FieldsRead n old end new after
unfolding slice_form
reads_all n {old} {mid} {next} {new} at end first inside behind =
    let one = (reads {B = Unit {0}} at (Ok tt) first).is in
    let two = ((passes {B = Unit {0}} at (Ok tt) inside).reads []).1.is in
    let three = (reads {B = Unit {0}} end (Ok tt) behind).is in
    let begins = leads {B = Unit {0}} at (Ok tt) first one.values mid.left one.spelled in
    let goes_on = passes_to {B = Unit {0}} at (Ok tt) inside two.values next.left two.spelled in
    let ends = leads {B = Unit {0}} end (Ok tt) behind three.values new.left three.spelled in
    let spelled_two : Spells old.total (header_inside n.table n.sets at) two.values mid.left next.left = at_total one.total two.spelled in
    let spelled_three : Spells old.total (behind_header n.table n.ids n.layout at) three.values next.left new.left = at_total (two.total ∙ one.total) three.spelled in
    record {
      inside = two.values;
      fields = record {
        first = one.values;
        behind = three.values;
        at = at;
        end = end;
        begins = begins;
        goes_on = goes_on;
        ends = ends;
        all = three.gained ∙ ap (λ items. items ++ items_along (behind_header n.table n.ids n.layout at) three.values) one.gained;
      };
      ends = refl;
      spelled = spells_joined (behind_header n.table n.ids n.layout) (joined (header_inside n.table n.sets) begins goes_on)
          (spells_joined (header_inside n.table n.sets) begins one.spelled spelled_two) spelled_three;
      total = three.total ∙ (two.total ∙ one.total);
    }
