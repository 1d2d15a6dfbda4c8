-- The readers of H.266 answer exactly what readers of programs do, where memory doesn't run out.
use Rattle.std.proofs.Common.{◌≡◌, ℕ, ℤ, Bool, List, [], ◌++◌, Result, Ok, Err, refl, sym, subst, append_assoc}
use Rattle.std.proofs.lemmas.List.{append-nil}
use Rattle.vx_bits.specs.declared.list.Item.{Item}
use Rattle.vx_bits.specs.declared.refusal.Refusal.{Refusal}
use Rattle.vx_bits.specs.declared.refusal.ReadError.TheVariants.{Refused}
use Rattle.vx_bits.specs.Place.{Place}
use Rattle.vx_ph.specs.Id.{pps_id_form}
use Rattle.vx_ph.specs.InForce.{in_force, structures}
use Rattle.vx_pps.specs.Partition.{undivided}
use Rattle.vx_pps.specs.Pps.{pps_form}
use Rattle.vx_ptl.specs.Structures.{vps}
use Rattle.vx_sh.proofs.Passing.{walk_refused}
use Rattle.vx_sps.specs.Structure.{sps_form}
use Rattle.vx_table.specs.declared.rows.Cell.{Cell}
use Rattle.vx_table.specs.Forms.{Form, done, field}
use Rattle.vx_table.specs.Reading.{Reads, ReadsField, ReadsValue, IsFound, IsFirstRefusal, as_read, at_front}
use Rattle.vx_table.specs.Spelling.{Spells, at_end, behind, Reaches, here, later, IsRefusedField, item_of, items_along}
use Rattle.vx_table.specs.Walks.{Walks, ended, coded, refused}
use Rattle.vx_table.proofs.PassingOver.{passes}
use Rattle.vx_table.proofs.Readings.{reads}
use Rattle.vx_pic.specs.Units.{rbsp_of}
use Rattle.vx_pic.specs.Sets.{SliceHeader}
use Rattle.vx_pic.specs.Readings.{Begun}
use Rattle.vx_pic.specs.H266.{BeginsItems, IsRefusedAt, AnswersAt, header_place, form_in, IsReferredPps, IsSliceAnswer, AreOfH266}
use Rattle.vx_pic.specs.laws.AsRead.{AnswersAsRead, IsPpsAsRead, IsSliceAsRead, AnswerAsReaders, ReadersAreAsProgramsRead}

-- ---- what a reader answers is spelled

pub begins_of : {A B : Type 0} {form : Form A} {place new : Place} {items : List Item} {b : B} → Reads form place [] (Ok b) new items → BeginsItems form place items
begins_of {form} {place} {new} {items} read =
    let found : IsFound form place [] new items = read.is in
    record { values = found.values; rest = new.left; spelled = found.spelled; all = found.gained }

pub refused_of : {A B : Type 0} {form : Form A} {place new : Place} {items : List Item} {r : Refusal} → Reads {B = B} form place [] (Err (Refused r)) new items → IsRefusedAt form place r
refused_of {form} {place} {new} {items} {r} read =
    let first : IsFirstRefusal form place [] new items r = read.is in
    record { values = first.stops.values; cell = first.cell; rest = new.left; reached = first.stops.reached; refused = first.refused }

-- ---- what is spelled is answered by a reader

abbrev at_bits : ℕ → List Bool → Place
at_bits total left = record { total = total; left = left }

-- a reader takes what is spelled
spelled_walk : {total : ℕ} {A : Type 0} {form : Form A} {w : List ℤ} {left rest : List Bool} (items : List Item) → Spells total form w left rest
    → (a : A) × Walks ReadsField form (at_bits total left) items (Ok a) (at_bits total rest) (items ++ items_along form w)
spelled_walk {total} items (at_end {a} {rest}) =
    (a, subst (λ xs. Walks ReadsField (done a) (at_bits total rest) items (Ok a) (at_bits total rest) xs) (sym (append-nil items)) ended)
spelled_walk {total} {left} {rest} items (behind {cell} {goes} {v} {w} {mid} begins more) =
    let on = spelled_walk (items ++ item_of cell v) more in
    let split : (items ++ item_of cell v) ++ items_along (goes v) w ≡ items ++ (item_of cell v ++ items_along (goes v) w) = append_assoc items (item_of cell v) (items_along (goes v) w) in
    (on.0, subst (λ xs. Walks ReadsField (field cell goes) (at_bits total left) items (Ok on.0) (at_bits total rest) xs) split (coded {d = at_bits total mid} {j = items ++ item_of cell v} (begins, refl, refl) on.1))

-- and stops where a field is refused
refused_walk : {total : ℕ} {A : Type 0} {form : Form A} {w : List ℤ} {left rest : List Bool} {cell : Cell ℕ} {r : Refusal} (items : List Item) → Reaches total form w left cell rest
    → IsRefusedField cell total rest r → Walks {A = A} ReadsField form (at_bits total left) items (Err (Refused r)) (at_bits total rest) (items ++ items_along form w)
refused_walk items here out = refused (out, refl, append-nil items)
refused_walk {total} {A} {left} {rest} {r} items (later {cell} {goes} {v} {w} {mid} begins more) out =
    let on = refused_walk (items ++ item_of cell v) more out in
    let split : (items ++ item_of cell v) ++ items_along (goes v) w ≡ items ++ (item_of cell v ++ items_along (goes v) w) = append_assoc items (item_of cell v) (items_along (goes v) w) in
    subst (λ xs. Walks {A = A} ReadsField (field cell goes) (at_bits total left) items (Err (Refused r)) (at_bits total rest) xs) split (coded {d = at_bits total mid} {j = items ++ item_of cell v} (begins, refl, refl) on)

reads_items : {A B : Type 0} {form : Form A} {place : Place} {items : List Item} (b : B) → BeginsItems form place items → (new : Place) × Reads form place [] (Ok b) new items
reads_items {form} {place} b begins =
    let walk = spelled_walk [] begins.spelled in
    let new : Place = at_bits place.total begins.rest in
    (new, subst (λ xs. Reads form place [] (Ok b) new xs) (sym begins.all) (reads walk.0 (Ok b) walk.1))

reads_refusal : {A B : Type 0} {form : Form A} {place : Place} {r : Refusal} (a : A) → IsRefusedAt form place r → (new : Place) × (items : List Item) × Reads {B = B} form place [] (Err (Refused r)) new items
reads_refusal {form} {place} {r} a is =
    (at_bits place.total is.rest, items_along form is.values, reads a (Err (Refused r)) (refused_walk [] is.reached is.refused))

-- ---- both ways

value_read : {A : Type 0} (a : A) (form : Form A) (rbsp : List ℕ) (x : Result (List Item) Refusal) → AnswersAt form (at_front rbsp) x → ReadsValue form rbsp (as_read x)
value_read a form rbsp (Ok items) is = reads_items items is
value_read a form rbsp (Err r) is = reads_refusal a is

value_spelled : {A : Type 0} (form : Form A) (rbsp : List ℕ) (x : Result (List Item) Refusal) → ReadsValue form rbsp (as_read x) → AnswersAt form (at_front rbsp) x
value_spelled form rbsp (Ok items) (new, read) = begins_of read
value_spelled form rbsp (Err r) (new, items, read) = refused_of read

pub read_at : (form : Form (List ℕ)) (place : Place) (x : Result (List Item) Refusal) → AnswersAt form place x → AnswersAsRead form place x
read_at form place (Ok items) is = reads_items tt is
read_at form place (Err r) is = reads_refusal [] is

pub spelled_at : {A : Type 0} (form : Form A) (place : Place) (x : Result (List Item) Refusal) → AnswersAsRead form place x → AnswersAt form place x
spelled_at form place (Ok items) (new, read) = begins_of read
spelled_at form place (Err r) (new, items, read) = refused_of read

id_read : (inside : Bool) (rbsp : List ℕ) (x : Result ℕ Refusal) → IsReferredPps inside rbsp x → IsPpsAsRead inside rbsp x
id_read inside rbsp (Ok id) is = (is.0, reads_items tt is.1, is.2)
id_read inside rbsp (Err r) is = reads_refusal [] is

id_spelled : (inside : Bool) (rbsp : List ℕ) (x : Result ℕ Refusal) → IsPpsAsRead inside rbsp x → IsReferredPps inside rbsp x
id_spelled inside rbsp (Ok id) is = (is.0, spelled_at pps_id_form (header_place inside rbsp) (Ok is.0) is.1, is.2)
id_spelled inside rbsp (Err r) is = spelled_at pps_id_form (header_place inside rbsp) (Err r) is

slice_read : (nal_type : ℕ) (b : Begun) (unit : List ℕ) (x : Result SliceHeader Refusal) → IsSliceAnswer nal_type b unit x → IsSliceAsRead nal_type b unit x
slice_read nal_type b unit (Ok h) is = is
slice_read nal_type b unit (Err r) is =
    let walk = refused_walk {A = List ℕ} [] is.reached is.refused in
    (at_bits (at_front (rbsp_of unit)).total is.rest, passes {B = Unit {0}} [] (Err r) (walk_refused walk))

slice_spelled : (nal_type : ℕ) (b : Begun) (unit : List ℕ) (x : Result SliceHeader Refusal) → IsSliceAsRead nal_type b unit x → IsSliceAnswer nal_type b unit x
slice_spelled nal_type b unit (Ok h) is = is
slice_spelled nal_type b unit (Err r) is = refused_of (is.1.reads []).1

pub readers_are_as_programs_read : ReadersAreAsProgramsRead
readers_are_as_programs_read R = (
  λ (of : AreOfH266 R). record {
    vps = λ rbsp. value_read [] vps rbsp (R.vps rbsp) (of.vps rbsp);
    sps = λ rbsp. value_read [] sps_form rbsp (R.sps rbsp) (of.sps rbsp);
    pps = λ rbsp. value_read undivided pps_form rbsp (R.pps rbsp) (of.pps rbsp);
    aps = of.aps;
    sei = of.sei;
    layout = of.layout;
    referred_pps = λ inside rbsp. id_read inside rbsp (R.referred_pps inside rbsp) (of.referred_pps inside rbsp);
    header = λ inside s p rbsp. read_at (form_in inside (structures s) (in_force s p)) (header_place inside rbsp) (R.header inside s p rbsp) (of.header inside s p rbsp);
    slice = λ nal_type b unit. slice_read nal_type b unit (R.slice nal_type b unit) (of.slice nal_type b unit);
  },
  λ (answer : AnswerAsReaders R). record {
    vps = λ rbsp. value_spelled vps rbsp (R.vps rbsp) (answer.vps rbsp);
    sps = λ rbsp. value_spelled sps_form rbsp (R.sps rbsp) (answer.sps rbsp);
    pps = λ rbsp. value_spelled pps_form rbsp (R.pps rbsp) (answer.pps rbsp);
    aps = answer.aps;
    sei = answer.sei;
    layout = answer.layout;
    referred_pps = λ inside rbsp. id_spelled inside rbsp (R.referred_pps inside rbsp) (answer.referred_pps inside rbsp);
    header = λ inside s p rbsp. spelled_at (form_in inside (structures s) (in_force s p)) (header_place inside rbsp) (R.header inside s p rbsp) (answer.header inside s p rbsp);
    slice = λ nal_type b unit. slice_spelled nal_type b unit (R.slice nal_type b unit) (answer.slice nal_type b unit);
  },
)
