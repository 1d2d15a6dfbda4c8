-- A picture parameter set that was read, written or sifted.
use Rattle.std.proofs.Common.{◌≡◌, inl, inr, ℕ, ℤ, ◌+◌, ◌-◌, ◌%◌, Bool, List, [], length, take, Result, Ok, Err, refl, sym, ap, subst, ◌∙◌, arith}
use Rattle.std.proofs.lemmas.List.{append-nil, take_all}
use Rattle.vx_bits.specs.declared.list.Item.{Item}
use Rattle.vx_bits.specs.declared.refusal.ReadError.{ReadError}
use Rattle.vx_bits.specs.declared.refusal.ReadError.TheVariants as errors
use Rattle.vx_bits.specs.Place.{Place}
use Rattle.vx_table.specs.Claims.{comes_always}
use Rattle.vx_table.specs.Forms.{Form, done, field, ◌>>=◌}
use Rattle.vx_table.specs.Kept.{KeepsField, kept_along}
use Rattle.vx_table.specs.Parts.{sections_form}
use Rattle.vx_table.specs.Reading.{Reads, ReadsField, ReadsValue, at_front}
use Rattle.vx_table.specs.Scope.{fresh}
use Rattle.vx_table.specs.Spelling.{at_end, here, items_along}
use Rattle.vx_table.specs.laws.Trailing.{EndsInStop, ends_in_stop, is_stop, sections_end_in_stop}
use Rattle.vx_table.specs.Values.{Follows, bits_along}
use Rattle.vx_table.specs.Writing.{AreItemsOf, WritesField}
use Rattle.vx_table.specs.declared.writer.SpellError.{SpellError}
use Rattle.vx_table.specs.declared.writer.SpellError.TheVariants as spellings
use Rattle.vx_table.proofs.Stopped.{at_boundary, sections_stop, stops_behind, stops_end}
use Rattle.vx_table.proofs.Keepings.{keeps}
use Rattle.vx_table.proofs.Readings as readings
use Rattle.vx_table.proofs.Writings as writings
use Rattle.vx_pps.specs.declared.halt.Halt.{Halt}
use Rattle.vx_pps.specs.declared.halt.Halt.TheVariants.{Refused}
use Rattle.vx_pps.specs.declared.partition.Partition.{Partition}
use Rattle.vx_pps.specs.Partition.{undivided}
use Rattle.vx_pps.specs.Pps.{ArePpsItems, IsPps, ReadsFields, before_tiles, kept_pps_items, partition_at, pps_form, after_slices}
use Rattle.vx_pps.specs.Items.{values_in}
use Rattle.vx_pps.specs.inner.Walked.{Walked}
use Rattle.vx_pps.proofs.Told.{values_back}
use Rattle.vx_pps.proofs.Walking.{to_end, to_refusal}

-- ---- what is read

-- a reader may answer want of memory before anything is read
out_of_memory : {A B : Type 0} (form : Form A) (old : Place) (items : List Item) → Reads {B = B} form old items (Err errors.Memory) old items
out_of_memory (done a) old items =
    record { is = inr (record { values = []; spelled = at_end; total = refl; gained = sym (append-nil items) }); only = λ values rest spelled. tt; refusal = λ values cell rest r reached refused. tt }
out_of_memory (field cell goes) old items =
    record { is = inl (cell, record { values = []; reached = here; total = refl; gained = sym (append-nil items) }); only = λ values rest spelled. tt; refusal = λ values cell rest r reached refused. tt }

pub read_halted : (bytes : List ℕ) → ReadsValue pps_form bytes (Err errors.Memory)
read_halted bytes = (at_front bytes, [], out_of_memory pps_form (at_front bytes) [])

pub read_ended : (bytes : List ℕ) (end : Partition) (new : Place) (items : List Item) → Walked ReadsField pps_form (at_front bytes) [] (Ok end) new items → ReadsValue pps_form bytes (Ok items)
read_ended bytes end new items walked = (new, readings.reads {B = List Item} end (Ok items) (to_end walked))

pub read_refused : (bytes : List ℕ) (e : ReadError) (new : Place) (items : List Item) → Walked {A = Partition} ReadsField pps_form (at_front bytes) [] (Err (Refused e)) new items
    → ReadsValue pps_form bytes (Err e)
read_refused bytes e new items walked = (new, items, readings.reads {B = List Item} undivided (Err e) (to_refusal walked))

pub fields_ended : (bytes : List ℕ) (before : List Item) (end : Partition) (new : Place) (after : List Item) → Walked ReadsField pps_form (at_front bytes) before (Ok end) new after
    → ReadsFields bytes before (Ok tt) after
fields_ended bytes before end new after walked = (new, readings.reads {B = Unit {0}} end (Ok tt) (to_end walked))

pub fields_refused : (bytes : List ℕ) (before : List Item) (e : ReadError) (new : Place) (after : List Item)
    → Walked {A = Partition} ReadsField pps_form (at_front bytes) before (Err (Refused e)) new after → ReadsFields bytes before (Err e) after
fields_refused bytes before errors.Memory new after walked = tt
fields_refused bytes before (errors.Refused r) new after walked = (new, readings.reads {B = Unit {0}} undivided (Err (errors.Refused r)) (to_refusal walked))

pub read_is : (bytes : List ℕ) (end : Partition) (new : Place) (items : List Item) → Walked ReadsField pps_form (at_front bytes) [] (Ok end) new items → IsPps items end
read_is bytes end new items walked =
    let read = readings.reads {B = List Item} end (Ok items) (to_end walked) in
    let leads = readings.leads {B = List Item} end (Ok items) (to_end walked) in
    record { values = read.is.values; follows = leads read.is.values new.left read.is.spelled; given = sym read.is.gained }

-- ---- what is written

tools_stop : (s : List ℕ) → EndsInStop (sections_form after_slices s)
unfolding is_stop ends_in_stop sections_end_in_stop comes_always
tools_stop s = sections_stop after_slices s refl

-- a set ends in rbsp_trailing_bits( )
pub pps_stops : EndsInStop pps_form
unfolding pps_form
pps_stops =
    stops_behind (sections_form before_tiles fresh) (λ s. partition_at s >>= λ p. sections_form after_slices s >>= λ t. done p)
    (λ s. stops_behind (partition_at s) (λ p. sections_form after_slices s >>= λ t. done p) (λ p. stops_end (sections_form after_slices s) (λ t. p) (tools_stop s)))

-- so it ends at a byte boundary
ends_aligned : (values : List ℤ) (end : Partition) → Follows pps_form values end → length (bits_along pps_form 0 values) % 8 ≡ 0
ends_aligned values end follows =
    let whole : 0 + length (bits_along pps_form 0 values) ≡ length (bits_along pps_form 0 values) = omega arith in
    let aligned = at_boundary 0 (bits_along pps_form 0 values) (pps_stops.at 0 values end follows) in
    omega (arith, whole, aligned)

-- the items of a set, as its values have them
items_of_set : (items : List Item) (is : ArePpsItems items) → AreItemsOf pps_form items is.set.values is.end []
items_of_set items is = record { follows = is.set.follows; given = sym is.set.given ∙ sym (append-nil (items_along pps_form is.set.values)) }

-- a writer that begins with no bits, and with all items
pub from_all : {result : Result Partition (Halt SpellError)} {old bits : List Bool} {fields items left : List Item} {n : ℕ} → old ≡ [] → n ≡ length fields
    → items ≡ take (n - 0) fields → Walked WritesField pps_form old items result bits left → Walked WritesField pps_form [] fields result bits left
from_all {result} {old} {bits} {fields} {items} {left} {n} none size all walked =
    let whole : take (n - 0) fields ≡ fields = take_all (n - 0) fields (omega (arith, size)) in
    subst (λ f. Walked WritesField pps_form [] f result bits left) (all ∙ whole) (subst (λ b. Walked WritesField pps_form b items result bits left) none walked)

pub spelled : (items left : List Item) (bits : List Bool) (end : Partition) (is : ArePpsItems items) → Walked WritesField pps_form [] items (Ok end) bits left
    → bits ≡ bits_along pps_form 0 is.set.values
spelled items left bits end is walked = ((writings.writes {B = Partition} end (Ok end) (to_end walked)).only is.set.values is.end [] (items_of_set items is)).0

pub is_aligned : (items left : List Item) (bits : List Bool) (end : Partition) → ArePpsItems items → Walked WritesField pps_form [] items (Ok end) bits left → length bits % 8 ≡ 0
is_aligned items left bits end is walked = rw (spelled items left bits end is walked) (ends_aligned is.set.values is.end is.set.follows)

pub never_unspelled : (items left : List Item) (bits : List Bool) → ArePpsItems items → Walked {A = Partition} WritesField pps_form [] items (Err (Refused spellings.NoValue)) bits left → ⊥
never_unspelled items left bits is walked = (writings.writes {B = Partition} undivided (Err spellings.NoValue) (to_refusal walked)).only is.set.values is.end [] (items_of_set items is)

-- ---- what is kept

pub from_each : {result : Result Partition (Halt SpellError)} {fields items left into new : List Item} {n : ℕ} → into ≡ [] → n ≡ length fields
    → items ≡ take (n - 0) fields → Walked KeepsField pps_form items into result left new → Walked KeepsField pps_form fields [] result left new
from_each {result} {fields} {items} {left} {into} {new} {n} none size all walked =
    let whole : take (n - 0) fields ≡ fields = take_all (n - 0) fields (omega (arith, size)) in
    subst (λ f. Walked KeepsField pps_form f [] result left new) (all ∙ whole) (subst (λ k. Walked KeepsField pps_form items k result left new) none walked)

pub kept : (items left new : List Item) (end : Partition) → ArePpsItems items → Walked KeepsField pps_form items [] (Ok end) left new → new ≡ kept_pps_items items
kept items left new end is walked =
    let values : values_in pps_form items ≡ is.set.values = ap (values_in pps_form) (sym is.set.given) ∙ values_back is.set.follows in
    ((keeps {B = Partition} end (Ok end) (to_end walked)).only is.set.values is.end [] (items_of_set items is)).0 ∙ ap (kept_along pps_form) (sym values)

pub never_unkept : (items left new : List Item) → ArePpsItems items → Walked {A = Partition} KeepsField pps_form items [] (Err (Refused spellings.NoValue)) left new → ⊥
never_unkept items left new is walked = (keeps {B = Partition} undivided (Err spellings.NoValue) (to_refusal walked)).only is.set.values is.end [] (items_of_set items is)
