-- What is told of the fields of a unit, by what was seen of them.
use Rattle.std.proofs.Common.{◌≡◌, ℕ, Bool, true, false, List, [], ◌∷◌, ◌++◌, ◌∙◌, Option, Some, None, Result, Ok, Err, length, refl, sym, ap, append_assoc}
use Rattle.vx_bits.specs.declared.refusal.Refusal.{Refusal}
use Rattle.vx_annexb.specs.ByteStream.{UnitPlace, unit_bytes}
use Rattle.vx_annexb.specs.Reading.{Reading as ReaderState}
use Rattle.vx_pic.specs.declared.structure.StructureFields.{StructureFields}
use Rattle.vx_pic.specs.Shown.{no_fields}
use Rattle.vx_pic.specs.Readings.{Reading}
use Rattle.vx_pic.specs.Rules.{Readers, reads}
use Rattle.vx_pic.specs.H266.{AreOfH266}
use Rattle.vx_assemble.specs.declared.feed.Taken.{Taken}
use Rattle.vx_assemble.specs.declared.feed.Taken.TheVariants.{Nal, End}
use Rattle.vx_assemble.specs.declared.feed.FeedFault.{FeedFault}
use Rattle.vx_assemble.specs.declared.feed.FeedFault.TheVariants as faults
use Rattle.vx_assemble.specs.Feed.{Feeding, HasFed, Gives, GivesSeen, SeesRefused, at_bytes, at_unit, sees_at_end, IsRefusedFor, by_bytes, by_unit, at_end}
use Rattle.vx_report.specs.FieldsLine.{fields_text}
use Rattle.vx_run.specs.Show.{teller, where_asked, tells_inputs, tells_fields, inputs_read, refused_field, field_of, unit_lines, told_lines}
use Rattle.vx_assemble.specs.Feed.{seen_of}
use Rattle.vx_run.specs.inner.Showing.{asked_inputs, seen_by, told_refused}
use Rattle.vx_run.proofs.Lined.{all_length, read_one}
use Rattle.vx_run.proofs.Gathering.{later_read}

none_told : (n : ℕ) (seen : StructureFields) (field : Option ℕ) → seen ≡ no_fields → fields_text n seen field ≡ []
unfolding fields_text
none_told n seen field none = ap (λ s. fields_text n s field) none

-- by whether they are asked for
fields_told : (fields : Bool) (R : Readers) (h : AreOfH266 R) (before : List Reading) (unit : List ℕ) (n : ℕ) (seen : StructureFields) (field : Option ℕ) → n ≡ length before → seen ≡ seen_by fields R h before unit → field ≡ field_of (reads R before unit)
    → fields_text n seen field ≡ where_asked fields (tells_fields R h) before unit
fields_told true R h before unit n seen field count is at = ap (λ k. fields_text k seen field) count ∙ ap (λ s. fields_text (length before) s field) is ∙ ap (fields_text (length before) (seen_by true R h before unit)) at
fields_told false R h before unit n seen field count is at = none_told n seen field is

-- the inputs of the picture that a unit completes, by whether they are asked for
inputs_told : (inputs : Bool) (R : Readers) (r : Reading) (before : List Reading) (unit : List ℕ) → reads R before unit ≡ Ok r → asked_inputs inputs r before ≡ where_asked inputs (tells_inputs R) before unit
inputs_told true R r before unit read = sym (ap (λ x. inputs_read x before) read)
inputs_told false R r before unit read = refl

-- and none of a unit that is refused
no_inputs : (inputs : Bool) (R : Readers) (r : Refusal) (before : List Reading) (unit : List ℕ) → reads R before unit ≡ Err r → where_asked inputs (tells_inputs R) before unit ≡ []
no_inputs true R r before unit refused = ap (λ x. inputs_read x before) refused
no_inputs false R r before unit refused = refl

-- of a unit that is refused
refused_fields : (fields inputs : Bool) (R : Readers) (h : AreOfH266 R) (f : ReaderState) (g : List ℕ) (units : List UnitPlace) (before : List Reading) (r : Refusal) (n : ℕ) (seen : StructureFields) → n ≡ length before
    → SeesRefused (seen_by fields R h) no_fields R f g units before r seen → (why : IsRefusedFor R f g units before r) × (fields_text n seen (refused_field r) ≡ told_refused (teller fields inputs R h) why)
refused_fields fields inputs R h f g units before r n seen count (at_bytes stream none) = (by_bytes stream, none_told n seen (refused_field r) none)
refused_fields fields inputs R h f g units before r n seen count (at_unit u is) =
    let unit = unit_bytes (seen_of g) u.unit in
    let told = fields_told fields R h before unit n seen (refused_field r) count is (sym (ap field_of u.refused)) in
    (by_unit u, told ∙ ap (λ l. l ++ where_asked fields (tells_fields R h) before unit) (sym (no_inputs inputs R r before unit u.refused)))
refused_fields fields inputs R h f g units before r n seen count (sees_at_end e none) = (at_end e, none_told n seen (refused_field r) none)

module _ (R : Readers) (h : AreOfH266 R) (g : List ℕ) (units : List UnitPlace) (before : List Reading) (f0 f : Feeding) (fed : HasFed R f0 g units before) (n : ℕ) (count : n ≡ f0.units) where
  -- as many units as readings
  before_count : n ≡ length before
  before_count = count ∙ fed.count ∙ sym (all_length R (seen_of g) units before fed.readings)

  -- of one that was taken: its lines, and then what is told of inputs and of its fields
  pub taken_fields : (fields inputs : Bool) (u : UnitPlace) (r : Reading) (seen : StructureFields) (made listed with : List ℕ) → HasFed R f g (units ++ u ∷ []) (r ∷ before) → seen ≡ seen_by fields R h before (unit_bytes (seen_of g) u)
      → made ≡ unit_lines (seen_of g) u r before → listed ≡ made ++ asked_inputs inputs r before → with ≡ listed ++ fields_text n seen None → with ≡ told_lines (teller fields inputs R h) (seen_of g) u r before
  taken_fields fields inputs u r seen made listed with taken is lines list whole =
      let b = seen_of g in
      let read : reads R before (unit_bytes b u) ≡ Ok r = read_one R before r (unit_bytes b u) (later_read R b units (u ∷ []) before (r ∷ before) fed.readings taken.readings) in
      let told = fields_told fields R h before (unit_bytes b u) n seen None before_count is (sym (ap field_of read)) in
      let input = inputs_told inputs R r before (unit_bytes b u) read in
      let here = unit_lines b u r before in
      whole
      ∙ ap (λ l. l ++ fields_text n seen None) (list ∙ ap (λ l. l ++ asked_inputs inputs r before) lines)
      ∙ append_assoc here (asked_inputs inputs r before) (fields_text n seen None)
      ∙ ap (λ l. here ++ (asked_inputs inputs r before ++ l)) told
      ∙ ap (λ l. here ++ (l ++ where_asked fields (tells_fields R h) before (unit_bytes b u))) input

  -- of one for which the feed is refused
  pub refused_told_of : (fields inputs : Bool) (r : Refusal) (seen : StructureFields) → GivesSeen (seen_by fields R h) no_fields R g units before f (Err (faults.Refused r)) seen
      → (why : IsRefusedFor R f.reader g units before r) × (fields_text n seen (refused_field r) ≡ told_refused (teller fields inputs R h) why)
  refused_told_of fields inputs r seen sees = refused_fields fields inputs R h f.reader g units before r n seen before_count sees

-- nothing is seen where no fields are asked for
refused_unseen : (R : Readers) (h : AreOfH266 R) (f : ReaderState) (g : List ℕ) (units : List UnitPlace) (before : List Reading) (r : Refusal) → IsRefusedFor R f g units before r → SeesRefused (seen_by false R h) no_fields R f g units before r no_fields
refused_unseen R h f g units before r (by_bytes stream) = at_bytes stream refl
refused_unseen R h f g units before r (by_unit u) = at_unit u refl
refused_unseen R h f g units before r (at_end e) = sees_at_end e refl

pub gives_unseen : (R : Readers) (h : AreOfH266 R) (g : List ℕ) (units : List UnitPlace) (before : List Reading) (f : Feeding) (result : Result (Option Taken) FeedFault) → Gives R g units before f result → GivesSeen (seen_by false R h) no_fields R g units before f result no_fields
gives_unseen R h g units before f (Ok (Some (Nal header place bytes what))) gives = (gives.0, gives.1, gives.2, gives.3, refl)
gives_unseen R h g units before f (Ok (Some End)) gives = refl
gives_unseen R h g units before f (Ok None) gives = refl
gives_unseen R h g units before f (Err (faults.Refused r)) gives = refused_unseen R h f.reader g units before r gives.0
gives_unseen R h g units before f (Err faults.Memory) gives = tt
gives_unseen R h g units before f (Err faults.SourceFailed) gives = tt
gives_unseen R h g units before f (Err (faults.Stopped first)) gives = tt
