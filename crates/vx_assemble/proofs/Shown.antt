-- Fields that are read are those that the readers of H.266 come to.
use Rattle.std.proofs.Common.{◌≡◌, ℕ, ℤ, ◌*◌, Bool, List, [], ◌++◌, length, Result, Ok, Err, sym, ap, subst, ◌∙◌}
use Rattle.vx_bits.specs.declared.list.Item.{Item}
use Rattle.vx_bits.specs.declared.refusal.Refusal.{Refusal}
use Rattle.vx_bits.specs.declared.refusal.ReadError.{ReadError}
use Rattle.vx_bits.specs.declared.refusal.ReadError.TheVariants as errors
use Rattle.vx_bits.specs.Codes.{bits_of}
use Rattle.vx_bits.specs.Place.{Place}
use Rattle.vx_annexb.specs.NalUnit.{HasHeader}
use Rattle.vx_table.specs.declared.rows.Cell.{Cell}
use Rattle.vx_table.specs.Forms.{Form}
use Rattle.vx_table.specs.Spelling.{Spells, Reaches, IsRefusedField, items_along}
use Rattle.vx_table.specs.Reading.{IsFound, Reads, at_front}
use Rattle.vx_table.proofs.Apart.{reads_one_way, answers_one_way}
use Rattle.vx_pps.specs.Pps.{pps_form, ReadsFields}
use Rattle.vx_ph.specs.Id.{pps_id_form}
use Rattle.vx_sh.specs.Value.{values_of}
use Rattle.vx_sh.specs.Whole.{slice_form}
use Rattle.vx_sh.specs.InForce.{in_force_at}
use Rattle.vx_sh.specs.declared.numbers.SliceNumbers.{SliceNumbers}
use Rattle.vx_pic.specs.Sets.{SliceHeader}
use Rattle.vx_pic.specs.Readings.{Begun}
use Rattle.vx_pic.specs.Units.{rbsp_of}
use Rattle.vx_pic.specs.UnderSets.{at_slice_of}
use Rattle.vx_pic.specs.H266.{AnswersAt, header_place, IsReferredPps, IsSliceAnswer}
use Rattle.vx_assemble.specs.Fields.{items_at, items_to_id, items_of_slice}
use Rattle.vx_assemble.specs.inner.Fields.{HasAnswered}
use Rattle.vx_assemble.specs.inner.Answered.{AreOfBegun}
use Rattle.vx_assemble.specs.inner.Fronts.{IsFront}
use Rattle.vx_assemble.proofs.Answers.{same_place}
use Rattle.vx_assemble.proofs.Fronts.{IsPart, is_all, is_long, part_of, rbsp_front, longer_front, spelled_on, slice_opens}

-- ---- one answer

-- what the bits spell was read
of_value : {A : Type 0} (form : Form A) (place : Place) (before : List Item) (values : List ℤ) (rest : List Bool) (result : Result (Unit {0}) ReadError) (new : Place) (items : List Item)
    → HasAnswered result → Reads form place before result new items → Spells place.total form values place.left rest → items ≡ before ++ items_along form values
of_value form place before values rest (Ok done) new items answered reads spelled = (reads.only values rest spelled).1
of_value form place before values rest (Err errors.Memory) new items answered reads spelled = absurd answered
of_value form place before values rest (Err (errors.Refused r)) new items answered reads spelled = absurd (reads.only values rest spelled)

-- a front of the fields was, up to the first refusal
of_front : {A : Type 0} (form : Form A) (place : Place) (before : List Item) (values : List ℤ) (cell : Cell ℕ) (rest : List Bool) (r : Refusal) (result : Result (Unit {0}) ReadError) (new : Place)
    (items : List Item) → HasAnswered result → Reads form place before result new items → Reaches place.total form values place.left cell rest → IsRefusedField cell place.total rest r
    → items ≡ before ++ items_along form values
of_front form place before values cell rest r (Ok done) new items answered reads reached refused = absurd (reads.refusal values cell rest r reached refused)
of_front form place before values cell rest r (Err errors.Memory) new items answered reads reached refused = absurd answered
of_front form place before values cell rest r (Err (errors.Refused q)) new items answered reads reached refused =
    (reads.refusal values cell rest r reached refused).1.1

pub same_at : {A : Type 0} (form : Form A) (place : Place) (before : List Item) (answer : Result (List Item) Refusal) (is : AnswersAt form place answer) (result : Result (Unit {0}) ReadError)
    (new : Place) (items : List Item) → HasAnswered result → Reads form place before result new items → items ≡ before ++ items_at form place answer is
same_at form place before (Ok others) is result new items answered reads =
    of_value form place before is.values is.rest result new items answered reads is.spelled ∙ ap (λ xs. before ++ xs) (sym is.all)
same_at form place before (Err r) is result new items answered reads = of_front form place before is.values is.cell is.rest r result new items answered reads is.reached is.refused

-- ---- sets

pub pps_read : (rbsp : List ℕ) (before : List Item) (result : Result (Unit {0}) ReadError) (after : List Item) → HasAnswered result → ReadsFields rbsp before result after
    → (new : Place) × Reads pps_form (at_front rbsp) before result new after
pps_read rbsp before (Ok done) after answered read = read
pps_read rbsp before (Err errors.Memory) after answered read = absurd answered
pps_read rbsp before (Err (errors.Refused r)) after answered read = read

-- ---- picture headers

pub same_to_id : (inside : Bool) (rbsp : List ℕ) (before : List Item) (answer : Result ℕ Refusal) (is : IsReferredPps inside rbsp answer) (result : Result (Unit {0}) ReadError) (new : Place)
    (items : List Item) → HasAnswered result → Reads pps_id_form (header_place inside rbsp) before result new items → items ≡ before ++ items_to_id inside rbsp answer is
same_to_id inside rbsp before (Ok id) is result new items answered reads = same_at pps_id_form (header_place inside rbsp) before (Ok is.0) is.1 result new items answered reads
same_to_id inside rbsp before (Err r) is result new items answered reads = same_at pps_id_form (header_place inside rbsp) before (Err r) is result new items answered reads

-- ---- slices

pub same_slice : (t : ℕ) (b : Begun) (u : List ℕ) (answer : Result SliceHeader Refusal) (is : IsSliceAnswer t b u answer) (result : Result (Unit {0}) ReadError) (new : Place) (items : List Item)
    → HasAnswered result → Reads (slice_form (at_slice_of t b)) (at_front (rbsp_of u)) [] result new items → items ≡ items_of_slice t b u answer is
same_slice t b u (Ok header) is result new items answered reads =
    of_value (slice_form (at_slice_of t b)) (at_front (rbsp_of u)) [] (values_of is.begins.fields) is.begins.rest result new items answered reads is.begins.spelled
same_slice t b u (Err r) is result new items answered reads =
    of_front (slice_form (at_slice_of t b)) (at_front (rbsp_of u)) [] is.values is.cell is.rest r result new items answered reads is.reached is.refused

-- what the whole unit begins with the spelling of
spelled_slice : (t : ℕ) (b : Begun) (u : List ℕ) (answer : Result SliceHeader Refusal) (is : IsSliceAnswer t b u answer) (values : List ℤ) (rest : List Bool)
    → Spells (8 * length (rbsp_of u)) (slice_form (at_slice_of t b)) values (bits_of (rbsp_of u)) rest → items_along (slice_form (at_slice_of t b)) values ≡ items_of_slice t b u answer is
spelled_slice t b u (Ok header) is values rest spelled =
    let form = slice_form (at_slice_of t b) in
    ap (items_along form) (reads_one_way form (8 * length (rbsp_of u)) values (values_of is.begins.fields) (bits_of (rbsp_of u)) rest is.begins.rest spelled is.begins.spelled).0
spelled_slice t b u (Err r) is values rest spelled =
    absurd ((answers_one_way (slice_form (at_slice_of t b)) (8 * length (rbsp_of u)) is.values values (bits_of (rbsp_of u)) is.rest rest is.cell r is.reached is.refused).0 spelled)

-- the front of a unit, where the header ends in it
front_by : (t : ℕ) (b : Begun) (f u : List ℕ) (answer : Result SliceHeader Refusal) (is : IsSliceAnswer t b u answer) (new : Place) (items : List Item) → IsPart f u → HasHeader f
    → Reads {B = Unit {0}} (slice_form (at_slice_of t b)) (at_front (rbsp_of f)) [] (Ok tt) new items → items ≡ items_of_slice t b u answer is
front_by t b f u answer is new items (is_all same) head reads =
    same_slice t b u answer is (Ok tt) new items tt (subst (λ x. Reads {B = Unit {0}} (slice_form (at_slice_of t b)) (at_front (rbsp_of x)) [] (Ok tt) new items) same reads)
front_by t b f u answer is new items (is_long more all long) head reads =
    let form = slice_form (at_slice_of t b) in
    let front = rbsp_front f more head long in
    let whole : rbsp_of u ≡ rbsp_of f ++ front.more = ap rbsp_of all ∙ front.all in
    let found : IsFound form (at_front (rbsp_of f)) [] new items = reads.is in
    let longer = longer_front (rbsp_of f) front.more in
    let spelled = spelled_on form (at_front (rbsp_of f)) (at_front (rbsp_of f ++ front.more)) found.values new.left longer (slice_opens (at_slice_of t b)) found.spelled in
    found.gained
    ∙ spelled_slice t b u answer is found.values (new.left ++ longer.more)
    (subst (λ x. Spells (8 * length x) form found.values (bits_of x) (new.left ++ longer.more)) (sym whole) spelled)

pub same_front : (t : ℕ) (b : Begun) (f u : List ℕ) (answer : Result SliceHeader Refusal) (is : IsSliceAnswer t b u answer) (new : Place) (items : List Item) → IsFront f u → HasHeader f
    → Reads {B = Unit {0}} (slice_form (at_slice_of t b)) (at_front (rbsp_of f)) [] (Ok tt) new items → items ≡ items_of_slice t b u answer is
same_front t b f u answer is new items front head reads = front_by t b f u answer is new items (part_of f u front) head reads

-- what is read at the numbers of a picture header is read under it
pub under_begun : (n : SliceNumbers) (b : Begun) (t : ℕ) (rbsp u : List ℕ) (before : List Item) (result : Result (Unit {0}) ReadError) (after : List Item) → AreOfBegun n b → n.nal_type ≡ t
    → rbsp ≡ rbsp_of u → ((new : Place) × Reads (slice_form (in_force_at n)) (at_front rbsp) before result new after)
    → (new : Place) × Reads (slice_form (at_slice_of t b)) (at_front (rbsp_of u)) before result new after
under_begun n b t rbsp u before result after are type spells read =
    let place : in_force_at n ≡ at_slice_of t b = same_place n b are ∙ ap (λ x. at_slice_of x b) type in (
      read.0,
      subst (λ x. Reads (slice_form x) (at_front (rbsp_of u)) before result read.0 after) place
          (subst (λ x. Reads (slice_form (in_force_at n)) (at_front x) before result read.0 after) spells read.1),
    )
