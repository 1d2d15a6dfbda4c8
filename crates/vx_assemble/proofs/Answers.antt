-- What code reads is what the readers of H.266 answer: bytes have one answer at most.
use Rattle.std.proofs.Common.{◌≡◌, inl, inr, ℕ, ◌+◌, ◌*◌, ◌<◌, ◌≤◌, Bool, true, false, List, [], ◌∷◌, length, drop, Option, Some, None, Result, Ok, Err, refl, ap, sym, subst, ◌∙◌, arith}
use Rattle.std.proofs.lemmas.List.{drop_at}
use Rattle.vx_bits.specs.declared.list.Item.{Item}
use Rattle.vx_bits.specs.declared.refusal.Refusal.{Refusal}
use Rattle.vx_bits.specs.declared.refusal.ReadError.{ReadError}
use Rattle.vx_bits.specs.declared.refusal.ReadError.TheVariants.{Memory, Refused}
use Rattle.vx_bits.specs.Codes.{bits_of, fixed}
use Rattle.vx_bits.specs.declared.refusal.BitCause.{BitCause}
use Rattle.vx_bits.specs.declared.refusal.BitCause.TheVariants.{Short}
use Rattle.vx_bits.specs.Place.{Place, Takes}
use Rattle.vx_bits.proofs.Bits.{length-fixed}
use Rattle.vx_annexb.specs.Places.{IsFirstFrom}
use Rattle.vx_annexb.specs.Emulation.{unescaped, unescaped_to}
use Rattle.vx_aps.specs.declared.aps.Aps.{Aps}
use Rattle.vx_aps.specs.Aps as aps
use Rattle.vx_aps.specs.laws.Answers.{OneAnswer}
use Rattle.vx_fields.specs.declared.ph.TheConstants.{ph_pic_parameter_set_id}
use Rattle.vx_layout.specs.declared.numbers.Numbers.{Numbers}
use Rattle.vx_ph.specs.declared.header.PictureHeader.{PictureHeader}
use Rattle.vx_ph.specs.Header.{header_form}
use Rattle.vx_ph.specs.Id.{pps_id_form, IsId}
use Rattle.vx_ph.specs.InForce.{in_force, structures}
use Rattle.vx_ph.specs.Picture.{ReadsHeader, ReadsUnit, unit_form}
use Rattle.vx_sei.specs.declared.message.Message.{Message}
use Rattle.vx_sei.specs.Sei.{Carries, IsSei, carried}
use Rattle.std.specs.Prelude.{MatchOption, unwrap_or, IfErr, IfOk, IfSome, OnErr, OnOk, ◌^◌}
use Rattle.vx_sh.proofs.Told.{numbers_are_told}
use Rattle.vx_sh.proofs.Scopes.{slice_scopes_are_whole}
use Rattle.vx_sh.specs.declared.header.SliceHeader.{SliceHeader as SliceValue}
use Rattle.vx_sh.specs.declared.numbers.SliceNumbers.{SliceNumbers}
use Rattle.vx_sh.specs.InForce.{in_force_at}
use Rattle.vx_sh.specs.Value.{BeginsSlice, ReadsSlice}
use Rattle.vx_sh.specs.Whole.{At}
use Rattle.vx_table.specs.Forms.{Form}
use Rattle.vx_table.specs.Loaded.{number}
use Rattle.vx_table.specs.Reading.{IsFound, PassesOver, Reads, ReadsValue, at_front}
use Rattle.vx_pic.specs.Units.{rbsp_of}
use Rattle.vx_pic.specs.Sets.{SliceHeader}
use Rattle.vx_pic.specs.Readings.{Begun}
use Rattle.vx_layout.specs.Faults.{IsInLimits}
use Rattle.vx_pic.specs.PictureLayout.{AnswersLayout, MakeLayout, IsLayoutAnswer, numbers_in}
use Rattle.vx_pic.specs.UnderSets.{at_slice_of}
use Rattle.vx_pic.specs.H266.{AnswersAt, header_place, form_in, IsReferredPps, IsSliceAnswer}
use Rattle.vx_pic.proofs.AsRead.{begins_of, refused_of}
use Rattle.vx_pic.proofs.Determined.{one_at, one_carried, one_id, one_layout, one_slice}
use Rattle.vx_pic.proofs.Existing.{fits_unit}
use Rattle.vx_assemble.specs.inner.Answered.{slice_seen, AreOfBegun}
use Rattle.vx_assemble.specs.inner.Takes.{Gives, answer_by}

-- ---- sets and messages

pub gives_value : {A : Type 0} (form : Form A) (bytes : List ℕ) (answer : Result (List Item) Refusal) (result : Result (List Item) ReadError) → AnswersAt form (at_front bytes) answer → ReadsValue form bytes result
    → Gives answer result
gives_value form bytes answer (Ok items) is read = one_at form (at_front bytes) answer (Ok items) is (begins_of read.1)
gives_value form bytes answer (Err Memory) is read = tt
gives_value form bytes answer (Err (Refused r)) is read = one_at form (at_front bytes) answer (Err r) is (refused_of read.2)

pub gives_aps : OneAnswer → (rbsp : List ℕ) (answer : Result (Option Aps) Refusal) (result : Result (Option Aps) ReadError) → aps.IsAnswer rbsp answer → aps.AnswersAps rbsp result → Gives answer result
gives_aps one rbsp answer (Ok a) is read = one rbsp answer (Ok a) is read
gives_aps one rbsp answer (Err Memory) is read = tt
gives_aps one rbsp answer (Err (Refused r)) is read = one rbsp answer (Err r) is read

pub valid_aps : (rbsp : List ℕ) (result : Result (Option Aps) ReadError) → aps.AnswersAps rbsp result → IfOk result (λ a. IfSome a aps.IsValid)
valid_aps rbsp (Ok (Some a)) read = read.valid
valid_aps rbsp (Ok None) read = tt
valid_aps rbsp (Err Memory) read = tt
valid_aps rbsp (Err (Refused r)) read = tt

pub gives_layout : (s p : List Item) (answer : Result Numbers Refusal) (result : Result Numbers ReadError) → IsLayoutAnswer s p answer → AnswersLayout s p result → Gives answer result
gives_layout s p answer (Ok n) is read = one_layout s p answer (Ok n) is read
gives_layout s p answer (Err Memory) is read = tt
gives_layout s p answer (Err (Refused r)) is read = one_layout s p answer (Err r) is read

pub layout_numbers : (s p : List Item) (result : Result Numbers ReadError) → AnswersLayout s p result → IfOk result (λ n. n ≡ numbers_in s p)
layout_numbers s p (Ok n) read = read.1
layout_numbers s p (Err e) read = tt

pub layout_made : (s p : List Item) (result : Result Numbers ReadError) → AnswersLayout s p result → OnOk result (MakeLayout s p)
layout_made s p (Ok n) read = read.0
layout_made s p (Err e) read = tt

pub few_slices : (result : Result Numbers ReadError) → IfOk result IsInLimits → IfOk result (λ n. length n.slices ≤ 1000)
few_slices (Ok n) limits = limits.slices.1
few_slices (Err e) limits = tt

pub few_subpics : (result : Result Numbers ReadError) → IfOk result IsInLimits → IfOk result (λ n. length n.subpics ≤ 1000)
few_subpics (Ok n) limits = limits.subpics.1
few_subpics (Err e) limits = tt

pub gives_messages : (rbsp : List ℕ) (answer given : List Message) → Carries rbsp answer → Carries rbsp given → given ≡ answer
gives_messages rbsp answer given is read = one_carried rbsp given answer read is

-- what is carried of an RBSP
carries : (rbsp : List ℕ) (found : Option (List Message)) → MatchOption found ((ms : List Message) → ¬ IsSei rbsp ms) (λ given. (ms : List Message) × IsSei rbsp ms × (given ≡ carried ms)) → Carries rbsp (unwrap_or found [])
carries rbsp None none = inr (none, refl)
carries rbsp (Some given) some = inl some

pub messages_read : (rbsp : List ℕ) (found : Option (List Message)) (answer given none : List Message) → Carries rbsp answer
    → MatchOption found ((ms : List Message) → ¬ IsSei rbsp ms) (λ given. (ms : List Message) × IsSei rbsp ms × (given ≡ carried ms)) → none ≡ [] → given ≡ unwrap_or found none → given ≡ answer
messages_read rbsp found answer given none is read empty same =
    same ∙ ap (λ xs. unwrap_or found xs) empty ∙ gives_messages rbsp answer (unwrap_or found []) is (carries rbsp found read)

-- ---- headers

place_is : (p : Place) (total : ℕ) (left : List Bool) → p.total ≡ total → p.left ≡ left → p ≡ record { total = total; left = left }
place_is p total left same rest = rw (← same, ← rest) refl

-- one bit less, where there is one
no_bits : (bits : List Bool) → length bits < 1 → bits ≡ drop 1 bits
no_bits [] none = refl
no_bits (b ∷ bits) none = absurd (omega (arith, none))

pub skipped : (old new : Place) (r : Result ℕ BitCause) → IfOk r (λ v. (v < 2 ^ 1) × Takes (fixed 1 v) old new) → (r ≡ Err Short → length old.left < 1) → IfErr r (λ cause. cause ≡ Short) → OnErr r (new ≡ old)
    → (new.left ≡ drop 1 old.left) × (new.total ≡ old.total)
skipped old new (Ok v) value short cause unchanged = (sym (ap (drop 1) value.1.left ∙ drop_at (fixed 1 v) new.left 1 (length-fixed 1 v)), value.1.total)
skipped old new (Err e) value short cause unchanged =
    let same : new ≡ old = unchanged in
    let none = short (ap (λ (x : BitCause). let r : Result ℕ BitCause = Err x in r) cause) in
    (ap (λ (p : Place). p.left) same ∙ no_bits old.left none, ap (λ (p : Place). p.total) same)

pub behind_bit : (rbsp : List ℕ) (p : Place) → p.total ≡ 8 * length rbsp → p.left ≡ drop 1 (bits_of rbsp) → p ≡ header_place true rbsp
behind_bit rbsp p total left = place_is p (8 * length rbsp) (drop 1 (bits_of rbsp)) total left

pub at_first : (rbsp : List ℕ) (p : Place) → p.total ≡ 8 * length rbsp → p.left ≡ bits_of rbsp → p ≡ header_place false rbsp
at_first rbsp p total left = place_is p (8 * length rbsp) (bits_of rbsp) total left

id_read : (inside : Bool) (rbsp : List ℕ) (id : ℕ) (new : Place) (after : List Item) → Reads pps_id_form (header_place inside rbsp) [] (Ok id) new after → IsId (header_place inside rbsp) id → IsReferredPps inside rbsp (Ok id)
id_read inside rbsp id new after read is =
    let found : IsFound pps_id_form (header_place inside rbsp) [] new after = read.is in
    (after, begins_of read, sym (ap (λ xs. number xs ph_pic_parameter_set_id) found.gained ∙ is found.values new.left found.spelled))

pub gives_id : (inside : Bool) (rbsp : List ℕ) (place new : Place) (answer : Result ℕ Refusal) (id : ℕ) → place ≡ header_place inside rbsp → IsReferredPps inside rbsp answer → PassesOver pps_id_form place (Ok id) new → IsId place id
    → answer ≡ Ok id
gives_id inside rbsp place new answer id at is passes told =
    let read = passes.reads [] in
    one_id inside rbsp answer (Ok id) is
    (id_read inside rbsp id new read.0 (subst (λ p. Reads pps_id_form p [] (Ok id) new read.0) at read.1) (subst (λ p. IsId p id) at told))

pub gives_no_id : (inside : Bool) (rbsp : List ℕ) (place new : Place) (answer : Result ℕ Refusal) (r : Refusal) → place ≡ header_place inside rbsp → IsReferredPps inside rbsp answer → PassesOver {B = ℕ} pps_id_form place (Err r) new
    → answer ≡ Err r
gives_no_id inside rbsp place new answer r at is passes =
    let read = passes.reads [] in
    one_id inside rbsp answer (Err r) is (refused_of (subst (λ p. Reads {B = ℕ} pps_id_form p [] (Err (Refused r)) new read.0) at read.1))

pub gives_header : (s p : List Item) (rbsp : List ℕ) (place new : Place) (answer : Result (List Item) Refusal) (result : Result PictureHeader ReadError) → place ≡ header_place true rbsp
    → AnswersAt (form_in true (structures s) (in_force s p)) (header_place true rbsp) answer → ReadsHeader (structures s) (in_force s p) place result new
    → Gives answer (answer_by (λ (h : PictureHeader). h.fields) result)
gives_header s p rbsp place new answer (Ok h) at is read =
    one_at (header_form (structures s) (in_force s p)) (header_place true rbsp) answer (Ok h.fields) is
    (begins_of (subst (λ q. Reads {B = Unit {0}} (header_form (structures s) (in_force s p)) q [] (Ok tt) new h.fields) at read.0))
gives_header s p rbsp place new answer (Err Memory) at is read = tt
gives_header s p rbsp place new answer (Err (Refused r)) at is read =
    one_at (header_form (structures s) (in_force s p)) (header_place true rbsp) answer (Err r) is
    (refused_of (subst (λ q. Reads {B = Unit {0}} (header_form (structures s) (in_force s p)) q [] (Err (Refused r)) new read.0) at read.1))

pub gives_unit : (s p : List Item) (rbsp : List ℕ) (answer : Result (List Item) Refusal) (result : Result PictureHeader ReadError)
    → AnswersAt (form_in false (structures s) (in_force s p)) (header_place false rbsp) answer → ReadsUnit (structures s) (in_force s p) rbsp result
    → Gives answer (answer_by (λ (h : PictureHeader). h.fields) result)
gives_unit s p rbsp answer (Ok h) is read = one_at (unit_form (structures s) (in_force s p)) (at_front rbsp) answer (Ok h.fields) is (begins_of read.0.1)
gives_unit s p rbsp answer (Err Memory) is read = tt
gives_unit s p rbsp answer (Err (Refused r)) is read = one_at (unit_form (structures s) (in_force s p)) (at_front rbsp) answer (Err r) is (refused_of read.1.1)

-- ---- slices

pub same_place : (n : SliceNumbers) (b : Begun) → AreOfBegun n b → in_force_at n ≡ at_slice_of n.nal_type b
same_place n b are = rw (are.sps, are.pps, are.layout, are.header, are.ids) refl

pub gives_slice : (n : SliceNumbers) (b : Begun) (unit rbsp : List ℕ) (answer : Result SliceHeader Refusal) (value : SliceValue) (size payload : ℕ) → AreOfBegun n b → rbsp ≡ rbsp_of unit
    → IsSliceAnswer n.nal_type b unit answer → ReadsSlice (in_force_at n) rbsp (Ok (value, size)) → IsFirstFrom (λ place. length (unescaped_to unit place) ≡ 2 + size) 0 payload
    → answer ≡ Ok (slice_seen (value, payload))
gives_slice n b unit rbsp answer value size payload are spells is read first =
    let begins : BeginsSlice (at_slice_of n.nal_type b) (rbsp_of unit) value size = subst (λ at. BeginsSlice at (rbsp_of unit) value size) (same_place n b are) (subst (λ xs. BeginsSlice (in_force_at n) xs value size) spells read) in
    one_slice n.nal_type b unit answer (Ok (slice_seen (value, payload))) is (record { value = value; size = size; begins = begins; fields = refl; subpic = refl; payload = first })

pub gives_no_slice : (n : SliceNumbers) (b : Begun) (unit rbsp : List ℕ) (answer : Result SliceHeader Refusal) (r : Refusal) → AreOfBegun n b → rbsp ≡ rbsp_of unit → IsSliceAnswer n.nal_type b unit answer
    → ReadsSlice (in_force_at n) rbsp (Err (Refused r)) → answer ≡ Err r
gives_no_slice n b unit rbsp answer r are spells is read =
    let here = subst (λ at. ReadsSlice at (rbsp_of unit) (Err (Refused r))) (same_place n b are) (subst (λ xs. ReadsSlice (in_force_at n) xs (Err (Refused r))) spells read) in
    one_slice n.nal_type b unit answer (Err r) is (refused_of (here.1.reads []).1)

pub slice_fits : (at : At) (unit rbsp : List ℕ) (value : SliceValue) (size : ℕ) → rbsp ≡ rbsp_of unit → ReadsSlice at rbsp (Ok (value, size)) → 2 + size ≤ length (unescaped unit)
slice_fits at unit rbsp value size spells read = fits_unit at unit value size (subst (λ xs. BeginsSlice at xs value size) spells read)

pub subpic_below : (n : SliceNumbers) (rbsp : List ℕ) (value : SliceValue) (size : ℕ) → ReadsSlice (in_force_at n) rbsp (Ok (value, size)) → value.subpic < length n.ids.now
subpic_below n rbsp value size read =
    let told = numbers_are_told (in_force_at n) value.fields read.inside read.fields (slice_scopes_are_whole n.nal_type n.sps.now n.pps.now n.header.now) in
    subst (λ x. x < length n.ids.now) (sym read.numbers.subpic) told.known

pub gives_slice_error : (n : SliceNumbers) (b : Begun) (unit rbsp : List ℕ) (answer : Result SliceHeader Refusal) (e : ReadError) → AreOfBegun n b → rbsp ≡ rbsp_of unit → IsSliceAnswer n.nal_type b unit answer
    → ReadsSlice (in_force_at n) rbsp (Err e) → Gives answer (Err e)
gives_slice_error n b unit rbsp answer Memory are spells is read = tt
gives_slice_error n b unit rbsp answer (Refused r) are spells is read = gives_no_slice n b unit rbsp answer r are spells is read
