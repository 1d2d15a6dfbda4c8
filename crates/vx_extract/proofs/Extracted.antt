-- What is written of a picture is its subpicture.
use Rattle.std.proofs.Common.{◌≡◌, ℕ, ◌<◌, Bool, true, false, List, [], ◌∷◌, ◌++◌, length, map, Option, Some, None, Ok, Err, refl, sym, ap, subst, ◌∙◌, arith}
use Rattle.std.specs.Prelude.{option_map, option_to_list}
use Rattle.std.specs.Io.KnownBytes.{Appends}
use Rattle.vx_io.specs.declared.write.SinkFailed.{SinkFailed}
use Rattle.vx_io.specs.Written.{AppendsFront}
use Rattle.vx_annexb.specs.Laws.{written}
use Rattle.vx_layout.specs.Regions.{region_of}
use Rattle.vx_pic.specs.Parts.{Parts}
use Rattle.vx_pic.specs.Readings.{Slice}
use Rattle.vx_pic.specs.Written.{Plan, SeiUnit, units_of, eos_units, sei_units}
use Rattle.vx_pic.specs.Resident.{history_of, kept_for}
use Rattle.vx_write.specs.declared.fault.WriteError.{WriteError}
use Rattle.vx_write.specs.declared.fault.WriteError.TheVariants as errors
use Rattle.vx_write.specs.declared.fault.WriteFirst.{WriteFirst}
use Rattle.vx_extract.specs.Rules.{is_kept, refusal_of}
use Rattle.vx_extract.specs.Written.{extracted_slices, IsExtracted}
use Rattle.vx_extract.specs.Extracting.{Extracting, HasSlice, WritesKept, WritesPicture}
use Rattle.vx_write.specs.Slots.{Sent, AreLastOf}
use Rattle.vx_write.specs.Sending.{unsent}
use Rattle.vx_extract.specs.inner.Sending.{IsMade}
use Rattle.vx_write.specs.Writing.{Takes}
use Rattle.vx_extract.specs.inner.Writing.{units_with}

abbrev asked : ℕ → Option ℕ → ℕ → List Sent → Option WriteFirst → Extracting
asked target level tid slots first = record { target = target; level = level; tid = tid; slots = slots; first = first }

abbrev sei_of : Parts → Option (List ℕ) → Option SeiUnit
sei_of q sei = option_map (λ unit. record { unit = unit; messages = q.messages }) sei

sei_units_of : (q : Parts) (sei : Option (List ℕ)) → sei_units (sei_of q sei) ≡ option_to_list sei
sei_units_of q None = refl
sei_units_of q (Some unit) = refl

-- a picture with these slices, of which what is made is that
record IsPlan (target : ℕ) (level : Option ℕ) (q : Parts) (done : List Plan) (sets : List (List ℕ)) (sei : Option (List ℕ)) (slots : List Sent) : Type 0 where
  plan : Plan
  is : IsExtracted target level q done plan
  all : units_of plan ≡ units_with q target sets sei
  last : AreLastOf (history_of (plan ∷ done)) slots

plan_of : (target : ℕ) (level : Option ℕ) (q : Parts) (done : List Plan) (sets : List (List ℕ)) (sei : Option (List ℕ)) (slots : List Sent)
    → IsMade target level q done sets sei slots → (first : Slice) (more : List Slice) → extracted_slices q target ≡ first ∷ more
    → IsPlan target level q done sets sei slots
plan_of target level q done sets sei slots made first more are =
    let before = kept_for q.kind.nal_type (history_of done) in
    let sent = unsent q.kind.temporal_id before made.sent.needed in
    let p : Plan = record {
      sent = sent;
      sei = sei_of q sei;
      begun = record { sps = made.sps; pps = made.pps; layout = region_of q.layout target; header = q.header.fields; temporal_id = q.kind.temporal_id; unit = q.unit };
      kind = q.kind;
      first = first;
      more = more;
    } in
    let units : units_of p ≡ units_with q target sets sei =
    ap (λ us. eos_units q.kind.after_eos ++ (us ++ (sei_units (sei_of q sei) ++ (option_to_list q.unit ++ map (λ s. s.unit) (first ∷ more))))) (sym made.sent.made)
    ∙ ap (λ us. eos_units q.kind.after_eos ++ (sets ++ (us ++ (option_to_list q.unit ++ map (λ s. s.unit) (first ∷ more))))) (sei_units_of q sei)
    ∙ ap (λ ss. eos_units q.kind.after_eos ++ (sets ++ (option_to_list sei ++ (option_to_list q.unit ++ map (λ s. s.unit) ss)))) (sym are) in
    record {
      plan = p;
      is = record {
        sps = made.sps_is;
        pps = made.pps_is;
        layout = refl;
        header = refl;
        temporal_id = refl;
        unit = refl;
        kind = refl;
        slices = sym are;
        needed = made.sent.needed;
        sets = made.sent.of;
        units = made.sent.spelled;
        sent = refl;
        sei = made.sei_is;
      };
      all = units;
      last = made.sent.held;
    }

planned : (target : ℕ) (level : Option ℕ) (q : Parts) (done : List Plan) (sets : List (List ℕ)) (sei : Option (List ℕ)) (slots : List Sent)
    → IsMade target level q done sets sei slots → HasSlice target q → IsPlan target level q done sets sei slots
planned target level q done sets sei slots made has = by (extracted_slices q target) refl has
  where
    by : (ss : List Slice) → extracted_slices q target ≡ ss → 0 < length ss → IsPlan target level q done sets sei slots
    by [] are some = absurd (omega arith)
    by (first ∷ more) are some = plan_of target level q done sets sei slots made first more are

-- all is written
pub writes_all : (target : ℕ) (level : Option ℕ) (tid : ℕ) (q : Parts) (done : List Plan) (sets : List (List ℕ)) (sei : Option (List ℕ)) (slots : List Sent)
    (a b : Option (List ℕ)) (k l : ℕ) → None ≡ refusal_of target tid q → true ≡ is_kept tid q
    → IsMade target level q done sets sei slots → Takes a b k l (units_with q target sets sei) (Ok tt)
    → WritesPicture q done (asked target level tid slots None) a b k l (Ok tt)
writes_all target level tid q done sets sei slots a b k l sound kept made took =
    let P : Bool → Type 0 = λ t. WritesKept t q done (asked target level tid slots None) a b in
    let answer : P true = λ has.
    let p = planned target level q done sets sei slots made has in
    (p.plan, p.is, subst (λ us. Appends a b (written us)) (sym p.all) took.ok, record { slots = p.last; going = refl }) in
    (sym sound, took.faults, subst P kept answer)

-- a front of it is written
pub writes_front : (target : ℕ) (level : Option ℕ) (tid : ℕ) (q : Parts) (done : List Plan) (sets : List (List ℕ)) (sei : Option (List ℕ)) (slots : List Sent)
    (a b : Option (List ℕ)) (k l : ℕ) (e : SinkFailed) → None ≡ refusal_of target tid q → true ≡ is_kept tid q
    → IsMade target level q done sets sei slots → Takes a b k l (units_with q target sets sei) (Err e)
    → WritesPicture q done (asked target level tid slots None) a b k l (Err errors.SinkFailed)
writes_front target level tid q done sets sei slots a b k l e sound kept made took = (
  sym sound,
  sym kept,
  took.faults,
  λ has.
      let p = planned target level q done sets sei slots made has in
      (p.plan, p.is, subst (λ us. AppendsFront a b (written us)) (sym p.all) took.err),
)

-- it is left out
pub writes_none : {A : Type 0} (bytes : A → Option (List ℕ)) (faults : A → ℕ) (x y : A) (target : ℕ) (level : Option ℕ) (tid : ℕ) (q : Parts) (done : List Plan)
    (slots : List Sent) → y ≡ x → None ≡ refusal_of target tid q → false ≡ is_kept tid q → AreLastOf (history_of done) slots
    → WritesPicture q done (asked target level tid slots None) (bytes x) (bytes y) (faults x) (faults y) (Ok tt)
writes_none bytes faults x y target level tid q done slots same sound left last =
    let P : Bool → Type 0 = λ t. WritesKept t q done (asked target level tid slots None) (bytes x) (bytes y) in
    let answer : P false = (ap bytes same, record { slots = last; going = refl }) in
    (sym sound, ap faults same, subst P left answer)

-- after an error what was sent doesn't matter
pub writes_stopped : (q : Parts) (done : List Plan) (x y : Extracting) (a b : Option (List ℕ)) (k l : ℕ) (e : WriteError)
    → y.target ≡ x.target → y.level ≡ x.level → y.tid ≡ x.tid → WritesPicture q done x a b k l (Err e) → WritesPicture q done y a b k l (Err e)
writes_stopped q done x y a b k l errors.Memory target level tid is = rw (target, tid) is
writes_stopped q done x y a b k l errors.SinkFailed target level tid is = rw (target, level, tid) is
writes_stopped q done x y a b k l (errors.Refused r) target level tid is = rw (target, tid) is
writes_stopped q done x y a b k l (errors.Stopped f) target level tid is = is
