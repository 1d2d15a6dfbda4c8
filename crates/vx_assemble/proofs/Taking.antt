-- Units that are taken, by their class.
use Rattle.std.proofs.Common.{◌≡◌, ℕ, ◌<◌, ◌≤◌, List, ◌∷◌, length, Bool, true, false, cond, refl, sym, ◌∙◌, ap, subst, arith, Result, Ok, Err}
use Rattle.std.specs.Prelude.{◌==◌, not, Some, None, slice_set}
use Rattle.vx_aps.specs.declared.aps.TheConstants.{LMCS}
use Rattle.vx_annexb.specs.declared.header.NalHeader.{NalHeader}
use Rattle.vx_annexb.specs.NalUnit.{header_of}
use Rattle.vx_bits.specs.declared.list.Item.{Item}
use Rattle.vx_bits.specs.declared.refusal.Refusal.{Refusal}
use Rattle.vx_bits.specs.declared.refusal.ReadError.{ReadError}
use Rattle.vx_bits.specs.declared.refusal.ReadError.TheVariants as errors
use Rattle.vx_aps.specs.declared.aps.Aps.{Aps}
use Rattle.vx_aps.specs.Aps.{IsValid}
use Rattle.vx_pic.specs.declared.accepted.Accepted.{Accepted}
use Rattle.vx_pic.specs.declared.accepted.Accepted.TheVariants as accepted
use Rattle.vx_pic.specs.Answers.{◌>>=◌}
use Rattle.vx_pic.specs.Units.{rbsp_of, is_reserved, class_of, Class, other_unit, vps_unit, prefix_aps, suffix_aps, header_unit, end_unit}
use Rattle.vx_pic.specs.Readings.{Reading, dropped, vps_read, aps_read, header_read, sequence_ended}
use Rattle.vx_pic.specs.Rules.{Readers, aps_reading, begins, reads_as, reads}
use Rattle.vx_pic.specs.Parts.{slot_of}
use Rattle.vx_pic.specs.Told.{told_of}
use Rattle.vx_pic.proofs.StoredSets.{set_stored}
use Rattle.vx_assemble.specs.declared.state.BegunPicture.{BegunPicture}
use Rattle.vx_assemble.specs.declared.state.State.{State}
use Rattle.vx_assemble.specs.inner.Held.{begun_of, IsHeld}
use Rattle.vx_assemble.specs.declared.unit.UnitClass.{UnitClass}
use Rattle.vx_assemble.specs.inner.Classes.{class_seen}
use Rattle.vx_assemble.specs.inner.Takes.{Gives, TookUnit, TakesUnit, outside_picture, no_slice_missing}
use Rattle.vx_assemble.specs.inner.Changes.{with_items, with_aps, with_end, with_begun}
use Rattle.vx_assemble.proofs.Steps.{gives_first, gives_same}
use Rattle.vx_assemble.proofs.Holding.{dropped_held, vps_held, end_held, header_held}

-- an error of the rules is one of the unit
pub takes_error : (answer : Result Reading Refusal) (before : List Reading) (new : State) (e : ReadError) → Gives answer (Err e)
    → TakesUnit answer before new (Err e)
takes_error answer before new errors.Memory is = tt
takes_error answer before new (errors.Refused r) is = is

-- ---- dropped units

pub took_other : (R : Readers) (s : State) (before : List Reading) (u : List ℕ) → IsHeld s before
    → TookUnit (reads_as R other_unit before u) before s accepted.Nothing
took_other R s before u held = record { reading = dropped; reads = refl; held = dropped_held s before held; told = refl }

-- ---- video parameter sets

pub took_vps : (R : Readers) (s new : State) (before : List Reading) (u rbsp : List ℕ) (v : List Item) → rbsp ≡ rbsp_of u → R.vps rbsp ≡ Ok v
    → IsHeld s before → new ≡ with_items v s → TookUnit (reads_as R vps_unit before u) before new accepted.Vps
took_vps R s new before u rbsp v spells read held is = record {
  reading = vps_read v;
  reads = ap (λ x. x >>= λ y. Ok (vps_read y)) (ap R.vps (sym spells) ∙ read);
  held = rw is (vps_held s before v held);
  told = refl;
}

pub failed_vps : (R : Readers) (new : State) (before : List Reading) (u rbsp : List ℕ) (e : ReadError) → rbsp ≡ rbsp_of u → Gives (R.vps rbsp) (Err e)
    → TakesUnit (reads_as R vps_unit before u) before new (Err e)
failed_vps R new before u rbsp e spells bad =
    takes_error (reads_as R vps_unit before u) before new e
    (gives_first (R.vps (rbsp_of u)) (λ v. Ok (vps_read v)) e (subst (λ x. Gives (R.vps x) (Err e)) spells bad))

-- ---- sets that don't stand within a picture

-- such a set, by what it is read as
abbrev pub outside : {A : Type 0} → List Reading → Result A Refusal → (A → Reading) → Result Reading Refusal
outside before read as_reading = do
  _ ← outside_picture before
  v ← read
  Ok (as_reading v)

outside_is : {A : Type 0} (before : List Reading) (read : Result A Refusal) (f : A → Reading) → outside_picture before ≡ Ok tt
    → outside before read f ≡ (read >>= λ v. Ok (f v))
outside_is before read f is = ap (λ x. x >>= λ _. read >>= λ v. Ok (f v)) is

pub refused_within : {A : Type 0} (before : List Reading) (new : State) (read : Result A Refusal) (f : A → Reading) (e : ReadError)
    → Gives (outside_picture before) (Err e) → TakesUnit (outside before read f) before new (Err e)
refused_within before new read f e bad =
    takes_error (outside before read f) before new e (gives_first (outside_picture before) (λ _. read >>= λ v. Ok (f v)) e bad)

pub failed_outside : {A : Type 0} (before : List Reading) (new : State) (read : List ℕ → Result A Refusal) (f : A → Reading) (u rbsp : List ℕ) (e : ReadError)
    → outside_picture before ≡ Ok tt → rbsp ≡ rbsp_of u → Gives (read rbsp) (Err e) → TakesUnit (outside before (read (rbsp_of u)) f) before new (Err e)
failed_outside before new read f u rbsp e is spells bad =
    let m = read (rbsp_of u) in
    takes_error (outside before m f) before new e
    (gives_same (outside before m f) (m >>= λ v. Ok (f v)) (Err e) (outside_is before m f is)
    (gives_first m (λ v. Ok (f v)) e (subst (λ x. Gives (read x) (Err e)) spells bad)))

pub took_outside : {A : Type 0} (before : List Reading) (new : State) (read : List ℕ → Result A Refusal) (f : A → Reading) (u rbsp : List ℕ) (v : A) (what : Accepted)
    → outside_picture before ≡ Ok tt → rbsp ≡ rbsp_of u → read rbsp ≡ Ok v → IsHeld new (f v ∷ before) → what ≡ told_of (f v) before
    → TookUnit (outside before (read (rbsp_of u)) f) before new what
took_outside before new read f u rbsp v what is spells got held told = record {
  reading = f v;
  reads = outside_is before (read (rbsp_of u)) f is ∙ ap (λ x. x >>= λ y. Ok (f y)) (ap read (sym spells) ∙ got);
  held = held;
  told = told;
}

-- ---- adaptation parameter sets

few_ids : (kind : ℕ) (b : Bool) → cond b 4 8 ≤ 8
few_ids kind true = omega arith
few_ids kind false = omega arith

aps_held : (s : State) (before : List Reading) (a : Aps) → IsHeld s before → IsValid a → IsHeld (with_aps a s) (aps_read a ∷ before)
aps_held s before a h valid =
    let low : a.id < 8 = let few = few_ids a.kind (a.kind == LMCS) in let below : a.id < cond (a.kind == LMCS) 4 8 = valid.id in omega (arith, few, below) in
    record {
      apart = record {
        sps = h.apart.sps;
        pps = h.apart.pps;
        aps = ap (λ l. slice_set l (slot_of a.kind a.id) (Some a)) h.apart.aps ∙ set_stored a before valid.kind low;
        gathered = h.apart.gathered;
        last = h.apart.last;
        previous = h.apart.previous;
        ended = h.apart.ended;
      };
      picture = h.picture;
      items = refl;
    }

pub failed_aps : (R : Readers) (new : State) (before : List Reading) (u rbsp : List ℕ) (e : ReadError) → rbsp ≡ rbsp_of u → Gives (R.aps rbsp) (Err e)
    → TakesUnit (reads_as R suffix_aps before u) before new (Err e)
failed_aps R new before u rbsp e spells bad =
    takes_error (reads_as R suffix_aps before u) before new e
    (gives_first (R.aps (rbsp_of u)) (λ a. Ok (aps_reading a)) e (subst (λ x. Gives (R.aps x) (Err e)) spells bad))

pub dropped_aps : (R : Readers) (s : State) (before : List Reading) (u rbsp : List ℕ) → rbsp ≡ rbsp_of u → R.aps rbsp ≡ Ok None → IsHeld s before
    → TookUnit (reads_as R suffix_aps before u) before s accepted.Nothing
dropped_aps R s before u rbsp spells read held = record {
  reading = dropped;
  reads = ap (λ x. x >>= λ y. Ok (aps_reading y)) (ap R.aps (sym spells) ∙ read);
  held = dropped_held s before held;
  told = refl;
}

pub took_aps : (R : Readers) (s new : State) (before : List Reading) (u rbsp : List ℕ) (a : Aps) → rbsp ≡ rbsp_of u → R.aps rbsp ≡ Ok (Some a)
    → IsValid a → IsHeld s before → new ≡ with_aps a s → TookUnit (reads_as R suffix_aps before u) before new (accepted.Aps a.kind a.id)
took_aps R s new before u rbsp a spells read valid held kept = record {
  reading = aps_read a;
  reads = ap (λ x. x >>= λ y. Ok (aps_reading y)) (ap R.aps (sym spells) ∙ read);
  held = rw kept (aps_held s before a held valid);
  told = refl;
}

pub prefix_within : (R : Readers) (before : List Reading) (u : List ℕ) (new : State) (e : ReadError) → Gives (outside_picture before) (Err e)
    → TakesUnit (reads_as R prefix_aps before u) before new (Err e)
prefix_within R before u new e bad = refused_within before new (R.aps (rbsp_of u)) aps_reading e bad

pub took_prefix : (R : Readers) (new : State) (before : List Reading) (u : List ℕ) (y : Result Accepted ReadError) → outside_picture before ≡ Ok tt
    → TakesUnit (reads_as R suffix_aps before u) before new y → TakesUnit (reads_as R prefix_aps before u) before new y
took_prefix R new before u y is takes = subst (λ x. TakesUnit x before new y) (sym (outside_is before (R.aps (rbsp_of u)) aps_reading is)) takes

-- ---- the end of a sequence

pub end_open : (R : Readers) (new : State) (before : List Reading) (u : List ℕ) (e : ReadError) → Gives (no_slice_missing before) (Err e)
    → TakesUnit (reads_as R end_unit before u) before new (Err e)
end_open R new before u e bad =
    takes_error (reads_as R end_unit before u) before new e (gives_first (no_slice_missing before) (λ _. Ok sequence_ended) e bad)

pub took_end : (R : Readers) (s new : State) (before : List Reading) (u : List ℕ) → no_slice_missing before ≡ Ok tt → IsHeld s before
    → new ≡ with_end s → TookUnit (reads_as R end_unit before u) before new accepted.Nothing
took_end R s new before u closed held kept = record {
  reading = sequence_ended;
  reads = ap (λ x. x >>= λ _. Ok sequence_ended) closed;
  held = rw kept (end_held s before held);
  told = refl;
}

-- ---- picture headers

header_reads : (R : Readers) (before : List Reading) (u : List ℕ) → no_slice_missing before ≡ Ok tt
    → reads_as R header_unit before u ≡ (begins R before u (Some u) >>= λ b. Ok (header_read b))
header_reads R before u closed = ap (λ x. x >>= λ _. begins R before u (Some u) >>= λ b. Ok (header_read b)) closed

pub header_open : (R : Readers) (new : State) (before : List Reading) (u : List ℕ) (e : ReadError) → Gives (no_slice_missing before) (Err e)
    → TakesUnit (reads_as R header_unit before u) before new (Err e)
header_open R new before u e bad =
    takes_error (reads_as R header_unit before u) before new e
    (gives_first (no_slice_missing before) (λ _. begins R before u (Some u) >>= λ b. Ok (header_read b)) e bad)

pub failed_header : (R : Readers) (new : State) (before : List Reading) (u : List ℕ) (e : ReadError) → no_slice_missing before ≡ Ok tt
    → Gives (begins R before u (Some u)) (Err e) → TakesUnit (reads_as R header_unit before u) before new (Err e)
failed_header R new before u e closed bad =
    takes_error (reads_as R header_unit before u) before new e
    (gives_same (reads_as R header_unit before u) (begins R before u (Some u) >>= λ b. Ok (header_read b)) (Err e)
    (header_reads R before u closed) (gives_first (begins R before u (Some u)) (λ b. Ok (header_read b)) e bad))

pub took_header : (R : Readers) (s new : State) (before : List Reading) (u : List ℕ) (b : BegunPicture) → no_slice_missing before ≡ Ok tt
    → begins R before u (Some u) ≡ Ok (begun_of b (Some u)) → 2 ≤ length u → IsHeld s before
    → new ≡ with_begun b u s → TookUnit (reads_as R header_unit before u) before new accepted.Nothing
took_header R s new before u b closed begun some held kept = record {
  reading = header_read (begun_of b (Some u));
  reads = header_reads R before u closed ∙ ap (λ x. x >>= λ y. Ok (header_read y)) begun;
  held = rw kept (header_held s before b u held some);
  told = refl;
}

-- ---- classes

pub as_class : (R : Readers) (k l : UnitClass) (before : List Reading) (u : List ℕ) (new : State) (y : Result Accepted ReadError) → k ≡ l
    → TakesUnit (reads_as R (class_seen l) before u) before new y → TakesUnit (reads_as R (class_seen k) before u) before new y
as_class R k l before u new y is takes = subst (λ x. TakesUnit (reads_as R (class_seen x) before u) before new y) (sym is) takes

plain_reads : (R : Readers) (before : List Reading) (u : List ℕ) (c : Class) → (header_of u).reserved ≡ false → (header_of u).layer_id ≡ 0
    → c ≡ class_of (header_of u).nal_type → reads R before u ≡ reads_as R c before u
unfolding is_reserved
plain_reads R before u c kept layer class =
    let base : not ((header_of u).layer_id == 0) ≡ false = ap (λ n. not (n == 0)) layer in
    rw (kept, base, ← class) refl

pub plain_takes : (R : Readers) (before : List Reading) (u : List ℕ) (h : NalHeader) (k : UnitClass) (new : State) (y : Result Accepted ReadError)
    → h ≡ header_of u → h.reserved ≡ false → h.layer_id ≡ 0 → class_seen k ≡ class_of h.nal_type
    → TakesUnit (reads_as R (class_seen k) before u) before new y → TakesUnit (reads R before u) before new y
plain_takes R before u h k new y is kept layer class takes =
    let reserved : (header_of u).reserved ≡ false = sym (ap (λ x. x.reserved) is) ∙ kept in
    let base : (header_of u).layer_id ≡ 0 = sym (ap (λ x. x.layer_id) is) ∙ layer in
    let kind : class_seen k ≡ class_of (header_of u).nal_type = class ∙ ap (λ x. class_of x.nal_type) is in
    subst (λ x. TakesUnit x before new y) (sym (plain_reads R before u (class_seen k) reserved base kind)) takes
