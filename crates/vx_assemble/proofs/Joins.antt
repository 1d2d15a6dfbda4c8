-- A slice that joins a picture, step by step.
use Rattle.std.proofs.Common.{◌≡◌, ℕ, ◌+◌, List, length, not, refl, sym, ◌∙◌, ap, subst, Result, Ok, Err}
use Rattle.std.specs.Prelude.{◌==◌, nat_le, nat_lt, None}
use Rattle.vx_bits.specs.declared.list.Item.{Item}
use Rattle.vx_bits.specs.declared.refusal.Refusal.{Refusal}
use Rattle.vx_bits.specs.declared.refusal.Refusal.TheVariants.{Limit}
use Rattle.vx_bits.specs.declared.refusal.ReadError.{ReadError}
use Rattle.vx_bits.specs.declared.rules.TheConstants as rules
use Rattle.vx_annexb.specs.NalUnit.{nal_unit_type}
use Rattle.vx_pic.specs.Answers.{◌>>=◌, refuse_if}
use Rattle.vx_pic.specs.Units.{temporal_id}
use Rattle.vx_pic.specs.Sets.{SliceHeader, slices_before, names_of, slice_qp, is_qp}
use Rattle.vx_pic.specs.Readings.{Slice, Picture}
use Rattle.vx_pic.specs.Rules.{Readers, structure, are_stored, picture_size, picture_limit, joins}
use Rattle.vx_pic.specs.Parts.{stored_sets}
use Rattle.vx_assemble.specs.declared.join.Place.{Place}
use Rattle.vx_assemble.specs.inner.Held.{begun_of}
use Rattle.vx_assemble.specs.inner.Takes.{Gives, AreSmall}
use Rattle.vx_assemble.specs.inner.Joining.{same_picture, all_there, next_slice, names_in, qp_in, qp_checked, checked}
use Rattle.vx_assemble.specs.inner.Places.{IsAt}
use Rattle.vx_assemble.proofs.Steps.{bind_assoc, bind_same, gives_first, gives_same}
use Rattle.vx_assemble.proofs.Stored.{kinds_names, stored_there}

names_are : (p header : List Item) (h : SliceHeader) → names_of p header h ≡ names_in p header h.fields
unfolding names_of
names_are p header h = refl

qp_is : (p header : List Item) (h : SliceHeader) → slice_qp p header h ≡ qp_in p header h.fields
unfolding slice_qp
qp_is p header h = refl

-- the slice
abbrev slice_at : List ℕ → SliceHeader → Result Slice Refusal
slice_at u h = Ok (record { unit = u; header = h })

-- the rules behind the header
abbrev rest : Picture → List ℕ → SliceHeader → Result Slice Refusal
rest p u h = do
  _ ← refuse_if (not (slices_before p.begun.layout h == length p.slices)) (structure rules.SLICE_MISSING)
  _ ← are_stored p.before (names_of p.begun.pps p.begun.header h)
  _ ← refuse_if (not (is_qp p.begun.sps (slice_qp p.begun.pps p.begun.header h))) (structure rules.QP_RANGE)
  _ ← refuse_if (nat_le (length u) h.payload) (structure rules.EMPTY_PAYLOAD)
  _ ← refuse_if (nat_lt picture_limit (picture_size p + length u)) (Limit rules.LONG_PICTURE)
  slice_at u h

-- the rules before it first
joins_are : (R : Readers) (p : Picture) (u : List ℕ)
    → joins R p u
    ≡ (same_picture p.begun.temporal_id p.kind.nal_type (nal_unit_type u) (temporal_id u) >>= λ _. R.slice p.kind.nal_type p.begun u >>= λ h. rest p u h)
joins_are R p u = sym (bind_assoc (refuse_if (not (temporal_id u == p.begun.temporal_id)) (structure rules.TEMPORAL_ID_DIFFERS)) _ _)

-- those behind it together
rest_is : (p : Picture) (u : List ℕ) (h : SliceHeader) → AreSmall (names_in p.begun.pps p.begun.header h.fields)
    → rest p u h ≡ (checked p.begun (stored_sets p.before) (length p.slices) (picture_size p) (length u) h >>= λ _. slice_at u h)
rest_is p u h small =
    let b = p.begun in
    let stored : are_stored p.before (names_of b.pps b.header h) ≡ all_there (stored_sets p.before) (names_in b.pps b.header h.fields) =
    ap (λ x. are_stored p.before x) (names_are b.pps b.header h)
    ∙ stored_there p.before (names_in b.pps b.header h.fields) (kinds_names b.pps b.header _) small in
    bind_same (next_slice b.layout (length p.slices) h) _ _ (λ _.
    ap (λ x. x >>= λ _. refuse_if (not (is_qp b.sps (slice_qp b.pps b.header h))) (structure rules.QP_RANGE)
    >>= λ _. refuse_if (nat_le (length u) h.payload) (structure rules.EMPTY_PAYLOAD)
    >>= λ _. refuse_if (nat_lt picture_limit (picture_size p + length u)) (Limit rules.LONG_PICTURE)
    >>= λ _. slice_at u h) stored
    ∙ bind_same (all_there (stored_sets p.before) (names_in b.pps b.header h.fields)) _ _ (λ _.
    ap (λ x. qp_checked b.sps x
    >>= λ _. refuse_if (nat_le (length u) h.payload) (structure rules.EMPTY_PAYLOAD)
    >>= λ _. refuse_if (nat_lt picture_limit (picture_size p + length u)) (Limit rules.LONG_PICTURE)
    >>= λ _. slice_at u h) (qp_is b.pps b.header h)
    ∙ bind_same (qp_checked b.sps (qp_in b.pps b.header h.fields)) _ _ (λ _.
    sym (bind_assoc (refuse_if (nat_le (length u) h.payload) (structure rules.EMPTY_PAYLOAD)) _ (λ _. slice_at u h)))
    ∙ sym (bind_assoc (qp_checked b.sps (qp_in b.pps b.header h.fields)) _ (λ _. slice_at u h)))
    ∙ sym (bind_assoc (all_there (stored_sets p.before) (names_in b.pps b.header h.fields)) _ (λ _. slice_at u h)))
    ∙ sym (bind_assoc (next_slice b.layout (length p.slices) h) _ (λ _. slice_at u h))

-- ---- what is given at each exit, where a place is that of the picture

tid_is : (a : Place) (p : Picture) → IsAt a p → a.begun.now.temporal_id ≡ p.begun.temporal_id
tid_is a p is = ap (λ b. b.temporal_id) is.begun

same_is : (a : Place) (p : Picture) (t tid : ℕ) → IsAt a p
    → same_picture a.begun.now.temporal_id a.kind.nal_type t tid ≡ same_picture p.begun.temporal_id p.kind.nal_type t tid
same_is a p t tid is =
    ap (λ x. same_picture x a.kind.nal_type t tid) (tid_is a p is) ∙ ap (λ k. same_picture p.begun.temporal_id k.nal_type t tid) is.kind

slice_is : (R : Readers) (a : Place) (p : Picture) (u : List ℕ) → IsAt a p
    → R.slice a.kind.nal_type (begun_of a.begun.now p.begun.unit) u ≡ R.slice p.kind.nal_type p.begun u
slice_is R a p u is = ap (λ b. R.slice a.kind.nal_type b u) is.begun ∙ ap (λ k. R.slice k.nal_type p.begun u) is.kind

checked_is : (a : Place) (p : Picture) (more : ℕ) (h : SliceHeader) → IsAt a p
    → checked (begun_of a.begun.now None) a.bodies.now a.count a.size more h
    ≡ checked p.begun (stored_sets p.before) (length p.slices) (picture_size p) more h
checked_is a p more h is =
    ap (λ b. checked b a.bodies.now a.count a.size more h) is.begun
    ∙ ap (λ s. checked p.begun s a.count a.size more h) is.bodies
    ∙ ap (λ n. checked p.begun (stored_sets p.before) n a.size more h) is.count
    ∙ ap (λ n. checked p.begun (stored_sets p.before) (length p.slices) n more h) is.size

pub kind_refused : (R : Readers) (a : Place) (p : Picture) (u : List ℕ) (r : Refusal) → IsAt a p
    → Err r ≡ same_picture a.begun.now.temporal_id a.kind.nal_type (nal_unit_type u) (temporal_id u) → joins R p u ≡ Err r
kind_refused R a p u r is bad =
    joins_are R p u ∙ ap (λ x. x >>= λ _. R.slice p.kind.nal_type p.begun u >>= λ h. rest p u h) (sym (bad ∙ same_is a p (nal_unit_type u) (temporal_id u) is))

behind_kind : (R : Readers) (a : Place) (p : Picture) (u : List ℕ) → IsAt a p
    → Ok tt ≡ same_picture a.begun.now.temporal_id a.kind.nal_type (nal_unit_type u) (temporal_id u)
    → joins R p u ≡ (R.slice a.kind.nal_type (begun_of a.begun.now p.begun.unit) u >>= λ h. rest p u h)
behind_kind R a p u is good =
    joins_are R p u
    ∙ ap (λ x. x >>= λ _. R.slice p.kind.nal_type p.begun u >>= λ h. rest p u h) (sym (good ∙ same_is a p (nal_unit_type u) (temporal_id u) is))
    ∙ ap (λ x. x >>= λ h. rest p u h) (sym (slice_is R a p u is))

pub slice_refused : (R : Readers) (a : Place) (p : Picture) (u : List ℕ) (e : ReadError) → IsAt a p
    → Ok tt ≡ same_picture a.begun.now.temporal_id a.kind.nal_type (nal_unit_type u) (temporal_id u)
    → Gives (R.slice a.kind.nal_type (begun_of a.begun.now p.begun.unit) u) (Err e) → Gives (joins R p u) (Err e)
slice_refused R a p u e is good bad =
    gives_same (joins R p u) _ (Err e) (behind_kind R a p u is good)
    (gives_first (R.slice a.kind.nal_type (begun_of a.begun.now p.begun.unit) u) (λ h. rest p u h) e bad)

behind_slice : (R : Readers) (a : Place) (p : Picture) (u : List ℕ) (h : SliceHeader) → IsAt a p
    → Ok tt ≡ same_picture a.begun.now.temporal_id a.kind.nal_type (nal_unit_type u) (temporal_id u)
    → R.slice a.kind.nal_type (begun_of a.begun.now p.begun.unit) u ≡ Ok h → AreSmall (names_in a.begun.now.sets.pps a.begun.now.header.fields h.fields)
    → joins R p u ≡ (checked (begun_of a.begun.now None) a.bodies.now a.count a.size (length u) h >>= λ _. slice_at u h)
behind_slice R a p u h is good read small =
    behind_kind R a p u is good
    ∙ ap (λ x. x >>= λ h. rest p u h) read
    ∙ rest_is p u h (subst (λ b. AreSmall (names_in b.pps b.header h.fields)) is.begun small)
    ∙ ap (λ x. x >>= λ _. slice_at u h) (sym (checked_is a p (length u) h is))

pub check_refused : (R : Readers) (a : Place) (p : Picture) (u : List ℕ) (h : SliceHeader) (r : Refusal) → IsAt a p
    → Ok tt ≡ same_picture a.begun.now.temporal_id a.kind.nal_type (nal_unit_type u) (temporal_id u)
    → R.slice a.kind.nal_type (begun_of a.begun.now p.begun.unit) u ≡ Ok h → AreSmall (names_in a.begun.now.sets.pps a.begun.now.header.fields h.fields)
    → Err r ≡ checked (begun_of a.begun.now None) a.bodies.now a.count a.size (length u) h → joins R p u ≡ Err r
check_refused R a p u h r is good read small bad = behind_slice R a p u h is good read small ∙ ap (λ x. x >>= λ _. slice_at u h) (sym bad)

pub joined : (R : Readers) (a : Place) (p : Picture) (u : List ℕ) (h : SliceHeader) → IsAt a p
    → Ok tt ≡ same_picture a.begun.now.temporal_id a.kind.nal_type (nal_unit_type u) (temporal_id u)
    → R.slice a.kind.nal_type (begun_of a.begun.now p.begun.unit) u ≡ Ok h → AreSmall (names_in a.begun.now.sets.pps a.begun.now.header.fields h.fields)
    → Ok tt ≡ checked (begun_of a.begun.now None) a.bodies.now a.count a.size (length u) h → joins R p u ≡ Ok (record { unit = u; header = h })
joined R a p u h is good read small fine = behind_slice R a p u h is good read small ∙ ap (λ x. x >>= λ _. slice_at u h) (sym fine)
