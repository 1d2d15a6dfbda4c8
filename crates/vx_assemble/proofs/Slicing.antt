-- Slices that are taken.
use Rattle.std.proofs.Common.{◌≡◌, ℕ, ◌<◌, ◌≤◌, List, [], ◌∷◌, ◌++◌, length, Bool, true, false, not, cond, refl, sym, ◌∙◌, ap, subst, arith, add-zero, Result, Ok, Err}
use Rattle.std.specs.Prelude.{nat_lt, Option, Some, None}
use Rattle.std.proofs.lemmas.Bool.Decides.{nat_tests}
use Rattle.std.proofs.lemmas.List.{length-map}
use Rattle.vx_bits.specs.declared.refusal.Refusal.{Refusal}
use Rattle.vx_bits.specs.declared.refusal.ReadError.{ReadError}
use Rattle.vx_bits.specs.declared.rules.TheConstants as rules
use Rattle.vx_annexb.specs.NalUnit.{nal_unit_type}
use Rattle.vx_aps.specs.declared.aps.Aps.{Aps}
use Rattle.vx_pic.specs.declared.accepted.Accepted.{Accepted}
use Rattle.vx_pic.specs.declared.kind.Kind.{Kind}
use Rattle.vx_pic.specs.Answers.{◌>>=◌, refuse_if}
use Rattle.vx_pic.specs.Units.{temporal_id, has_header_inside, slice_unit}
use Rattle.vx_pic.specs.Readings.{Begun, Slice, Reading, first_slice, next_slice, Picture, is_whole, Current, nothing, headed, going, current, is_open, pictures}
use Rattle.vx_pic.specs.Rules.{Readers, structure, unit_size, opens, opened, joins, begins, first, further, follows, alone, reads_as}
use Rattle.vx_pic.specs.Parts.{stored_sets, header_unit_in}
use Rattle.vx_pic.specs.Told.{done_or_not}
use Rattle.vx_assemble.specs.declared.join.Place.{Place}
use Rattle.vx_assemble.specs.declared.readers.ReadSlice.{ReadSlice}
use Rattle.vx_assemble.specs.declared.slices.Opened.{Opened}
use Rattle.vx_assemble.specs.declared.state.BegunPicture.{BegunPicture}
use Rattle.vx_assemble.specs.declared.state.CurrentPicture.{CurrentPicture}
use Rattle.vx_assemble.specs.declared.state.GoingPicture.{GoingPicture}
use Rattle.vx_assemble.specs.declared.state.Stage.{Stage}
use Rattle.vx_assemble.specs.declared.state.Stage.TheVariants as stages
use Rattle.vx_assemble.specs.declared.state.State.{State}
use Rattle.vx_assemble.specs.inner.Held.{begun_of, header_at, kind_at, slice_of, IsHeaded, IsGoing, Keeps, IsApart, IsHeld}
use Rattle.vx_assemble.specs.inner.Order.{IsOrdered}
use Rattle.vx_assemble.specs.inner.Takes.{Gives, slice_read_as, TookUnit, TakesUnit, no_slice_missing}
use Rattle.vx_assemble.specs.inner.Opening.{opened_in}
use Rattle.vx_assemble.specs.inner.Places.{IsAt}
use Rattle.vx_assemble.specs.inner.Changes.{with_slice, with_begun_picture, with_header, with_begun}
use Rattle.vx_assemble.specs.inner.Slices.{IsFresh, first_read_as, with_first, IsSettled}
use Rattle.vx_assemble.proofs.Steps.{gives_first, gives_same, same_some}
use Rattle.vx_assemble.proofs.KeptPicture.{begun_is, headed_open, going_whole}
use Rattle.vx_assemble.proofs.Openings.{opens_are}
use Rattle.vx_assemble.proofs.Settling.{IsUnsettled, settled_held, settled_told, first_unsettled, further_unsettled}
use Rattle.vx_assemble.proofs.Taking.{takes_error}

-- ---- headers

-- a header with its own unit
unit_fits : (k : BegunPicture) (x : Option (List ℕ)) (b : Begun) → begun_of k x ≡ b → begun_of k b.unit ≡ b
unit_fits k x b is = ap (λ y. begun_of k y) (sym (ap (λ y. y.unit) is)) ∙ is

pub headed_fresh : (c : CurrentPicture) (k : BegunPicture) (b : Begun) → header_at c.stage ≡ Some k → IsHeaded c b → IsFresh c k b
headed_fresh c k b is head = record {
  begun = unit_fits k (header_unit_in c.bytes c.header_end) b (begun_is c k b is head.begun);
  slices = head.slices;
  size = head.size;
}

-- ---- the first slice

pub fresh_at : (a : Place) (c : CurrentPicture) (before : List Reading) (b : Begun) (kind : Kind) (sets : List (Option Aps)) → IsFresh c a.begun.now b
    → sets ≡ stored_sets before → a.bodies.now ≡ sets → a.kind ≡ kind → a.count ≡ length c.slices → a.size ≡ length c.bytes
    → IsAt a (opened before b kind)
fresh_at a c before b kind sets fresh stored bodies kind_is count size = record {
  begun = fresh.begun;
  kind = kind_is;
  bodies = bodies ∙ stored;
  count = count ∙ ap length fresh.slices;
  size = size ∙ fresh.size ∙ sym (add-zero (unit_size b.unit));
}

opens_is : (s : State) (before : List Reading) (k : BegunPicture) (b : Begun) (u : List ℕ) (t tid : ℕ) → IsApart s before → IsFresh s.picture k b
    → t ≡ nal_unit_type u → tid ≡ temporal_id u → opens before b u ≡ opened_in s (begun_of k None) t tid
opens_is s before k b u t tid held fresh type tid_is =
    opens_are s before k b u held fresh.begun
    ∙ ap (λ x. opened_in s (begun_of k None) x (temporal_id u)) (sym type) ∙ ap (λ x. opened_in s (begun_of k None) t x) (sym tid_is)

pub open_refused : (R : Readers) (s : State) (before : List Reading) (k : BegunPicture) (b : Begun) (u : List ℕ) (t tid : ℕ) (r : Refusal) → IsApart s before
    → IsFresh s.picture k b → t ≡ nal_unit_type u → tid ≡ temporal_id u → Err r ≡ opened_in s (begun_of k None) t tid → first R before b u ≡ Err r
open_refused R s before k b u t tid r held fresh type tid_is bad =
    ap (λ x. x >>= λ y. joins R (opened before b y) u >>= λ z. Ok (first_slice b y z)) (opens_is s before k b u t tid held fresh type tid_is ∙ sym bad)

behind_open : (R : Readers) (s : State) (before : List Reading) (k : BegunPicture) (b : Begun) (u : List ℕ) (t tid : ℕ) (kind : Kind) → IsApart s before
    → IsFresh s.picture k b → t ≡ nal_unit_type u → tid ≡ temporal_id u → Ok kind ≡ opened_in s (begun_of k None) t tid
    → first R before b u ≡ (joins R (opened before b kind) u >>= λ z. Ok (first_slice b kind z))
behind_open R s before k b u t tid kind held fresh type tid_is good =
    ap (λ x. x >>= λ y. joins R (opened before b y) u >>= λ z. Ok (first_slice b y z)) (opens_is s before k b u t tid held fresh type tid_is ∙ sym good)

pub join_refused : (R : Readers) (s : State) (before : List Reading) (k : BegunPicture) (b : Begun) (u : List ℕ) (t tid : ℕ) (kind : Kind) (e : ReadError)
    → IsApart s before → IsFresh s.picture k b → t ≡ nal_unit_type u → tid ≡ temporal_id u → Ok kind ≡ opened_in s (begun_of k None) t tid
    → Gives (joins R (opened before b kind) u) (Err e) → Gives (first R before b u) (Err e)
join_refused R s before k b u t tid kind e held fresh type tid_is good bad =
    gives_same (first R before b u) _ (Err e) (behind_open R s before k b u t tid kind held fresh type tid_is good)
    (gives_first (joins R (opened before b kind) u) (λ z. Ok (first_slice b kind z)) e bad)

pub first_reads : (R : Readers) (s : State) (before : List Reading) (k : BegunPicture) (b : Begun) (u : List ℕ) (t tid : ℕ) (kind : Kind) (x : Slice)
    → IsApart s before → IsFresh s.picture k b → t ≡ nal_unit_type u → tid ≡ temporal_id u → Ok kind ≡ opened_in s (begun_of k None) t tid
    → joins R (opened before b kind) u ≡ Ok x → first R before b u ≡ Ok (first_slice b kind x)
first_reads R s before k b u t tid kind x held fresh type tid_is good read =
    behind_open R s before k b u t tid kind held fresh type tid_is good ∙ ap (λ y. y >>= λ z. Ok (first_slice b kind z)) read

-- ---- what is settled

pub record TookSettled (new : State) (before : List Reading) (what : Accepted) : Type 0 where
  pub held : IsHeld new before
  pub told : what ≡ done_or_not (current before)

-- a picture that is going
record IsAtGoing (s : Stage) : Type 0 where
  going : GoingPicture
  is : s ≡ stages.Going going

going_stage : (s : Stage) (k : Kind) → kind_at s ≡ Some k → IsAtGoing s
going_stage stages.Nothing k is = absurd (let e : None ≡ Some k = is in cc)
going_stage (stages.Headed b) k is = absurd (let e : None ≡ Some k = is in cc)
going_stage (stages.Going g) k is = record { going = g; is = refl }

settle_took : (mid new : State) (before : List Reading) (p : Picture) (earlier : List Picture) (what : Accepted) → IsUnsettled mid before p earlier
    → IsOrdered mid.picture → IsSettled mid new what → TookSettled new before what
settle_took mid new before p earlier what u order st =
    let at = going_stage mid.picture.stage p.kind u.goes.kind in
    let g = at.going in
    let header : header_at mid.picture.stage ≡ Some g.begun = ap header_at at.is in
    let begun = unit_fits g.begun (header_unit_in mid.picture.bytes mid.picture.header_end) p.begun (begun_is mid.picture g.begun p.begun header u.goes.begun) in
    let kind : g.kind ≡ p.kind = same_some g.kind p.kind (sym (ap kind_at at.is) ∙ u.goes.kind) in
    let came = going_whole mid.picture g.begun p header order u.goes in
    record {
      held = rw (st.new_is g at.is) (settled_held mid before p earlier g.begun g.kind u begun kind came);
      told = st.told g at.is ∙ settled_told mid before p g.begun u.now came;
    }

pub took_first : (R : Readers) (s mid new : State) (before : List Reading) (b : Begun) (u : List ℕ) (o : Opened) (what : Accepted) → IsApart s before
    → IsHeaded s.picture b → IsOrdered s.picture → o.bodies ≡ s.aps → first R before b u ≡ Ok (first_read_as b u o) → mid ≡ with_first u o s
    → IsOrdered mid.picture → IsSettled mid new what → TookUnit (first R before b u) before new what
took_first R s mid new before b u o what held head order bodies read is mid_order st =
    let un : IsUnsettled mid (first_read_as b u o ∷ before) (record { begun = b; kind = o.kind; before = before; slices = slice_read_as u o.read ∷ [] }) (pictures before) =
    rw is (first_unsettled s before b u o held head order bodies) in
    let took = settle_took mid new (first_read_as b u o ∷ before) _ (pictures before) what un mid_order st in
    record { reading = first_read_as b u o; reads = read; held = took.held; told = took.told }

-- ---- a further slice

pub going_at : (a : Place) (c : CurrentPicture) (p : Picture) → IsGoing c p → header_at c.stage ≡ Some a.begun.now → kind_at c.stage ≡ Some a.kind → a.bodies.now ≡ c.bodies
    → a.count ≡ length c.slices → a.size ≡ length c.bytes → IsAt a p
going_at a c p goes begun kind bodies count size = record {
  begun = unit_fits a.begun.now (header_unit_in c.bytes c.header_end) p.begun (begun_is c a.begun.now p.begun begun goes.begun);
  kind = same_some a.kind p.kind (sym kind ∙ goes.kind);
  bodies = bodies ∙ goes.bodies;
  count = count ∙ sym (length-map c.slices (slice_of c.bytes)) ∙ ap length goes.slices;
  size = size ∙ goes.size;
}

pub going_kept : (s : State) (before : List Reading) (p : Picture) → IsHeld s before → current before ≡ going p → IsGoing s.picture p
going_kept s before p held is = subst (λ q. Keeps s.picture q) is held.picture

pub further_refused : (R : Readers) (new : State) (before : List Reading) (p : Picture) (u : List ℕ) (e : ReadError) → Gives (joins R p u) (Err e)
    → TakesUnit (further R p u) before new (Err e)
further_refused R new before p u e bad = takes_error (further R p u) before new e (gives_first (joins R p u) (λ x. Ok (next_slice x)) e bad)

pub took_further : (R : Readers) (s mid new : State) (before : List Reading) (p : Picture) (k : BegunPicture) (u : List ℕ) (r : ReadSlice) (what : Accepted)
    → IsHeld s before → current before ≡ going p → is_whole p ≡ false → IsOrdered s.picture → header_at s.picture.stage ≡ Some k
    → joins R p u ≡ Ok (slice_read_as u r) → mid ≡ with_begun_picture (with_slice u r s.picture) s → IsOrdered mid.picture → IsSettled mid new what
    → TookUnit (further R p u) before new what
took_further R s mid new before p k u r what held is whole order begun read mid_is mid_order st =
    let un : IsUnsettled mid (next_slice (slice_read_as u r) ∷ before) (record p { slices = p.slices ++ slice_read_as u r ∷ [] }) (pictures before) =
    rw mid_is (further_unsettled s before p k u r held is whole order begun) in
    let took = settle_took mid new (next_slice (slice_read_as u r) ∷ before) _ (pictures before) what un mid_order st in
    record {
      reading = next_slice (slice_read_as u r);
      reads = ap (λ x. x >>= λ y. Ok (next_slice y)) read;
      held = took.held;
      told = took.told;
    }

-- ---- a slice whose header came before it

whole_closed : (R : Readers) (before : List Reading) (p : Picture) (u : List ℕ) (w : Bool) → is_whole p ≡ w → not (is_whole p) ≡ false
    → follows R before (going p) u ≡ Err (structure rules.SLICE_WITHOUT_HEADER)
whole_closed R before p u true is closed = rw is refl
whole_closed R before p u false is closed = absurd (let e : true ≡ false = sym (ap not is) ∙ closed in cc)

pub follows_closed : (R : Readers) (before : List Reading) (c : Current) (u : List ℕ) → is_open c ≡ false
    → follows R before c u ≡ Err (structure rules.SLICE_WITHOUT_HEADER)
follows_closed R before nothing u closed = refl
follows_closed R before (headed b) u closed = absurd (let e : true ≡ false = closed in cc)
follows_closed R before (going p) u closed = whole_closed R before p u (is_whole p) refl closed

whole_open : (p : Picture) (w : Bool) → is_whole p ≡ w → not (is_whole p) ≡ true → is_whole p ≡ false
whole_open p true is open_ = absurd (let e : false ≡ true = sym (ap not is) ∙ open_ in cc)
whole_open p false is open_ = is

further_is : (R : Readers) (before : List Reading) (p : Picture) (u : List ℕ) → is_whole p ≡ false → further R p u ≡ follows R before (going p) u
further_is R before p u whole = rw whole refl

goes_further : (R : Readers) (s new : State) (before : List Reading) (c : Current) (u : List ℕ) (y : Result Accepted ReadError) (g : GoingPicture)
    → current before ≡ c → Keeps s.picture c → is_open c ≡ true → s.picture.stage ≡ stages.Going g
    → ((p : Picture) → current before ≡ going p → is_whole p ≡ false → TakesUnit (further R p u) before new y)
    → TakesUnit (follows R before c u) before new y
goes_further R s new before nothing u y g is k open_ at takes = absurd (let e : false ≡ true = open_ in cc)
goes_further R s new before (headed b) u y g is k open_ at takes = absurd (let e : Some g.kind ≡ None = sym (ap kind_at at) ∙ k.kind in cc)
goes_further R s new before (going p) u y g is k open_ at takes =
    let whole = whole_open p (is_whole p) refl open_ in
    subst (λ x. TakesUnit x before new y) (further_is R before p u whole) (takes p is whole)

pub follows_further : (R : Readers) (s new : State) (before : List Reading) (u : List ℕ) (y : Result Accepted ReadError) (g : GoingPicture)
    → IsHeld s before → is_open (current before) ≡ true → s.picture.stage ≡ stages.Going g
    → ((p : Picture) → current before ≡ going p → is_whole p ≡ false → TakesUnit (further R p u) before new y)
    → TakesUnit (follows R before (current before) u) before new y
follows_further R s new before u y g held open_ at takes = goes_further R s new before (current before) u y g refl held.picture open_ at takes

goes_first : (R : Readers) (s new : State) (before : List Reading) (c : Current) (u : List ℕ) (y : Result Accepted ReadError) (h : BegunPicture)
    → Keeps s.picture c → is_open c ≡ true → s.picture.stage ≡ stages.Headed h
    → ((b : Begun) → IsHeaded s.picture b → TakesUnit (first R before b u) before new y)
    → TakesUnit (follows R before c u) before new y
goes_first R s new before nothing u y h k open_ at takes = absurd (let e : false ≡ true = open_ in cc)
goes_first R s new before (headed b) u y h k open_ at takes = takes b k
goes_first R s new before (going p) u y h k open_ at takes = absurd (let e : None ≡ Some p.kind = sym (ap kind_at at) ∙ k.kind in cc)

pub follows_first : (R : Readers) (s new : State) (before : List Reading) (u : List ℕ) (y : Result Accepted ReadError) (h : BegunPicture)
    → IsHeld s before → s.picture.stage ≡ stages.Headed h
    → ((b : Begun) → IsHeaded s.picture b → TakesUnit (first R before b u) before new y)
    → TakesUnit (follows R before (current before) u) before new y
follows_first R s new before u y h held at takes =
    goes_first R s new before (current before) u y h held.picture (headed_open s.picture h (current before) at held.picture) at takes

-- ---- a slice with the header inside

-- behind its header
only_slice : (R : Readers) (before : List Reading) (u : List ℕ) → Begun → Result Reading Refusal
only_slice R before u b = do
  _ ← refuse_if (nat_lt 1 (length b.layout.slices)) (structure rules.HEADER_INSIDE_OF_SEVERAL)
  first R before b u

alone_is : (R : Readers) (before : List Reading) (u : List ℕ) → no_slice_missing before ≡ Ok tt
    → alone R before u ≡ (begins R before u None >>= λ b. only_slice R before u b)
unfolding only_slice
alone_is R before u closed = ap (λ x. x >>= λ _. begins R before u None >>= λ b. only_slice R before u b) closed

pub alone_open : (R : Readers) (new : State) (before : List Reading) (u : List ℕ) (e : ReadError) → Gives (no_slice_missing before) (Err e)
    → TakesUnit (alone R before u) before new (Err e)
unfolding only_slice
alone_open R new before u e bad =
    takes_error (alone R before u) before new e (gives_first (no_slice_missing before) (λ _. begins R before u None >>= λ b. only_slice R before u b) e bad)

pub alone_fails : (R : Readers) (new : State) (before : List Reading) (u : List ℕ) (e : ReadError) → no_slice_missing before ≡ Ok tt
    → Gives (begins R before u None) (Err e) → TakesUnit (alone R before u) before new (Err e)
alone_fails R new before u e closed bad =
    takes_error (alone R before u) before new e
    (gives_same (alone R before u) _ (Err e) (alone_is R before u closed) (gives_first (begins R before u None) (λ b. only_slice R before u b) e bad))

alone_begun : (R : Readers) (before : List Reading) (u : List ℕ) (b : Begun) → no_slice_missing before ≡ Ok tt
    → begins R before u None ≡ Ok b → alone R before u ≡ only_slice R before u b
alone_begun R before u b closed begun =
    alone_is R before u closed ∙ ap (λ x. x >>= λ y. only_slice R before u y) begun

pub alone_several : (R : Readers) (before : List Reading) (u : List ℕ) (b : Begun) (n : ℕ) → no_slice_missing before ≡ Ok tt
    → begins R before u None ≡ Ok b → n ≡ length b.layout.slices → 1 < n → alone R before u ≡ Err (structure rules.HEADER_INSIDE_OF_SEVERAL)
unfolding only_slice
alone_several R before u b n closed begun count several =
    let over : nat_lt 1 (length b.layout.slices) ≡ true = grind (arith, nat_tests, count) in
    alone_begun R before u b closed begun ∙ rw over refl

alone_first : (R : Readers) (before : List Reading) (u : List ℕ) (b : Begun) (n : ℕ) → no_slice_missing before ≡ Ok tt
    → begins R before u None ≡ Ok b → n ≡ length b.layout.slices → n ≤ 1 → alone R before u ≡ first R before b u
unfolding only_slice
alone_first R before u b n closed begun count few =
    let under : nat_lt 1 (length b.layout.slices) ≡ false = grind (arith, nat_tests, count) in
    alone_begun R before u b closed begun ∙ rw under refl

-- the state behind the header
header_apart : (s : State) (before : List Reading) (k : BegunPicture) → IsApart s before → IsApart (with_begun k [] s) before
header_apart s before k held = record {
  sps = held.sps;
  pps = held.pps;
  aps = held.aps;
  gathered = held.gathered;
  last = held.last;
  previous = held.previous;
  ended = held.ended;
}

header_headed : (c : CurrentPicture) (k : BegunPicture) → IsHeaded (with_header k [] c) (begun_of k None)
header_headed c k = record { begun = refl; kind = refl; slices = refl; size = refl }

pub took_alone : (R : Readers) (s mid new : State) (before : List Reading) (u : List ℕ) (k : BegunPicture) (n : ℕ) (y : Result Accepted ReadError)
    → IsHeld s before → no_slice_missing before ≡ Ok tt → begins R before u None ≡ Ok (begun_of k None)
    → n ≡ length k.sets.layout.slices → n ≤ 1 → mid ≡ with_begun k [] s
    → (IsApart mid before → (b : Begun) → IsHeaded mid.picture b → TakesUnit (first R before b u) before new y)
    → TakesUnit (alone R before u) before new y
took_alone R s mid new before u k n y held closed begun count few mid_is takes =
    let first_takes = takes
    (subst (λ m. IsApart m before) (sym mid_is) (header_apart s before k held.apart))
    (begun_of k None)
    (subst (λ m. IsHeaded m.picture (begun_of k None)) (sym mid_is) (header_headed s.picture k)) in
    subst (λ x. TakesUnit x before new y) (sym (alone_first R before u (begun_of k None) n closed begun count few)) first_takes

-- ---- slices

pub slice_alone : (R : Readers) (new : State) (before : List Reading) (u : List ℕ) (y : Result Accepted ReadError) (w : Bool) → w ≡ has_header_inside u
    → w ≡ true → TakesUnit (alone R before u) before new y → TakesUnit (reads_as R slice_unit before u) before new y
slice_alone R new before u y w said is takes =
    let inside : has_header_inside u ≡ true = sym said ∙ is in
    subst (λ x. TakesUnit x before new y) (sym (ap (λ b. cond b (alone R before u) (follows R before (current before) u)) inside)) takes

pub slice_follows : (R : Readers) (new : State) (before : List Reading) (u : List ℕ) (y : Result Accepted ReadError) (w : Bool) → w ≡ has_header_inside u
    → w ≡ false → TakesUnit (follows R before (current before) u) before new y → TakesUnit (reads_as R slice_unit before u) before new y
slice_follows R new before u y w said is takes =
    let outside : has_header_inside u ≡ false = sym said ∙ is in
    subst (λ x. TakesUnit x before new y) (sym (ap (λ b. cond b (alone R before u) (follows R before (current before) u)) outside)) takes
