-- Slices that are put behind others lie in order.
use Rattle.std.proofs.Common.{◌≡◌, ℕ, ◌+◌, ◌^◌, ◌<◌, ◌≤◌, List, [], ◌∷◌, ◌++◌, length, Bool, true, false, cond, refl, sym, ◌∙◌, ap, subst, arith, length-append}
use Rattle.std.specs.Prelude.{◌==◌, Option, Some, None}
use Rattle.std.proofs.lemmas.Bool.{eqb-true}
use Rattle.std.specs.List.{AllByRecursion}
use Rattle.vx_annexb.specs.ByteStream.{IsSound}
use Rattle.vx_aps.specs.declared.aps.Aps.{Aps}
use Rattle.vx_sei.specs.declared.message.Message.{Message}
use Rattle.vx_sei.specs.Sei.{spelled_length}
use Rattle.vx_pic.specs.declared.kind.Kind.{Kind}
use Rattle.vx_pic.specs.declared.picture.SliceSlot.{SliceSlot}
use Rattle.vx_pic.specs.Sets.{SliceHeader, address_of}
use Rattle.vx_pic.specs.Readings.{Begun}
use Rattle.vx_pic.specs.Rules.{picture_limit, message_limit}
use Rattle.vx_pic.specs.Parts.{IsReadAt, slice_header_of}
use Rattle.vx_assemble.specs.declared.readers.ReadSlice.{ReadSlice}
use Rattle.vx_assemble.specs.declared.state.BegunPicture.{BegunPicture}
use Rattle.vx_assemble.specs.declared.state.CurrentPicture.{CurrentPicture}
use Rattle.vx_assemble.specs.declared.state.GoingPicture.{GoingPicture}
use Rattle.vx_assemble.specs.declared.state.Stage.{Stage}
use Rattle.vx_assemble.specs.declared.state.Stage.TheVariants as stages
use Rattle.vx_assemble.specs.declared.state.State.{State}
use Rattle.vx_assemble.specs.inner.Held.{begun_of, header_at, kind_at, slice_of}
use Rattle.vx_assemble.specs.inner.Order.{AreUnder, begun_sps, IsHeader, IsOfUnit, IsSlot, AreSlots, AreRead, AreBodies, IsOrdered, KnowsSps, IsInOrder, AreAll, IsComplete}
use Rattle.vx_assemble.specs.inner.Takes.{at_begun, header_read_as}
use Rattle.vx_assemble.specs.declared.slices.Opened.{Opened}
use Rattle.vx_assemble.specs.declared.slices.Whole.{Whole}
use Rattle.vx_pic.specs.declared.accepted.Accepted.TheVariants as accepted
use Rattle.vx_assemble.specs.inner.Slices.{HasJoined, HasJoinedFirst, IsSettled, whole_of}
use Rattle.vx_assemble.proofs.Steps.{same_some}
use Rattle.vx_assemble.specs.inner.Joining.{IsJoined}
use Rattle.vx_assemble.specs.inner.Changes.{with_header, first_comes, with_kind, with_bytes, slot_behind, with_slice, with_begun_picture, came_all}

-- ---- more bytes

slot_grows : (b : BegunPicture) (bytes more : List ℕ) (sets : List (Option Aps)) (slot : SliceSlot) → IsSlot b bytes sets slot
    → IsSlot b (bytes ++ more) sets slot
slot_grows b bytes more sets slot s = record {
  placed = record {
    start = s.placed.start;
    payload = s.placed.payload;
    end = let fits : slot.end ≤ length bytes = s.placed.end in omega (arith, length-append bytes more);
  };
  subpic = s.subpic;
  bodies = s.bodies;
  qp = s.qp;
  header = s.header;
}

all_grow : (b : BegunPicture) (bytes more : List ℕ) (sets : List (Option Aps)) (slots : List SliceSlot)
    → AllByRecursion (IsSlot b bytes sets) slots → AllByRecursion (IsSlot b (bytes ++ more) sets) slots
all_grow b bytes more sets [] all = tt
all_grow b bytes more sets (slot ∷ slots) all = (slot_grows b bytes more sets slot all.0, all_grow b bytes more sets slots all.1)

slots_grow : (o : Option BegunPicture) (bytes more : List ℕ) (sets : List (Option Aps)) (slots : List SliceSlot)
    → AreSlots o bytes sets slots → AreSlots o (bytes ++ more) sets slots
slots_grow None bytes more sets slots are = tt
slots_grow (Some b) bytes more sets slots are = (are.0, all_grow b bytes more sets slots are.1)

pub bytes_ordered : (u : List ℕ) (c : CurrentPicture) → IsOrdered c → length c.bytes + length u ≤ picture_limit → IsOrdered (with_bytes u c)
bytes_ordered u c o fits = record {
  kind = o.kind;
  bytes = rw (length-append c.bytes u) fits;
  header = let end : c.header_end ≤ length c.bytes = o.header in omega (arith, length-append c.bytes u);
  slots = slots_grow (header_at c.stage) c.bytes u c.bodies c.slices o.slots;
  read = o.read;
  messages = o.messages;
  bodies = o.bodies;
}

-- ---- one slice more

all_push : (P : SliceSlot → Type 0) (slots : List SliceSlot) (slot : SliceSlot) → AllByRecursion P slots → P slot → AllByRecursion P (slots ++ slot ∷ [])
all_push P [] slot all here = (here, tt)
all_push P (x ∷ slots) slot all here = (all.0, all_push P slots slot all.1 here)

same_header : (b : Begun) (g h : SliceHeader) → g.fields ≡ h.fields → g.subpic ≡ h.subpic → slice_header_of b g ≡ slice_header_of b h
unfolding address_of
same_header b g h fields subpic = rw (fields, subpic) refl

joined_slot : (b : BegunPicture) (t : ℕ) (bytes u : List ℕ) (sets : List (Option Aps)) (r : ReadSlice) → IsJoined b t sets (length u) r
    → IsSlot b (bytes ++ u) sets (slot_behind (length bytes) u r)
joined_slot b t bytes u sets r j = record {
  placed = record {
    start = omega arith;
    payload = let less : r.payload < length u = j.payload in omega arith;
    end = rw (length-append bytes u) (omega arith);
  };
  subpic = j.subpic;
  bodies = j.bodies;
  qp = j.qp;
  header = j.header ∙ same_header (begun_of b None) (header_read_as r) (slice_of (bytes ++ u) (slot_behind (length bytes) u r)).header refl refl;
}

pub slice_ordered : (u : List ℕ) (r : ReadSlice) (c : CurrentPicture) → IsOrdered c → length c.bytes + length u ≤ picture_limit
    → HasJoined c (length u) r → IsOrdered (with_slice u r c)
slice_ordered u r c o fits has =
    let grown = bytes_ordered u c o fits in
    let slot = slot_behind (length c.bytes) u r in
    let g = has.going in
    let slots : AreSlots (Some g.begun) (c.bytes ++ u) c.bodies c.slices =
    subst (λ s. AreSlots (header_at s) (c.bytes ++ u) c.bodies c.slices) has.is grown.slots in
    let read : AllByRecursion (λ s. IsReadAt (at_begun g.kind.nal_type g.begun) s.header) c.slices = subst (λ s. AreRead s c.slices) has.is o.read in
    record {
      kind = o.kind;
      bytes = grown.bytes;
      header = grown.header;
      slots = subst (λ s. AreSlots (header_at s) (c.bytes ++ u) c.bodies (c.slices ++ slot ∷ [])) (sym has.is)
          (slots.0, all_push (IsSlot g.begun (c.bytes ++ u) c.bodies) c.slices slot slots.1 (joined_slot g.begun g.kind.nal_type c.bytes u c.bodies r has.joined));
      read = subst (λ s. AreRead s (c.slices ++ slot ∷ [])) (sym has.is)
          (all_push (λ s. IsReadAt (at_begun g.kind.nal_type g.begun) s.header) c.slices slot read has.joined.read);
      messages = o.messages;
      bodies = o.bodies;
    }

-- ---- pictures

pub header_ordered : (b : BegunPicture) (u : List ℕ) (c : CurrentPicture) → IsOrdered c → IsHeader b → length u ≤ picture_limit
    → IsOrdered (with_header b u c)
header_ordered b u c o is fits = record { kind = tt; bytes = fits; header = omega arith; slots = (is, tt); read = tt; messages = o.messages; bodies = o.bodies }

no_slots : (k : Kind) (s : Stage) (bytes : List ℕ) (sets others : List (Option Aps)) (slots : List SliceSlot) → AreSlots (header_at s) bytes sets slots
    → AreSlots (header_at (first_comes k s)) bytes others []
no_slots k stages.Nothing bytes sets others slots are = tt
no_slots k (stages.Headed b) bytes sets others slots are = (are.0, tt)
no_slots k (stages.Going g) bytes sets others slots are = (are.0, tt)

none_read : (s : Stage) → AreRead s []
none_read stages.Nothing = tt
none_read (stages.Headed b) = tt
none_read (stages.Going g) = tt

kind_comes : (k : Kind) (s : Stage) → IsOfUnit (Some k) → IsOfUnit (kind_at s) → IsOfUnit (kind_at (first_comes k s))
kind_comes k stages.Nothing of old = tt
kind_comes k (stages.Headed b) of old = of
kind_comes k (stages.Going g) of old = old

pub kind_ordered : (k : Kind) (sets : List (Option Aps)) (m : List Message) (c : CurrentPicture) → IsOrdered c
    → IsOfUnit (Some k) → spelled_length m ≤ message_limit → AreBodies sets → IsOrdered (with_kind k sets m c)
kind_ordered k sets m c o of few are = record {
  kind = kind_comes k c.stage of o.kind;
  bytes = o.bytes;
  header = o.header;
  slots = no_slots k c.stage c.bytes c.bodies sets c.slices o.slots;
  read = none_read (first_comes k c.stage);
  messages = few;
  bodies = are;
}

pub begun_ordered : (c : CurrentPicture) (s : State) → IsInOrder s → IsOrdered c → begun_sps s.picture.stage ≡ begun_sps c.stage
    → IsInOrder (with_begun_picture c s)
begun_ordered c s o is same = record {
  sps = o.sps;
  pps = o.pps;
  aps = o.aps;
  made = o.made;
  under = subst (λ x. AreUnder x s.made) same o.under;
  known = λ t. o.known t ∙ same;
  picture = is;
  spelled = refl;
  gathered = omega arith;
}

-- the header stays at the first slice
pub first_begun : (k : Kind) (t : Stage) → begun_sps t ≡ begun_sps (first_comes k t)
first_begun k stages.Nothing = refl
first_begun k (stages.Headed b) = refl
first_begun k (stages.Going g) = refl

-- ---- whole pictures

came_by : {A : Type 0} (t : Bool) (w v : A) → cond t (Some w) None ≡ Some v → (t ≡ true) × (w ≡ v)
came_by true w v is = (refl, same_some w v is)
came_by false w v is = absurd (let e : None ≡ Some v = is in cc)

count_is : (b : BegunPicture) (slots : List SliceSlot) (bytes : List ℕ) (sets : List (Option Aps)) → AreSlots (Some b) bytes sets slots
    → (length slots == b.sets.slices) ≡ true → length slots ≡ length b.sets.layout.slices
count_is b slots bytes sets are is = eqb-true (length slots) b.sets.slices is ∙ are.0.sets.slices

all_came : (t : Stage) (s : State) (w : Whole) → AreSlots (header_at t) s.picture.bytes s.picture.bodies s.picture.slices → whole_of t s ≡ Some w
    → 0 < length s.picture.slices → AreAll t s.picture.slices
all_came stages.Nothing s w are whole some = absurd (let e : None ≡ Some w = whole in cc)
all_came (stages.Headed b) s w are whole some = absurd (let e : None ≡ Some w = whole in cc)
all_came (stages.Going g) s w are whole some =
    (some, count_is g.begun s.picture.slices s.picture.bytes s.picture.bodies are (came_by (came_all g.begun s.picture) _ w whole).0)

pub complete_is : (s : State) (w : Whole) → IsOrdered s.picture → whole_of s.picture.stage s ≡ Some w → 0 < length s.picture.slices
    → IsComplete s.picture
complete_is s w o whole some = record { slices = all_came s.picture.stage s w o.slots whole some }

-- what is told then, and kept
pub settles_whole : (s new : State) (w : Whole) → whole_of s.picture.stage s ≡ Some w → new ≡ record s { last = Some w.sets; unchanged = true; previous = w.previous }
    → IsSettled s new accepted.PictureDone
settles_whole s new w whole is = record {
  new_is = λ g going. let t = came_by (came_all g.begun s.picture) _ w (sym (ap (λ x. whole_of x s) going) ∙ whole) in
      is ∙ rw (t.0, ← t.1) refl;
  told = λ g going. let t = came_by (came_all g.begun s.picture) _ w (sym (ap (λ x. whole_of x s) going) ∙ whole) in rw t.0 refl;
}

whole_sps : (t : Stage) (s : State) (w : Whole) → whole_of t s ≡ Some w → Some w.sets.sps ≡ begun_sps t
whole_sps stages.Nothing s w whole = absurd (let e : None ≡ Some w = whole in cc)
whole_sps (stages.Headed b) s w whole = absurd (let e : None ≡ Some w = whole in cc)
whole_sps (stages.Going g) s w whole = ap (λ x. Some x.sets.sps) (sym (came_by (came_all g.begun s.picture) _ w whole).1)

pub whole_ordered : (s : State) (w : Whole) → IsInOrder s → whole_of s.picture.stage s ≡ Some w
    → IsInOrder (record s { last = Some w.sets; unchanged = true; previous = w.previous })
whole_ordered s w o whole = record {
  sps = o.sps;
  pps = o.pps;
  aps = o.aps;
  made = o.made;
  under = o.under;
  known = λ t. whole_sps s.picture.stage s w whole;
  picture = o.picture;
  spelled = o.spelled;
  gathered = o.gathered;
}

not_by : {A : Type 0} (t : Bool) (w : A) → cond t (Some w) None ≡ None → t ≡ false
not_by true w is = absurd (let e : Some w ≡ None = is in cc)
not_by false w is = refl

pub settles_open : (s : State) → whole_of s.picture.stage s ≡ None → IsSettled s s accepted.Nothing
settles_open s whole = record {
  new_is = λ g going. let t = not_by (came_all g.begun s.picture) _ (sym (ap (λ x. whole_of x s) going) ∙ whole) in rw t refl;
  told = λ g going. let t = not_by (came_all g.begun s.picture) _ (sym (ap (λ x. whole_of x s) going) ∙ whole) in rw t refl;
}

-- a unit is no longer than a picture may be
pub unit_short : (u : List ℕ) → IsSound u → length u ≤ picture_limit
unfolding picture_limit
unit_short u sound = let short : length u ≤ 2 ^ 23 = sound.size in omega arith

-- what joined behind what a picture begins with
pub joined_first : (c d : CurrentPicture) (o : Opened) (m : List Message) (size : ℕ) → HasJoinedFirst c size o → d ≡ with_kind o.kind o.bodies m c
    → HasJoined d size o.read
joined_first c d o m size has is =
    rw is record { going = record { begun = has.begun; kind = o.kind }; is = ap (first_comes o.kind) has.is; joined = has.joined }

-- and behind a slice
pub joined_further : (c : CurrentPicture) (g : GoingPicture) (r : ReadSlice) (size : ℕ) → c.stage ≡ stages.Going g
    → IsJoined g.begun g.kind.nal_type c.bodies size r → HasJoined c size r
joined_further c g r size is joined = record { going = g; is = is; joined = joined }

-- its SPS is the last whole picture's, where that is known
pub headed_known : (s : State) (b : BegunPicture) → IsInOrder s → s.picture.stage ≡ stages.Headed b → KnowsSps s (Some b.sets.sps)
headed_known s b o is = λ t. o.known t ∙ ap begun_sps is

pub joined_headed : (c : CurrentPicture) (b : BegunPicture) (o : Opened) (size : ℕ) → c.stage ≡ stages.Headed b
    → IsJoined b o.kind.nal_type o.bodies size o.read → HasJoinedFirst c size o
joined_headed c b o size is joined = record { begun = b; is = is; joined = joined }

-- a slice came
pub some_slot : {A : Type 0} (slots : List A) (slot : A) → 0 < length (slots ++ slot ∷ [])
some_slot slots slot = omega (arith, length-append slots (slot ∷ []))
