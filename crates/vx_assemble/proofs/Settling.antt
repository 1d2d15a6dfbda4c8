-- What is kept behind a slice.
use Rattle.std.proofs.Common.{◌≡◌, ℕ, ◌+◌, ◌<◌, ◌≤◌, List, [], ◌∷◌, ◌++◌, length, map, Bool, true, false, cond, refl, sym, ◌∙◌, ap, subst, arith, take, drop, length-append, ◌-◌}
use Rattle.std.specs.Prelude.{◌==◌, Option, Some, None, option_map, sum_by}
use Rattle.std.specs.List.{AllByRecursion, slice_index_or, slice_range}
use Rattle.std.proofs.Math.Seq.{drop-append_seam}
use Rattle.std.proofs.lemmas.List.{map-append, take-append-le, drop-append-le, length-drop, take_all}
use Rattle.std.proofs.lemmas.List.Sums.{sum_by-cons, sum_by_push}
use Rattle.vx_aps.specs.declared.aps.Aps.{Aps}
use Rattle.vx_pic.specs.declared.accepted.Accepted.TheVariants as accepted
use Rattle.vx_pic.specs.declared.kind.Kind.{Kind}
use Rattle.vx_pic.specs.Counted.{previous_of}
use Rattle.vx_pic.specs.Counts.{is_tid0, is_tid0_picture, previous}
use Rattle.vx_pic.specs.declared.count.PrevTid0.{PrevTid0}
use Rattle.vx_pic.specs.declared.picture.SliceSlot.{SliceSlot}
use Rattle.vx_pic.specs.Sets.{lsb_of}
use Rattle.vx_pic.specs.Rules.{unit_size}
use Rattle.vx_pic.specs.Parts.{stored_sets, header_unit_in, IsPlaced}
use Rattle.vx_pic.specs.Readings.{Begun, Reading, first_slice, next_slice, stored_sps, stored_pps, is_ended, gathered, Picture, is_whole}
use Rattle.vx_pic.specs.Readings.{going, with_slice as with_one, current, picture_if_whole, pictures}
use Rattle.vx_pic.specs.Told.{done_or_not}
use Rattle.vx_assemble.specs.declared.state.BegunPicture.{BegunPicture}
use Rattle.vx_assemble.specs.declared.state.Stage.{Stage}
use Rattle.vx_assemble.specs.declared.state.Stage.TheVariants as stages
use Rattle.vx_assemble.specs.declared.state.State.{State}
use Rattle.vx_assemble.specs.declared.readers.ReadSlice.{ReadSlice}
use Rattle.vx_assemble.specs.declared.slices.Opened.{Opened}
use Rattle.vx_assemble.specs.inner.Order.{IsSlot, AreSlots, IsOrdered}
use Rattle.vx_assemble.specs.inner.Held.{begun_of, header_at, kind_at, slice_of, IsHeaded, IsGoing, Keeps, last_held, last_sps, IsApart, IsHeld, AreItems}
use Rattle.vx_assemble.specs.inner.Takes.{slice_read_as}
use Rattle.vx_assemble.specs.inner.Changes.{counts_behind, slot_behind, first_comes, with_slice, with_begun_picture, came_all, settled}
use Rattle.vx_assemble.specs.inner.Slices.{told_settled, with_first}

-- what is kept behind a slice, before it is settled: the pictures are these, and the one that goes on where it is whole
pub record IsUnsettled (s : State) (before : List Reading) (p : Picture) (earlier : List Picture) : Type 0 where
  pub sps : (id : ℕ) → slice_index_or s.sps id None ≡ stored_sps id before
  pub pps : (id : ℕ) → slice_index_or s.pps id None ≡ stored_pps id before
  pub aps : s.aps ≡ stored_sets before
  pub messages : s.gathered ≡ gathered before
  pub last : last_held s ≡ last_sps earlier
  pub counts : previous_of s.previous ≡ previous earlier
  pub ended : s.ended ≡ is_ended before
  pub goes : IsGoing s.picture p
  pub now : current before ≡ going p
  pub done : pictures before ≡ picture_if_whole (going p) ++ earlier
  pub items : AreItems s.fields before

-- ---- whole pictures

counts_by : (b : BegunPicture) (k : Kind) (old : PrevTid0) (p : Picture) (earlier : List Picture) (t : Bool) → begun_of b p.begun.unit ≡ p.begun → k ≡ p.kind
    → previous_of old ≡ previous earlier → is_tid0 (begun_of b None) k ≡ t → previous_of (counts_behind b k old) ≡ previous (p ∷ earlier)
counts_by b k old p earlier true begun kind before is =
    let same : is_tid0_picture p ≡ true = sym (ap (λ x. is_tid0 x k) begun ∙ ap (λ x. is_tid0 p.begun x) kind) ∙ is in
    let lsb : lsb_of b.header.fields ≡ lsb_of p.begun.header = ap (λ x. lsb_of x.header) begun in
    rw (is, same, lsb, kind) refl
counts_by b k old p earlier false begun kind before is =
    let same : is_tid0_picture p ≡ false = sym (ap (λ x. is_tid0 x k) begun ∙ ap (λ x. is_tid0 p.begun x) kind) ∙ is in
    rw (is, same) before

settled_by : (s : State) (before : List Reading) (p : Picture) (earlier : List Picture) (b : BegunPicture) (k : Kind) (w : Bool)
    → IsUnsettled s before p earlier → begun_of b p.begun.unit ≡ p.begun → k ≡ p.kind → came_all b s.picture ≡ w → is_whole p ≡ w
    → IsHeld (settled b k s) before
settled_by s before p earlier b k true u begun kind came whole =
    let done : pictures before ≡ p ∷ earlier = u.done ∙ rw whole refl in
    rw came record {
      apart = record {
        sps = u.sps;
        pps = u.pps;
        aps = u.aps;
        gathered = u.messages;
        last = ap (λ x. Some x.sps) begun ∙ sym (ap (λ ps. last_sps ps) done);
        previous = counts_by b k s.previous p earlier (is_tid0 (begun_of b None) k) begun kind u.counts refl ∙ sym (ap (λ ps. previous ps) done);
        ended = u.ended;
      };
      picture = rw u.now u.goes;
      items = u.items;
    }
settled_by s before p earlier b k false u begun kind came whole =
    let done : pictures before ≡ earlier = u.done ∙ rw whole refl in
    rw came record {
      apart = record {
        sps = u.sps;
        pps = u.pps;
        aps = u.aps;
        gathered = u.messages;
        last = u.last ∙ sym (ap (λ ps. last_sps ps) done);
        previous = u.counts ∙ sym (ap (λ ps. previous ps) done);
        ended = u.ended;
      };
      picture = rw u.now u.goes;
      items = u.items;
    }

pub settled_held : (s : State) (before : List Reading) (p : Picture) (earlier : List Picture) (b : BegunPicture) (k : Kind)
    → IsUnsettled s before p earlier → begun_of b p.begun.unit ≡ p.begun → k ≡ p.kind → came_all b s.picture ≡ is_whole p
    → IsHeld (settled b k s) before
settled_held s before p earlier b k u begun kind came =
    settled_by s before p earlier b k (is_whole p) u begun kind came refl

pub settled_told : (s : State) (before : List Reading) (p : Picture) (b : BegunPicture) → current before ≡ going p → came_all b s.picture ≡ is_whole p
    → told_settled b s.picture ≡ done_or_not (current before)
settled_told s before p b now came =
    ap (λ w. cond w accepted.PictureDone accepted.Nothing) came ∙ ap (λ c. done_or_not c) (sym now)

-- ---- bytes

-- the PH unit stays
unit_stays : (bytes more : List ℕ) (end : ℕ) → end ≤ length bytes → header_unit_in (bytes ++ more) end ≡ header_unit_in bytes end
unit_stays bytes more end within = ap (λ l. cond (end == 0) None (Some l)) (take-append-le end bytes more within)

-- the slices that are there stay
slice_stays : (bytes more : List ℕ) (slot : SliceSlot) → IsPlaced bytes slot → slice_of (bytes ++ more) slot ≡ slice_of bytes slot
slice_stays bytes more slot placed =
    let order : slot.start ≤ slot.payload = placed.start in
    let some : slot.payload < slot.end = placed.payload in
    let within : slot.end ≤ length bytes = placed.end in
    let unit : slice_range (bytes ++ more) slot.start slot.end ≡ slice_range bytes slot.start slot.end =
    ap (λ l. take (slot.end - slot.start) l) (drop-append-le slot.start bytes more (omega arith))
    ∙ take-append-le (slot.end - slot.start) (drop slot.start bytes) more (rw (length-drop slot.start bytes) (omega arith)) in
    rw unit refl

slices_stay : (b : BegunPicture) (bytes more : List ℕ) (sets : List (Option Aps)) (slots : List SliceSlot) → AllByRecursion (IsSlot b bytes sets) slots
    → map (slice_of (bytes ++ more)) slots ≡ map (slice_of bytes) slots
slices_stay b bytes more sets [] all = refl
slices_stay b bytes more sets (slot ∷ slots) all =
    rw (slice_stays bytes more slot all.0.placed, slices_stay b bytes more sets slots all.1) refl

-- the unit that is put behind them
slice_put : (bytes u : List ℕ) (r : ReadSlice) → slice_of (bytes ++ u) (slot_behind (length bytes) u r) ≡ slice_read_as u r
slice_put bytes u r =
    let size : (length bytes + length u) - length bytes ≡ length u = omega arith in
    let payload : (length bytes + r.payload) - length bytes ≡ r.payload = omega arith in
    let unit : slice_range (bytes ++ u) (length bytes) (length bytes + length u) ≡ u =
    ap (λ l. take ((length bytes + length u) - length bytes) l) (drop-append_seam bytes u)
    ∙ ap (λ n. take n u) size ∙ take_all (length u) u (omega arith) in
    rw (unit, payload) refl

-- ---- the first slice

header_stays : (k : Kind) (s : Stage) → header_at (first_comes k s) ≡ header_at s
header_stays k stages.Nothing = refl
header_stays k (stages.Headed b) = refl
header_stays k (stages.Going g) = refl

first_kind : (k : Kind) (s : Stage) (b : Begun) (x : Option (List ℕ)) → kind_at s ≡ None → option_map (λ h. begun_of h x) (header_at s) ≡ Some b
    → kind_at (first_comes k s) ≡ Some k
first_kind k stages.Nothing b x none some = absurd (let e : None ≡ Some b = some in cc)
first_kind k (stages.Headed h) b x none some = refl
first_kind k (stages.Going g) b x none some = absurd (let e : Some g.kind ≡ None = none in cc)

pub first_unsettled : (s : State) (before : List Reading) (b : Begun) (u : List ℕ) (o : Opened) → IsApart s before → IsHeaded s.picture b
    → IsOrdered s.picture → o.bodies ≡ s.aps
    → IsUnsettled (with_first u o s) (first_slice b o.kind (slice_read_as u o.read) ∷ before)
    (record { begun = b; kind = o.kind; before = before; slices = slice_read_as u o.read ∷ [] }) (pictures before)
first_unsettled s before b u o held head order bodies =
    let c = s.picture in
    let slices : slice_of (c.bytes ++ u) (slot_behind (length c.bytes) u o.read) ∷ [] ≡ slice_read_as u o.read ∷ [] =
    ap (λ x. x ∷ []) (slice_put c.bytes u o.read) in
    let size : length (c.bytes ++ u) ≡ unit_size b.unit + sum_by (λ x. length x.unit) (slice_read_as u o.read ∷ []) =
    let sum = sum_by-cons (λ x. length x.unit) (slice_read_as u o.read) [] in
    length-append c.bytes u ∙ ap (λ n. n + length u) head.size ∙ ap (λ n. unit_size b.unit + n) (sym (sum ∙ omega arith)) in
    record {
      sps = held.sps;
      pps = held.pps;
      aps = held.aps;
      messages = refl;
      last = held.last;
      counts = held.previous;
      ended = refl;
      goes = record {
        begun =
            ap (option_map (λ k. begun_of k (header_unit_in (c.bytes ++ u) c.header_end))) (header_stays o.kind c.stage)
            ∙ ap (λ x. option_map (λ k. begun_of k x) (header_at c.stage)) (unit_stays c.bytes u c.header_end order.header) ∙ head.begun;
        kind = first_kind o.kind c.stage b (header_unit_in c.bytes c.header_end) head.kind head.begun;
        slices = slices;
        size = size;
        bodies = bodies ∙ held.aps;
        messages = held.gathered;
      };
      now = refl;
      done = refl;
      items = tt;
    }

-- ---- a further slice

all_slots : (o : Option BegunPicture) (b : BegunPicture) (bytes : List ℕ) (sets : List (Option Aps)) (slots : List SliceSlot) → o ≡ Some b
    → AreSlots o bytes sets slots → AllByRecursion (IsSlot b bytes sets) slots
all_slots o b bytes sets slots is are = let s : AreSlots (Some b) bytes sets slots = subst (λ x. AreSlots x bytes sets slots) is are in s.1

pub further_unsettled : (s : State) (before : List Reading) (p : Picture) (k : BegunPicture) (u : List ℕ) (r : ReadSlice) → IsHeld s before
    → current before ≡ going p → is_whole p ≡ false → IsOrdered s.picture → header_at s.picture.stage ≡ Some k
    → IsUnsettled (with_begun_picture (with_slice u r s.picture) s) (next_slice (slice_read_as u r) ∷ before)
    (record p { slices = p.slices ++ slice_read_as u r ∷ [] }) (pictures before)
further_unsettled s before p k u r held is whole order begun =
    let c = s.picture in
    let x = slice_read_as u r in
    let goes : IsGoing c p = subst (λ q. Keeps c q) is held.picture in
    let slices : map (slice_of (c.bytes ++ u)) (c.slices ++ slot_behind (length c.bytes) u r ∷ []) ≡ p.slices ++ x ∷ [] =
    map-append (slice_of (c.bytes ++ u)) c.slices (slot_behind (length c.bytes) u r ∷ [])
    ∙ rw (slices_stay k c.bytes u c.bodies c.slices (all_slots (header_at c.stage) k c.bytes c.bodies c.slices begun order.slots), slice_put c.bytes u r, goes.slices) refl in
    let size : length (c.bytes ++ u) ≡ unit_size p.begun.unit + sum_by (λ y. length y.unit) (p.slices ++ x ∷ []) =
    let sum = sum_by_push (λ y. length y.unit) p.slices x in
    let old : length c.bytes ≡ unit_size p.begun.unit + sum_by (λ y. length y.unit) p.slices = goes.size in
    omega (arith, length-append c.bytes u, sum, old) in
    let now : current (next_slice x ∷ before) ≡ going (record p { slices = p.slices ++ x ∷ [] }) = ap (λ q. with_one x q) is in
    record {
      sps = held.apart.sps;
      pps = held.apart.pps;
      aps = held.apart.aps;
      messages = refl;
      last = held.apart.last;
      counts = held.apart.previous;
      ended = refl;
      goes = record {
        begun = ap (λ y. option_map (λ z. begun_of z y) (header_at c.stage)) (unit_stays c.bytes u c.header_end order.header) ∙ goes.begun;
        kind = goes.kind;
        slices = slices;
        size = size;
        bodies = goes.bodies;
        messages = goes.messages;
      };
      now = now;
      done = ap (λ q. picture_if_whole q ++ pictures before) now;
      items = tt;
    }
