-- The picture that is lent is the latest one.
use Rattle.std.proofs.Common.{◌≡◌, ℕ, ◌<◌, List, [], ◌∷◌, length, map, Bool, true, false, cond, refl, sym, ◌∙◌, ap, subst}
use Rattle.std.specs.Prelude.{Option, Some, None}
use Rattle.std.specs.List.{AllByRecursion}
use Rattle.vx_aps.specs.declared.aps.Aps.{Aps}
use Rattle.vx_pic.specs.declared.accepted.Accepted.TheVariants as accepted
use Rattle.vx_pic.specs.declared.picture.PictureParts.{PictureParts}
use Rattle.vx_pic.specs.declared.picture.SliceSlot.{SliceSlot}
use Rattle.vx_pic.specs.Sets.{SliceHeader, is_qp, slice_qp}
use Rattle.vx_pic.specs.PictureLayout.{ids_of}
use Rattle.vx_pic.specs.UnderSets.{picture_header_of}
use Rattle.vx_pic.specs.Parts.{MakePicture, IsPlaced, IsReadAt, AreThere, aps_named_by, read_of, header_unit_in, slice_in, slice_header_of, slice_part, ShowsPicture}
use Rattle.vx_pic.specs.Told.{done_or_not}
use Rattle.vx_pic.specs.Sets.{sps_id, pps_id}
use Rattle.vx_pic.specs.Readings.{Picture, Reading, dropped, vps_read, sps_read, pps_read, aps_read, messages_read, header_read}
use Rattle.vx_pic.specs.Readings.{first_slice, next_slice, sequence_ended, is_slice, Current, nothing, headed, going, current, is_whole, pictures}
use Rattle.vx_assemble.specs.Held.{Held, last_told, Stands, HasPicture, ShowsLatest}
use Rattle.vx_assemble.specs.declared.state.BegunPicture.{BegunPicture}
use Rattle.vx_assemble.specs.declared.state.CurrentPicture.{CurrentPicture}
use Rattle.vx_assemble.specs.declared.state.GoingPicture.{GoingPicture}
use Rattle.vx_assemble.specs.declared.state.Stage.{Stage}
use Rattle.vx_assemble.specs.declared.state.Stage.TheVariants as stages
use Rattle.vx_assemble.specs.inner.Held.{begun_of, header_at, kind_at, slice_of, IsGoing, Keeps}
use Rattle.vx_assemble.specs.inner.Order.{IsOfUnit, IsSlot, AreSlots, AreRead, IsOrdered, AreAll, IsComplete}
use Rattle.vx_assemble.specs.inner.Takes.{at_begun}
use Rattle.vx_assemble.specs.inner.Lent.{parts_by, parts_in}
use Rattle.vx_assemble.proofs.Steps.{same_some}
use Rattle.vx_assemble.proofs.KeptPicture.{begun_is, header_is, no_begun}

-- ---- slices

same_under : (k : BegunPicture) (x : Option (List ℕ)) (h : SliceHeader) → slice_header_of (begun_of k None) h ≡ slice_header_of (begun_of k x) h
same_under k x h = refl

slice_shown : (k : BegunPicture) (x : Option (List ℕ)) (bytes : List ℕ) (sets : List (Option Aps)) (slot : SliceSlot) → IsSlot k bytes sets slot
    → slice_in bytes slot ≡ slice_part (begun_of k x) (slice_of bytes slot)
slice_shown k x bytes sets slot s = rw s.header refl

slices_shown : (k : BegunPicture) (x : Option (List ℕ)) (bytes : List ℕ) (sets : List (Option Aps)) (slots : List SliceSlot)
    → AllByRecursion (IsSlot k bytes sets) slots → map (slice_in bytes) slots ≡ map (slice_part (begun_of k x)) (map (slice_of bytes) slots)
slices_shown k x bytes sets [] all = refl
slices_shown k x bytes sets (slot ∷ slots) all =
    ap (λ y. y ∷ map (slice_in bytes) slots) (slice_shown k x bytes sets slot all.0)
    ∙ ap (λ l. slice_part (begun_of k x) (slice_of bytes slot) ∷ l) (slices_shown k x bytes sets slots all.1)

pub slots_of : (c : CurrentPicture) (k : BegunPicture) → header_at c.stage ≡ Some k → IsOrdered c → AllByRecursion (IsSlot k c.bytes c.bodies) c.slices
slots_of c k is o = let slots : AreSlots (Some k) c.bytes c.bodies c.slices = subst (λ x. AreSlots x c.bytes c.bodies c.slices) is o.slots in slots.1

-- ---- what is asked of parts

pub each_placed : (k : BegunPicture) (bytes : List ℕ) (sets : List (Option Aps)) (slots : List SliceSlot) → AllByRecursion (IsSlot k bytes sets) slots
    → AllByRecursion (IsPlaced bytes) slots
each_placed k bytes sets [] all = tt
each_placed k bytes sets (slot ∷ slots) all = (all.0.placed, each_placed k bytes sets slots all.1)

pub each_subpic : (k : BegunPicture) (bytes : List ℕ) (sets : List (Option Aps)) (slots : List SliceSlot) → AllByRecursion (IsSlot k bytes sets) slots
    → AllByRecursion (λ s. s.header.subpic < length k.sets.layout.subpics) slots
each_subpic k bytes sets [] all = tt
each_subpic k bytes sets (slot ∷ slots) all = (all.0.subpic, each_subpic k bytes sets slots all.1)

pub each_there : (k : BegunPicture) (bytes : List ℕ) (sets : List (Option Aps)) (slots : List SliceSlot) → AllByRecursion (IsSlot k bytes sets) slots
    → AllByRecursion (λ s. AreThere sets (aps_named_by k.sets.pps k.header.fields s.header)) slots
each_there k bytes sets [] all = tt
each_there k bytes sets (slot ∷ slots) all = (all.0.bodies, each_there k bytes sets slots all.1)

pub each_qp : (k : BegunPicture) (bytes : List ℕ) (sets : List (Option Aps)) (slots : List SliceSlot) → AllByRecursion (IsSlot k bytes sets) slots
    → AllByRecursion (λ s. is_qp k.sets.sps (slice_qp k.sets.pps k.header.fields (read_of s.header)) ≡ true) slots
each_qp k bytes sets [] all = tt
each_qp k bytes sets (slot ∷ slots) all = (all.0.qp, each_qp k bytes sets slots all.1)

pub each_read : (c : CurrentPicture) (g : GoingPicture) → c.stage ≡ stages.Going g → IsOrdered c
    → AllByRecursion (λ s. IsReadAt (at_begun g.kind.nal_type g.begun) s.header) c.slices
each_read c g is o = subst (λ x. AreRead x c.slices) is o.read

-- the parts of an ordered picture, all of whose slices came, make up a picture
pub makes_picture : (p : PictureParts) (c : CurrentPicture) (g : GoingPicture) → IsOrdered c → IsComplete c → c.stage ≡ stages.Going g
    → p.kind ≡ g.kind → p.sps.now ≡ g.begun.sets.sps → p.pps.now ≡ g.begun.sets.pps → p.layout.now ≡ g.begun.sets.layout
    → p.header.now ≡ g.begun.header → p.ids.now ≡ g.begun.sets.ids
    → p.bytes.now ≡ c.bytes → p.header_end ≡ c.header_end → p.slices.now ≡ c.slices → p.bodies.now ≡ c.bodies → MakePicture p
makes_picture p c g order complete stage of_kind sps pps layout header ids bytes end slices bodies =
    let b = g.begun in
    let begun : header_at c.stage ≡ Some b = ap header_at stage in
    let slots = slots_of c b begun order in
    let head = header_is c b begun order in
    let of : IsOfUnit (Some g.kind) = subst (λ x. IsOfUnit (kind_at x)) stage order.kind in
    let all : (0 < length c.slices) × (length c.slices ≡ length b.sets.layout.slices) = subst (λ x. AreAll x c.slices) stage complete.slices in
    record {
      type = rw of_kind of.0;
      tid = rw of_kind of.1;
      some = rw slices all.0;
      whole = rw (slices, layout) all.1;
      few = rw (slices, all.1) head.sets.few;
      header = rw (end, bytes) order.header;
      places = rw (slices, bytes) (each_placed b c.bytes c.bodies c.slices slots);
      size = rw (sps, pps) head.sets.size;
      sets = rw (sps, pps) head.sets.make;
      layout = rw (layout, sps, pps) head.sets.layout;
      ids = rw (ids, sps, pps) head.sets.ids;
      one_each = rw (ids, layout) head.sets.one_each;
      read = rw (sps, pps, header) head.read;
      slices_read = rw (slices, of_kind, sps, pps, header, ids, layout) (each_read c g stage order);
      subpics = rw (slices, layout) (each_subpic b c.bytes c.bodies c.slices slots);
      bodies = rw (slices, bodies, pps, header) (each_there b c.bytes c.bodies c.slices slots);
      qps = rw (slices, sps, pps, header) (each_qp b c.bytes c.bodies c.slices slots);
    }

-- ---- the picture

pub going_shows : (c : CurrentPicture) (g : GoingPicture) (p : Picture) → IsOrdered c → c.stage ≡ stages.Going g → IsGoing c p
    → ShowsPicture (parts_by (stages.Going g) c) p
going_shows c g p o is goes =
    let k = g.begun in
    let begun : header_at c.stage ≡ Some k = ap header_at is in
    let x = header_unit_in c.bytes c.header_end in
    let b : begun_of k x ≡ p.begun = begun_is c k p.begun begun goes.begun in
    let head = header_is c k begun o in
    let slices : map (slice_in c.bytes) c.slices ≡ map (slice_part p.begun) p.slices =
    slices_shown k x c.bytes c.bodies c.slices (slots_of c k begun o)
    ∙ ap (λ y. map (slice_part y) (map (slice_of c.bytes) c.slices)) b
    ∙ ap (λ l. map (slice_part p.begun) l) goes.slices in
    let kinds : g.kind ≡ p.kind = same_some g.kind p.kind (sym (ap kind_at is) ∙ goes.kind) in
    let header : k.header ≡ picture_header_of p.begun = head.header ∙ ap picture_header_of b in
    let ids : k.sets.ids ≡ ids_of p.begun.sps p.begun.pps = head.sets.ids ∙ ap (λ y. ids_of y.sps y.pps) b in
    let sps : k.sets.sps ≡ p.begun.sps = ap (λ y. y.sps) b in
    let pps : k.sets.pps ≡ p.begun.pps = ap (λ y. y.pps) b in
    let layout : k.sets.layout ≡ p.begun.layout = ap (λ y. y.layout) b in
    let unit : x ≡ p.begun.unit = ap (λ y. y.unit) b in
    rw (kinds, sps, pps, layout, header, ids, unit, slices, goes.bodies, goes.messages) refl

-- ---- the latest picture

-- a picture is done
record IsDone (c : Current) : Type 0 where
  p : Picture
  now : c ≡ going p
  whole : is_whole p ≡ true

done_by : (p : Picture) (w : Bool) → is_whole p ≡ w → cond w accepted.PictureDone accepted.Nothing ≡ accepted.PictureDone → IsDone (going p)
done_by p true is done = record { p = p; now = refl; whole = is }
done_by p false is done = absurd (let e : accepted.Nothing ≡ accepted.PictureDone = done in cc)

done_going : (c : Current) → done_or_not c ≡ accepted.PictureDone → IsDone c
done_going nothing done = absurd (let e : accepted.Nothing ≡ accepted.PictureDone = done in cc)
done_going (headed b) done = absurd (let e : accepted.Nothing ≡ accepted.PictureDone = done in cc)
done_going (going p) done = done_by p (is_whole p) refl done

-- it is the latest one
pub record IsLatest (before : List Reading) : Type 0 where
  pub p : Picture
  pub earlier : List Picture
  pub now : current before ≡ going p
  pub all : pictures before ≡ p ∷ earlier

latest_of : (r : Reading) (before : List Reading) → is_slice r ≡ true → IsDone (current (r ∷ before)) → IsLatest (r ∷ before)
latest_of r before slice done = record {
  p = done.p;
  earlier = pictures before;
  now = done.now;
  all = rw (slice, done.now, done.whole) refl;
}

pub told_latest : (before : List Reading) → last_told before ≡ accepted.PictureDone → IsLatest before
told_latest [] done = absurd (let e : accepted.Nothing ≡ accepted.PictureDone = done in cc)
told_latest (dropped ∷ before) done = absurd (let e : accepted.Nothing ≡ accepted.PictureDone = done in cc)
told_latest (vps_read v ∷ before) done = absurd (let e : accepted.Vps ≡ accepted.PictureDone = done in cc)
told_latest (sps_read s ∷ before) done = absurd (let e : accepted.Sps (sps_id s) ≡ accepted.PictureDone = done in cc)
told_latest (pps_read s ∷ before) done = absurd (let e : accepted.Pps (pps_id s) ≡ accepted.PictureDone = done in cc)
told_latest (aps_read a ∷ before) done = absurd (let e : accepted.Aps a.kind a.id ≡ accepted.PictureDone = done in cc)
told_latest (messages_read m ∷ before) done = absurd (let e : accepted.Nothing ≡ accepted.PictureDone = done in cc)
told_latest (header_read b ∷ before) done = absurd (let e : accepted.Nothing ≡ accepted.PictureDone = done in cc)
told_latest (first_slice b k s ∷ before) done = latest_of (first_slice b k s) before refl (done_going (current (first_slice b k s ∷ before)) done)
told_latest (next_slice s ∷ before) done = latest_of (next_slice s) before refl (done_going (current (next_slice s ∷ before)) done)
told_latest (sequence_ended ∷ before) done = absurd (let e : accepted.Nothing ≡ accepted.PictureDone = done in cc)

-- ---- both

shows_by : (c : CurrentPicture) (s : Stage) (p : Picture) → IsOrdered c → c.stage ≡ s → IsGoing c p → ShowsPicture (parts_by s c) p
shows_by c stages.Nothing p ordered is goes = absurd (no_begun c p.begun (ap header_at is) goes.begun)
shows_by c (stages.Headed b) p ordered is goes = absurd (let e : None ≡ Some p.kind = sym (ap kind_at is) ∙ goes.kind in cc)
shows_by c (stages.Going g) p ordered is goes = going_shows c g p ordered is goes

pub lent_latest : (h : Held) (before : List Reading) → IsOrdered h.state.picture → Stands h before → HasPicture h
    → ShowsLatest (parts_in h.state.picture) (pictures before)
lent_latest h before ordered stands has =
    let l = told_latest before (sym stands.told ∙ has) in
    let c = h.state.picture in
    let goes : IsGoing c l.p = subst (λ q. Keeps c q) l.now stands.state.picture in
    subst (λ ps. ShowsLatest (parts_in c) ps) (sym l.all) (shows_by c c.stage l.p ordered refl goes)
