-- The units of the pictures of units are among these: what holds of the units holds of each PH unit and of each slice, and of a unit of
-- each adaptation parameter set.
use Rattle.std.proofs.Common.{◌≡◌, ℕ, ◌+◌, ◌==◌, true, false, not, cond, List, [], ◌∷◌, ◌++◌, length, Option, Some, None, Result, Ok, Err, refl, ap, sym, subst, inl, inr}
use Rattle.std.specs.Prelude.{nat_le, nat_lt}
use Rattle.std.specs.List.{AllByRecursion}
use Rattle.vx_annexb.specs.NalUnit.{nal_unit_type, nuh_layer_id}
use Rattle.vx_bits.specs.declared.refusal.Refusal.{Refusal}
use Rattle.vx_bits.specs.declared.refusal.Refusal.TheVariants.{Profile}
use Rattle.vx_bits.specs.declared.rules.TheConstants as rules
use Rattle.vx_aps.specs.declared.aps.Aps.{Aps}
use Rattle.vx_aps.specs.Aps.{IsAnswer, spelled}
use Rattle.vx_layout.proofs.Parts.{Each-append}
use Rattle.vx_sei.specs.Sei.{spelled_length}
use Rattle.vx_pic.specs.Units.{Class, class_of, end_unit, has_header_inside, header_unit, is_reserved, other_unit, pps_unit, prefix_aps, rbsp_of, sei_unit, slice_unit, sps_unit, suffix_aps, temporal_id, vps_unit}
use Rattle.vx_pic.specs.Sets.{SliceHeader, Slot, is_qp, names_of, slices_before, slice_qp}
use Rattle.vx_pic.specs.Readings.{Current, Picture, Reading, Slice, aps_read, current, dropped, first_slice, gathered, going, header_read, headed, is_open, is_slice, is_whole, is_within_picture, messages_read, next_slice, nothing, pictures, pps_read, sequence_ended, sps_read, vps_read, picture_if_whole, with_slice}
use Rattle.vx_pic.specs.Rules.{Readers, alone, aps_reading, are_stored, begins, follows, gathers, joins, message_limit, opened, opens, picture_limit, reads, reads_as, picture_size}
use Rattle.vx_pic.specs.Streams.{StreamReading, one_more, pictures_of, read_on}
use Rattle.vx_pic.specs.H266.{AreOfH266}
use Rattle.vx_pic.specs.Parts.{aps_at, stored_sets}
use Rattle.vx_pic.proofs.Finishing.{answered, by_layer, chosen, header_begun, passed, then_told}
use Rattle.vx_extract.proofs.ReadyReadings.{SetsHold, held_at}

module _ (P : List ℕ → Type 0) where
  abbrev pub OfUnit : Option (List ℕ) → Type 0
  OfUnit None = Unit {0}
  OfUnit (Some u) = P u

  abbrev pub OfSlices : List Slice → Type 0
  OfSlices slices = AllByRecursion (λ (s : Slice). P s.unit) slices

  -- a unit says the set
  abbrev pub OfSet : Aps → Type 0
  OfSet a = (u : List ℕ) × P u × (rbsp_of u ≡ spelled a.kind a.id a.body)

  -- the units that a reading has
  abbrev OfReading : Reading → Type 0
  OfReading (aps_read a) = OfSet a
  OfReading (header_read b) = OfUnit b.unit
  OfReading (first_slice b k s) = OfUnit b.unit × P s.unit
  OfReading (next_slice s) = P s.unit
  OfReading _ = Unit {0}

  abbrev OfReadings : List Reading → Type 0
  OfReadings before = AllByRecursion OfReading before

  -- the PH unit of a picture, where it has one, its slices, and those before them
  abbrev pub OfPicture : Picture → Type 0
  OfPicture p = OfUnit p.begun.unit × OfSlices p.slices × OfReadings p.before

  reading_is : (a r : Reading) → answered a ≡ answered r → OfReading a → OfReading r
  reading_is a r is held =
      let same : a ≡ r = cc in
      let Q : Reading → Type 0 = OfReading in
      subst Q same held

  aps_has : (u : List ℕ) (a : Option Aps) → P u → IsAnswer (rbsp_of u) (Ok a) → OfReading (aps_reading a)
  aps_has u None has is = tt
  aps_has u (Some a) has is = (u, has, is.bytes)

  -- ---- the picture that was begun last

  abbrev OfCurrent : Current → Type 0
  OfCurrent nothing = Unit {0}
  OfCurrent (headed b) = OfUnit b.unit
  OfCurrent (going p) = OfPicture p

  slice_more : (s : Slice) (c : Current) → P s.unit → OfCurrent c → OfCurrent (with_slice s c)
  slice_more s nothing one held = held
  slice_more s (headed b) one held = held
  slice_more s (going p) one held = (held.0, Each-append (λ (t : Slice). P t.unit) p.slices (s ∷ []) held.1 (one, tt), held.2)

  current_has : (before : List Reading) → OfReadings before → OfCurrent (current before)
  current_has [] all = tt
  current_has (header_read b ∷ before) all = all.0
  current_has (first_slice b k s ∷ before) all = (all.0.0, (all.0.1, tt), all.1)
  current_has (next_slice s ∷ before) all = slice_more s (current before) all.0 (current_has before all.1)
  current_has (dropped ∷ before) all = current_has before all.1
  current_has (vps_read v ∷ before) all = current_has before all.1
  current_has (sps_read s ∷ before) all = current_has before all.1
  current_has (pps_read p ∷ before) all = current_has before all.1
  current_has (aps_read a ∷ before) all = current_has before all.1
  current_has (messages_read ms ∷ before) all = current_has before all.1
  current_has (sequence_ended ∷ before) all = current_has before all.1

  -- ---- each unit

  module _ (R : Readers) (of : AreOfH266 R) where
    slice_unit_is : (p : Picture) (u : List ℕ) (s : Slice) → joins R p u ≡ Ok s → s.unit ≡ u
    slice_unit_is p u s is =
        let tid = passed (not (temporal_id u == p.begun.temporal_id)) _ _ s is in
        let type = passed (not (nal_unit_type u == p.kind.nal_type)) _ _ s tid.1 in
        let header = then_told (R.slice p.kind.nal_type p.begun u) _ s type.1 in
        let h : SliceHeader = header.0 in
        let place = passed (not (slices_before p.begun.layout h == length p.slices)) _ _ s header.2 in
        let bodies = then_told (are_stored p.before (names_of p.begun.pps p.begun.header h)) _ s place.1 in
        let qp = passed (not (is_qp p.begun.sps (slice_qp p.begun.pps p.begun.header h))) _ _ s bodies.2 in
        let payload = passed (nat_le (length u) h.payload) _ _ s qp.1 in
        let size = passed (nat_lt picture_limit (picture_size p + length u)) _ _ s payload.1 in
        let told : Slice = record { unit = u; header = h } in
        let same : told ≡ s = let e = size.1 in cc in
        sym (ap (λ (t : Slice). t.unit) same)

    module _ (before : List Reading) (all : OfReadings before) (u : List ℕ) (r : Reading) (has : P u) where
      joined_has : (p : Picture) (s : Slice) → joins R p u ≡ Ok s → P s.unit
      joined_has p s is = subst P (sym (slice_unit_is p u s is)) has

      alone_has : alone R before u ≡ Ok r → OfReading r
      alone_has is =
          let closed = passed (is_open (current before)) _ _ r is in
          let b = then_told (begins R before u None) _ r closed.1 in
          let one = passed (nat_lt 1 (length b.0.layout.slices)) _ _ r b.2 in
          let kind = then_told (opens before b.0 u) _ r one.1 in
          let s = then_told (joins R (opened before b.0 kind.0) u) _ r kind.2 in
          let none : OfUnit b.0.unit = subst OfUnit (sym (header_begun R before u None b.0 b.1).unit_is) tt in
          reading_is (first_slice b.0 kind.0 s.0) r s.2 (none, joined_has (opened before b.0 kind.0) s.0 s.1)

      follows_has : (c : Current) → OfCurrent c → follows R before c u ≡ Ok r → OfReading r
      follows_has nothing held is = absurd (cc)
      follows_has (headed b) held is =
          let kind = then_told (opens before b u) _ r is in
          let s = then_told (joins R (opened before b kind.0) u) _ r kind.2 in
          reading_is (first_slice b kind.0 s.0) r s.2 (held, joined_has (opened before b kind.0) s.0 s.1)
      follows_has (going p) held is =
          let part = passed (is_whole p) _ _ r is in
          let s = then_told (joins R p u) _ r part.1 in
          reading_is (next_slice s.0) r s.2 (joined_has p s.0 s.1)

      class_has : (c : Class) → reads_as R c before u ≡ Ok r → OfReading r
      class_has other_unit is = reading_is dropped r is tt
      class_has vps_unit is =
          let t = then_told (R.vps (rbsp_of u)) _ r is in
          reading_is (vps_read t.0) r t.2 tt
      class_has sps_unit is =
          let p = passed (is_within_picture (current before)) _ _ r is in
          let t = then_told (R.sps (rbsp_of u)) _ r p.1 in
          reading_is (sps_read t.0) r t.2 tt
      class_has pps_unit is =
          let p = passed (is_within_picture (current before)) _ _ r is in
          let t = then_told (R.pps (rbsp_of u)) _ r p.1 in
          reading_is (pps_read t.0) r t.2 tt
      class_has prefix_aps is =
          let p = passed (is_within_picture (current before)) _ _ r is in
          let t = then_told (R.aps (rbsp_of u)) _ r p.1 in
          reading_is (aps_reading t.0) r t.2 (aps_has u t.0 has (subst (λ x. IsAnswer (rbsp_of u) x) t.1 (of.aps (rbsp_of u))))
      class_has suffix_aps is =
          let t = then_told (R.aps (rbsp_of u)) _ r is in
          reading_is (aps_reading t.0) r t.2 (aps_has u t.0 has (subst (λ x. IsAnswer (rbsp_of u) x) t.1 (of.aps (rbsp_of u))))
      class_has header_unit is =
          let p = passed (is_open (current before)) _ _ r is in
          let b = then_told (begins R before u (Some u)) _ r p.1 in
          let own : OfUnit b.0.unit = subst OfUnit (sym (header_begun R before u (Some u) b.0 b.1).unit_is) has in
          reading_is (header_read b.0) r b.2 own
      class_has slice_unit is =
          elim (chosen (has_header_inside u) (alone R before u) (follows R before (current before) u) r is) [
            | inl h ↦ alone_has h.1
            | inr h ↦ follows_has (current before) (current_has before all) h.1
          ]
      class_has end_unit is =
          let p = passed (is_open (current before)) _ _ r is in
          reading_is sequence_ended r p.1 tt
      class_has sei_unit is =
          elim (chosen (is_within_picture (current before)) (Ok dropped) (gathers before (R.sei (rbsp_of u))) r is) [
            | inl h ↦ reading_is dropped r h.1 tt
            | inr h ↦
                let p = passed (nat_lt message_limit (spelled_length (gathered before ++ R.sei (rbsp_of u)))) _ _ r h.1 in
                reading_is (messages_read (R.sei (rbsp_of u))) r p.1 tt
          ]

      unit_has : reads R before u ≡ Ok r → OfReading r
      unit_has is =
          elim (by_layer (is_reserved u) (not (nuh_layer_id u == 0)) (reads_as R (class_of (nal_unit_type u)) before u) (Profile rules.SEVERAL_LAYERS) r is) [
            | inl h ↦ reading_is dropped r h tt
            | inr h ↦ class_has (class_of (nal_unit_type u)) h.2
          ]

    one_has : (before : List Reading) (x : Result Reading Refusal) (f : List Reading → StreamReading) → ((r : Reading) → x ≡ Ok r → OfReading r)
        → ((a : List Reading) → OfReadings a → OfReadings (f a).before) → OfReadings before → OfReadings (one_more x before f).before
    one_has before (Ok r) f step on all = on (r ∷ before) (step r refl, all)
    one_has before (Err q) f step on all = all

    units_have : (before : List Reading) (units : List (List ℕ)) → AllByRecursion P units → OfReadings before → OfReadings (read_on R before units).before
    units_have before [] has all = all
    units_have before (u ∷ units) has all =
        one_has before (reads R before u) (λ a. read_on R a units) (λ r is. unit_has before all u r has.0 is) (λ a were. units_have a units has.1 were) all

  -- ---- pictures

  abbrev OfPictures : List Picture → Type 0
  OfPictures ps = AllByRecursion OfPicture ps

  whole_has : (c : Current) → OfCurrent c → OfPictures (picture_if_whole c)
  whole_has nothing held = tt
  whole_has (headed b) held = tt
  whole_has (going p) held = elim (is_whole p) as (λ b. OfPictures (cond b (p ∷ []) [])) [ true ↦ (held, tt) | false ↦ tt ]

  pictures_have : (before : List Reading) → OfReadings before → OfPictures (pictures before)
  pictures_have [] all = tt
  pictures_have (r ∷ before) all =
      let c : Current = current (r ∷ before) in
      let here : OfPictures (cond (is_slice r) (picture_if_whole c) [])
      = elim (is_slice r) as (λ b. OfPictures (cond b (picture_if_whole c) [])) [ true ↦ whole_has c (current_has (r ∷ before) all) | false ↦ tt ] in
      Each-append OfPicture (cond (is_slice r) (picture_if_whole c) []) (pictures before) here (pictures_have before all.1)

  pub have_units : (R : Readers) (units : List (List ℕ)) → AreOfH266 R → AllByRecursion P units → AllByRecursion OfPicture (pictures_of R units)
  have_units R units of has = pictures_have (read_on R [] units).before (units_have R of [] units has tt)

  sets_hold : (before : List Reading) → OfReadings before → SetsHold OfSet before
  sets_hold [] all = tt
  sets_hold (r ∷ before) all = ((λ b is. subst OfReading is all.0), sets_hold before all.1)

  -- a unit says each adaptation parameter set of a picture
  pub sets_have : (p : Picture) → OfPicture p → (slot : Slot) (a : Aps) → aps_at (stored_sets p.before) slot.kind slot.id ≡ Some a → OfSet (record { kind = slot.kind; id = slot.id; body = a.body })
  sets_have p held slot a is = held_at OfSet p.before (sets_hold p.before held.2) slot a is
