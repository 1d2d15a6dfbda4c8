-- The adaptation parameter sets and the messages of the pictures of a stream, as they were read.
use Rattle.std.proofs.Common.{◌≡◌, ℕ, ◌+◌, ◌<◌, ◌==◌, ◌&&◌, true, false, not, cond, List, [], ◌∷◌, ◌++◌, length, map, Option, Some, None, Result, Ok, Err, refl, ap, sym, subst, ◌∙◌, inl, inr, IsTrue, arith}
use Rattle.std.specs.Prelude.{All, filter, flat_map, is_none, nat_lt, slice_index_or}
use Rattle.std.specs.List.{AllByRecursion}
use Rattle.std.proofs.lemmas.Bool.{and_parts, cases_Bool, eqb-true, ltb-true, true≢false}
use Rattle.std.proofs.lemmas.List.Elements.{All-append, All-cons, All-nil}
use Rattle.vx_annexb.specs.NalUnit.{nal_unit_type, nuh_layer_id}
use Rattle.vx_bits.specs.declared.refusal.Refusal.{Refusal}
use Rattle.vx_bits.specs.declared.refusal.Refusal.TheVariants.{Profile}
use Rattle.vx_bits.specs.declared.rules.TheConstants as rules
use Rattle.vx_aps.specs.declared.aps.Aps.{Aps}
use Rattle.vx_aps.specs.declared.aps.TheConstants.{LMCS, SCALING}
use Rattle.vx_aps.specs.Aps.{IsAnswer, IsValid}
use Rattle.vx_layout.proofs.Parts.{Each-append}
use Rattle.vx_sei.specs.declared.message.Message.{Message}
use Rattle.vx_sei.specs.Sei.{Carries, carried, is_carried, spelled_length}
use Rattle.vx_pic.specs.Units.{Class, class_of, end_unit, has_header_inside, header_unit, is_reserved, other_unit, pps_unit, prefix_aps, rbsp_of, sei_unit, slice_unit, sps_unit, suffix_aps, vps_unit}
use Rattle.vx_pic.specs.Sets.{Slot, names_of}
use Rattle.vx_pic.specs.Readings.{Current, Picture, Reading, Slice, aps_in, aps_read, current, dropped, first_slice, gathered, going, header_read, headed, is_open, is_slice, is_whole, is_within_picture, latest_given, messages_read, next_slice, nothing, pictures, pps_read, sequence_ended, sps_read, stored_aps, vps_read, picture_if_whole, with_slice}
use Rattle.vx_pic.specs.Rules.{Readers, alone, aps_reading, begins, follows, gathers, joins, message_limit, opened, opens, reads, reads_as}
use Rattle.vx_pic.specs.Streams.{StreamReading, one_more, pictures_of, read_on}
use Rattle.vx_pic.specs.H266.{AreOfH266}
use Rattle.vx_pic.specs.Parts.{AreThere, SlicePart, aps_at, id_count, aps_named_by, slice_header_of, slice_part, slot_of, stored_sets}
use Rattle.vx_pic.specs.Written.{AreInForce}
use Rattle.vx_pic.specs.Finished.{AreFinished, IsSoundPicture, PicturesAreFinished}
use Rattle.vx_pic.proofs.Finishing.{answered, by_layer, chosen, first_or, passed, test_told, then_told}
use Rattle.vx_extract.specs.Ready.{HasItsReadings, PicturesHaveTheirReadings}
use Rattle.vx_extract.proofs.KeptBodies.{at_place}

abbrev AreCarried : List Message → Type 0
AreCarried messages = All (λ (m : Message). IsTrue (is_carried m.kind)) messages

-- what is known of a reading
abbrev IsFit : Reading → Type 0
IsFit (aps_read a) = IsValid a
IsFit (messages_read messages) = AreCarried messages
IsFit _ = Unit {0}

abbrev AreFit : List Reading → Type 0
AreFit before = AllByRecursion IsFit before

fit_is : (a r : Reading) → answered a ≡ answered r → IsFit a → IsFit r
fit_is a r is fit =
    let same : a ≡ r = cc in
    let P : Reading → Type 0 = IsFit in
    subst P same fit

-- ---- what is gathered, and stored

gathered_carried : (before : List Reading) → AreFit before → AreCarried (gathered before)
gathered_carried [] all = All-nil (λ (m : Message). IsTrue (is_carried m.kind))
gathered_carried (messages_read ms ∷ before) all = All-append (λ (m : Message). IsTrue (is_carried m.kind)) (gathered before) ms (gathered_carried before all.1) all.0
gathered_carried (first_slice b k s ∷ before) all = All-nil (λ (m : Message). IsTrue (is_carried m.kind))
gathered_carried (next_slice s ∷ before) all = All-nil (λ (m : Message). IsTrue (is_carried m.kind))
gathered_carried (header_read b ∷ before) all = gathered_carried before all.1
gathered_carried (dropped ∷ before) all = gathered_carried before all.1
gathered_carried (vps_read v ∷ before) all = gathered_carried before all.1
gathered_carried (sps_read s ∷ before) all = gathered_carried before all.1
gathered_carried (pps_read p ∷ before) all = gathered_carried before all.1
gathered_carried (aps_read a ∷ before) all = gathered_carried before all.1
gathered_carried (sequence_ended ∷ before) all = gathered_carried before all.1

-- something holds of each set that was read
abbrev pub SetsHold : (Aps → Type 0) → List Reading → Type 0
SetsHold Q before = AllByRecursion (λ r. (b : Aps) → r ≡ aps_read b → Q b) before

fits_hold : (before : List Reading) → AreFit before → SetsHold IsValid before
fits_hold [] all = tt
fits_hold (r ∷ before) all = ((λ b is. subst IsFit is all.0), fits_hold before all.1)

-- a set of a type and an id of which it holds
record IsOf (Q : Aps → Type 0) (kind id : ℕ) (a : Aps) : Type 0 where
  same_kind : a.kind ≡ kind
  same_id : a.id ≡ id
  holds : Q a

aps_is_of : (Q : Aps → Type 0) (kind id : ℕ) (r : Reading) (a : Aps) → ((b : Aps) → r ≡ aps_read b → Q b) → aps_in kind id r ≡ Some a → IsOf Q kind id a
aps_is_of Q kind id (aps_read b) a fit is =
    let told = test_told ((b.kind == kind) && (b.id == id)) b a is in
    let both = and_parts (b.kind == kind) (b.id == id) told.0 in
    let here : IsOf Q kind id b = record { same_kind = eqb-true b.kind kind both.0; same_id = eqb-true b.id id both.1; holds = fit b refl } in
    subst (IsOf Q kind id) told.1 here
aps_is_of Q kind id dropped a fit is = absurd (cc)
aps_is_of Q kind id (vps_read v) a fit is = absurd (cc)
aps_is_of Q kind id (sps_read t) a fit is = absurd (cc)
aps_is_of Q kind id (pps_read t) a fit is = absurd (cc)
aps_is_of Q kind id (messages_read t) a fit is = absurd (cc)
aps_is_of Q kind id (header_read t) a fit is = absurd (cc)
aps_is_of Q kind id (first_slice b k t) a fit is = absurd (cc)
aps_is_of Q kind id (next_slice t) a fit is = absurd (cc)
aps_is_of Q kind id sequence_ended a fit is = absurd (cc)

stored_is_of : (Q : Aps → Type 0) (kind id : ℕ) (before : List Reading) → SetsHold Q before → (a : Aps) → stored_aps kind id before ≡ Some a → IsOf Q kind id a
stored_is_of Q kind id [] all a is = absurd (cc)
stored_is_of Q kind id (r ∷ before) all a is =
    first_or (aps_in kind id r) (latest_given (aps_in kind id) before) a (IsOf Q kind id) (λ b. aps_is_of Q kind id r b all.0) (stored_is_of Q kind id before all.1 a) is

-- ---- the picture that was begun last

abbrev CurrentFits : Current → Type 0
CurrentFits nothing = Unit {0}
CurrentFits (headed b) = Unit {0}
CurrentFits (going p) = AreFit p.before

one_slice_more : (s : Slice) (c : Current) → CurrentFits c → CurrentFits (with_slice s c)
one_slice_more s nothing fit = fit
one_slice_more s (headed b) fit = fit
one_slice_more s (going p) fit = fit

current_fits : (before : List Reading) → AreFit before → CurrentFits (current before)
current_fits [] all = tt
current_fits (header_read b ∷ before) all = tt
current_fits (first_slice b k s ∷ before) all = all.1
current_fits (next_slice s ∷ before) all = one_slice_more s (current before) (current_fits before all.1)
current_fits (dropped ∷ before) all = current_fits before all.1
current_fits (vps_read v ∷ before) all = current_fits before all.1
current_fits (sps_read s ∷ before) all = current_fits before all.1
current_fits (pps_read p ∷ before) all = current_fits before all.1
current_fits (aps_read a ∷ before) all = current_fits before all.1
current_fits (messages_read ms ∷ before) all = current_fits before all.1
current_fits (sequence_ended ∷ before) all = current_fits before all.1

-- ---- each unit

filter_carried : (ms : List Message) → AreCarried (carried ms)
filter_carried [] = All-nil (λ (m : Message). IsTrue (is_carried m.kind))
filter_carried (m ∷ ms) = elim (cases_Bool (is_carried m.kind)) [
  | inl on ↦ rw on (All-cons (λ (x : Message). IsTrue (is_carried x.kind)) m (carried ms) on (filter_carried ms))
  | inr off ↦ rw off (filter_carried ms)
]

sei_carried : (rbsp : List ℕ) (ms : List Message) → Carries rbsp ms → AreCarried ms
sei_carried rbsp ms (inl is) = subst AreCarried (sym is.2) (filter_carried is.0)
sei_carried rbsp ms (inr none) = subst AreCarried (sym none.1) (All-nil (λ (m : Message). IsTrue (is_carried m.kind)))

aps_fits : (rbsp : List ℕ) (a : Option Aps) → IsAnswer rbsp (Ok a) → IsFit (aps_reading a)
aps_fits rbsp None is = tt
aps_fits rbsp (Some a) is = is.valid

module _ (R : Readers) (of : AreOfH266 R) where
  aps_answer : (rbsp : List ℕ) (a : Option Aps) → R.aps rbsp ≡ Ok a → IsFit (aps_reading a)
  aps_answer rbsp a is = aps_fits rbsp a (subst (λ x. IsAnswer rbsp x) is (of.aps rbsp))

  alone_fits : (before : List Reading) (u : List ℕ) (r : Reading) → alone R before u ≡ Ok r → IsFit r
  alone_fits before u r is =
      let closed = passed (is_open (current before)) _ _ r is in
      let b = then_told (begins R before u None) _ r closed.1 in
      let one = passed (nat_lt 1 (length b.0.layout.slices)) _ _ r b.2 in
      let kind = then_told (opens before b.0 u) _ r one.1 in
      let s = then_told (joins R (opened before b.0 kind.0) u) _ r kind.2 in
      fit_is (first_slice b.0 kind.0 s.0) r s.2 tt

  follows_fits : (before : List Reading) (c : Current) (u : List ℕ) (r : Reading) → follows R before c u ≡ Ok r → IsFit r
  follows_fits before nothing u r is = absurd (cc)
  follows_fits before (headed b) u r is =
      let kind = then_told (opens before b u) _ r is in
      let s = then_told (joins R (opened before b kind.0) u) _ r kind.2 in
      fit_is (first_slice b kind.0 s.0) r s.2 tt
  follows_fits before (going p) u r is =
      let part = passed (is_whole p) _ _ r is in
      let s = then_told (joins R p u) _ r part.1 in
      fit_is (next_slice s.0) r s.2 tt

  class_fits : (before : List Reading) (u : List ℕ) (r : Reading) (c : Class) → reads_as R c before u ≡ Ok r → IsFit r
  class_fits before u r other_unit is = fit_is dropped r is tt
  class_fits before u r vps_unit is =
      let t = then_told (R.vps (rbsp_of u)) _ r is in
      fit_is (vps_read t.0) r t.2 tt
  class_fits before u r sps_unit is =
      let p = passed (is_within_picture (current before)) _ _ r is in
      let t = then_told (R.sps (rbsp_of u)) _ r p.1 in
      fit_is (sps_read t.0) r t.2 tt
  class_fits before u r pps_unit is =
      let p = passed (is_within_picture (current before)) _ _ r is in
      let t = then_told (R.pps (rbsp_of u)) _ r p.1 in
      fit_is (pps_read t.0) r t.2 tt
  class_fits before u r prefix_aps is =
      let p = passed (is_within_picture (current before)) _ _ r is in
      let t = then_told (R.aps (rbsp_of u)) _ r p.1 in
      fit_is (aps_reading t.0) r t.2 (aps_answer (rbsp_of u) t.0 t.1)
  class_fits before u r suffix_aps is =
      let t = then_told (R.aps (rbsp_of u)) _ r is in
      fit_is (aps_reading t.0) r t.2 (aps_answer (rbsp_of u) t.0 t.1)
  class_fits before u r header_unit is =
      let p = passed (is_open (current before)) _ _ r is in
      let b = then_told (begins R before u (Some u)) _ r p.1 in
      fit_is (header_read b.0) r b.2 tt
  class_fits before u r slice_unit is =
      elim (chosen (has_header_inside u) (alone R before u) (follows R before (current before) u) r is) [
        | inl h ↦ alone_fits before u r h.1
        | inr h ↦ follows_fits before (current before) u r h.1
      ]
  class_fits before u r end_unit is =
      let p = passed (is_open (current before)) _ _ r is in
      fit_is sequence_ended r p.1 tt
  class_fits before u r sei_unit is =
      elim (chosen (is_within_picture (current before)) (Ok dropped) (gathers before (R.sei (rbsp_of u))) r is) [
        | inl h ↦ fit_is dropped r h.1 tt
        | inr h ↦
            let p = passed (nat_lt message_limit (spelled_length (gathered before ++ R.sei (rbsp_of u)))) _ _ r h.1 in
            fit_is (messages_read (R.sei (rbsp_of u))) r p.1 (sei_carried (rbsp_of u) (R.sei (rbsp_of u)) (of.sei (rbsp_of u)))
      ]

  unit_fits : (before : List Reading) (u : List ℕ) (r : Reading) → reads R before u ≡ Ok r → IsFit r
  unit_fits before u r is =
      elim (by_layer (is_reserved u) (not (nuh_layer_id u == 0)) (reads_as R (class_of (nal_unit_type u)) before u) (Profile rules.SEVERAL_LAYERS) r is) [
        | inl h ↦ fit_is dropped r h tt
        | inr h ↦ class_fits before u r (class_of (nal_unit_type u)) h.2
      ]

  one_fits : (before : List Reading) (x : Result Reading Refusal) (f : List Reading → StreamReading) → ((r : Reading) → x ≡ Ok r → IsFit r)
      → ((a : List Reading) → AreFit a → AreFit (f a).before) → AreFit before → AreFit (one_more x before f).before
  one_fits before (Ok r) f step on all = on (r ∷ before) (step r refl, all)
  one_fits before (Err q) f step on all = all

  units_fit : (before : List Reading) (units : List (List ℕ)) → AreFit before → AreFit (read_on R before units).before
  units_fit before [] all = all
  units_fit before (u ∷ units) all =
      one_fits before (reads R before u) (λ a. read_on R a units) (λ r is. unit_fits before u r is) (λ a were. units_fit a units were) all

-- ---- pictures

abbrev AllFit : List Picture → Type 0
AllFit ps = AllByRecursion (λ p. AreFit p.before) ps

whole_fits : (c : Current) → CurrentFits c → AllFit (picture_if_whole c)
whole_fits nothing fit = tt
whole_fits (headed b) fit = tt
whole_fits (going p) fit = elim (is_whole p) as (λ b. AllFit (cond b (p ∷ []) [])) [ true ↦ (fit, tt) | false ↦ tt ]

pictures_fit : (before : List Reading) → AreFit before → AllFit (pictures before)
pictures_fit [] all = tt
pictures_fit (r ∷ before) all =
    let c : Current = current (r ∷ before) in
    let here : AllFit (cond (is_slice r) (picture_if_whole c) [])
    = elim (is_slice r) as (λ b. AllFit (cond b (picture_if_whole c) [])) [ true ↦ whole_fits c (current_fits (r ∷ before) all) | false ↦ tt ] in
    Each-append (λ p. AreFit p.before) (cond (is_slice r) (picture_if_whole c) []) (pictures before) here (pictures_fit before all.1)

-- ---- what callers see

id_low : (a : Aps) → IsValid a → a.id < id_count
id_low a valid = elim (cases_Bool (a.kind == LMCS)) [
  | inl is ↦ let low : a.id < 4 = subst (λ b. a.id < cond b 4 8) is valid.id in omega (arith, low)
  | inr other ↦ subst (λ b. a.id < cond b 4 8) other valid.id
]

none_some : (a : Aps) → None ≡ Some a → ⊥
none_some a is = absurd (cc)

-- it holds of the sets that a picture has
pub held_at : (Q : Aps → Type 0) (before : List Reading) → SetsHold Q before → (slot : Slot) (a : Aps) → aps_at (stored_sets before) slot.kind slot.id ≡ Some a → Q (record { kind = slot.kind; id = slot.id; body = a.body })
held_at Q before all slot a is = elim (cases_Bool (nat_lt slot.kind (SCALING + 1) && nat_lt slot.id id_count)) [
  | inl on ↦
      let parts = and_parts (nat_lt slot.kind (SCALING + 1)) (nat_lt slot.id id_count) on in
      let place = at_place before slot.kind slot.id (ltb-true slot.kind (SCALING + 1) parts.0) (ltb-true slot.id id_count parts.1) in
      let own = stored_is_of Q slot.kind slot.id before all a (sym place ∙ is) in
      subst (λ i. Q (record { kind = slot.kind; id = i; body = a.body })) own.same_id (subst (λ k. Q (record { kind = k; id = a.id; body = a.body })) own.same_kind own.holds)
  | inr off ↦ absurd (none_some a (sym (ap (λ b. cond b (slice_index_or (stored_sets before) (slot_of slot.kind slot.id) None) None) off) ∙ is))
]

module _ (p : Picture) (fit : AreFit p.before) where
  readable_at : (slot : Slot) (a : Aps) → aps_at (stored_sets p.before) slot.kind slot.id ≡ Some a → IsValid (record { kind = slot.kind; id = slot.id; body = a.body })
  readable_at slot a is = held_at IsValid p.before (fits_hold p.before fit) slot a is

  there_at : (slot : Slot) (o : Option Aps) → stored_aps slot.kind slot.id p.before ≡ o → is_none o ≡ false → is_none (aps_at (stored_sets p.before) slot.kind slot.id) ≡ false
  there_at slot None is some = absurd (true≢false some)
  there_at slot (Some a) is some =
      let own = stored_is_of IsValid slot.kind slot.id p.before (fits_hold p.before fit) a is in
      let few = own.holds.kind in
      let low = id_low a own.holds in
      ap is_none (at_place p.before slot.kind slot.id (omega (arith, few, own.same_kind)) (omega (arith, low, own.same_id)) ∙ is)

  all_there : (slots : List Slot) → AreInForce p.before slots → AreThere (stored_sets p.before) slots
  all_there [] all = tt
  all_there (slot ∷ slots) all = (there_at slot (stored_aps slot.kind slot.id p.before) refl all.0, all_there slots all.1)

  names_same : (s : Slice) → aps_named_by p.begun.pps p.begun.header (slice_header_of p.begun s.header) ≡ names_of p.begun.pps p.begun.header s.header
  unfolding names_of
  names_same s = refl

  abbrev names_in : ℕ → List Slice → List Slot
  names_in target slices = flat_map (λ (s : SlicePart). aps_named_by p.begun.pps p.begun.header s.header) (filter (λ (s : SlicePart). s.header.subpic == target) (map (slice_part p.begun) slices))

  named_there : (target : ℕ) (slices : List Slice) → AllByRecursion (λ (s : Slice). AreInForce p.before (names_of p.begun.pps p.begun.header s.header)) slices → AreThere (stored_sets p.before) (names_in target slices)
  named_there target [] all = tt
  named_there target (s ∷ slices) all =
      let here : AreThere (stored_sets p.before) (aps_named_by p.begun.pps p.begun.header (slice_header_of p.begun s.header)) =
      subst (λ slots. AreThere (stored_sets p.before) slots) (sym (names_same s)) (all_there (names_of p.begun.pps p.begun.header s.header) all.0) in
      let more = named_there target slices all.1 in
      elim (cases_Bool (s.header.subpic == target)) [
        | inl on ↦
            let both = Each-append (λ (slot : Slot). is_none (aps_at (stored_sets p.before) slot.kind slot.id) ≡ false) (aps_named_by p.begun.pps p.begun.header (slice_header_of p.begun s.header)) (names_in target slices) here more in
            rw on both
        | inr off ↦ rw off more
      ]

one_has : (R : Readers) (earlier : List Picture) (p : Picture) → IsSoundPicture R earlier p → AreFit p.before → HasItsReadings p
one_has R earlier p sound fit = record {
  readable = λ slot a is. readable_at p fit slot a is;
  there = λ target. named_there p fit target p.slices sound.bodies;
  carried = gathered_carried p.before fit;
}

each_has : (R : Readers) (ps : List Picture) → AreFinished R ps → AllFit ps → AllByRecursion HasItsReadings ps
each_has R [] finished fit = tt
each_has R (p ∷ earlier) finished fit = (one_has R earlier p finished.0 fit.0, each_has R earlier finished.2 fit.1)

pub have_their_readings : PicturesAreFinished → PicturesHaveTheirReadings
have_their_readings finished R units of = each_has R (pictures_of R units) (finished R units) (pictures_fit (read_on R [] units).before (units_fit R of [] units tt))
