-- The units of a plan are read as the plan says.
use Rattle.std.proofs.Common.{◌≡◌, ℕ, ◌+◌, ◌<◌, ◌≤◌, Bool, true, false, not, cond, ◌&&◌, List, [], ◌∷◌, ◌++◌, length, map, sum_by, refl}
use Rattle.std.proofs.Common.{sym, ◌∙◌, ap, subst, inl, inr, arith}
use Rattle.std.proofs.Common.{option_to_list, Option, Some, None, Ok, length-append}
use Rattle.std.specs.Prelude.{◌==◌, nat_le, nat_lt, is_none}
use Rattle.std.specs.List.{AllByRecursion}
use Rattle.std.proofs.lemmas.Bool.{not-true}
use Rattle.std.proofs.lemmas.Bool.Decides.{nat_tests, eqb_tells}
use Rattle.std.proofs.lemmas.List.{append_assoc, append-nil}
use Rattle.std.proofs.lemmas.List.Sums.{sum_by-cons, sum_by_push}
use Rattle.vx_annexb.specs.NalUnit.{nal_unit_type, nuh_layer_id}
use Rattle.vx_sei.specs.Sei.{spelled_length}
use Rattle.vx_pic.specs.declared.kind.Kind.{Kind}
use Rattle.vx_pic.specs.Answers.{◌>>=◌}
use Rattle.vx_pic.specs.Units.{is_reserved, temporal_id, has_header_inside, is_irap_or_gdr, Class, sps_unit, pps_unit, prefix_aps}
use Rattle.vx_pic.specs.Units.{header_unit, slice_unit, sei_unit, end_unit, class_of}
use Rattle.vx_pic.specs.Sets.{Slot, pps_id, referred_sps, slices_before, names_of}
use Rattle.vx_pic.specs.Readings.{Begun, Slice, Reading, messages_read, header_read, first_slice, next_slice, sequence_ended}
use Rattle.vx_pic.specs.Readings.{stored_sps, stored_pps, is_ended, gathered, Picture, is_whole, Current, nothing, headed, going}
use Rattle.vx_pic.specs.Readings.{with_slice, current, is_open, is_within_picture, picture_if_whole, pictures}
use Rattle.vx_pic.specs.Counts.{fits_count, begins_anew, kind_of, is_changed}
use Rattle.vx_pic.specs.Rules.{Readers, are_stored, unit_size, picture_size, picture_limit, message_limit, kind_at, starts_elsewhere}
use Rattle.vx_pic.specs.Rules.{opened_as, opens, opened, begins, joins, first, follows, alone, reads_as, reads}
use Rattle.vx_pic.specs.Streams.{all_read, one_more, read_on, unless_refused}
use Rattle.vx_pic.specs.Alike.{IsNext}
use Rattle.vx_pic.specs.Written.{Set, an_sps, a_pps, an_aps, set_reading, SetUnit, SeiUnit, Plan, planned_slices, messages_sent, eos_unit}
use Rattle.vx_pic.specs.Written.{eos_units, sei_units, eos_readings, set_readings, sei_readings, header_readings, slice_readings}
use Rattle.vx_pic.specs.Written.{readings_of, readings_after, before_slices, planned, Rests, IsPlain, AreInOrder, AreInForce, Says, HeaderReads}
use Rattle.vx_pic.specs.Written.{HeadReads, SliceReads, SeiReads, PlanReadsAgain}
use Rattle.vx_pic.proofs.Going.{goes_on}

-- ---- tests

differ : (a b : ℕ) → a ≡ b → not (a == b) ≡ false
differ a b is = elim (eqb_tells a b) [ inl same ↦ ap not same.0 | inr other ↦ absurd (other.1 is) ]

over : (most n : ℕ) → n ≤ most → nat_lt most n ≡ false
over most n h = grind (arith, nat_tests)

reaches : (n at : ℕ) → at < n → nat_le n at ≡ false
reaches n at h = grind (arith, nat_tests)

both : (a b : Bool) → (a ≡ true → b ≡ false) → (a && b) ≡ false
both true b h = h refl
both false b h = refl

-- ---- readings behind others

pub after_append : (before rs ss : List Reading) → readings_after before (rs ++ ss) ≡ readings_after (readings_after before rs) ss
after_append before [] ss = refl
after_append before (r ∷ rs) ss = after_append (r ∷ before) rs ss

-- units are read as this
abbrev AreRead : Readers → List Reading → List (List ℕ) → List Reading → Type 0
AreRead R before units readings = read_on R before units ≡ all_read (readings_after before readings)

read_append : (R : Readers) (before : List Reading) (units more : List (List ℕ)) (rs ss : List Reading) → AreRead R before units rs
    → AreRead R (readings_after before rs) more ss → AreRead R before (units ++ more) (rs ++ ss)
read_append R before units more rs ss read then =
    goes_on R before units more
    ∙ ap (λ o. unless_refused o.refusal o.before (λ b. read_on R b more)) read
    ∙ then
    ∙ ap all_read (sym (after_append before rs ss))

read_one : (R : Readers) (before : List Reading) (u : List ℕ) (units : List (List ℕ)) (r : Reading) (rs : List Reading) → reads R before u ≡ Ok r
    → AreRead R (r ∷ before) units rs → AreRead R before (u ∷ units) (r ∷ rs)
read_one R before u units r rs is more = ap (λ x. one_more x before (λ b. read_on R b units)) is ∙ more

-- ---- what readings of sets and messages leave as it is

record Same (a b : List Reading) : Type 0 where
  current : current a ≡ current b
  pictures : pictures a ≡ pictures b
  ended : is_ended a ≡ is_ended b
  gathered : gathered a ≡ gathered b

one_set : (s : Set) (before : List Reading) → Same (set_reading s ∷ before) before
one_set (an_sps s) before = record { current = refl; pictures = refl; ended = refl; gathered = refl }
one_set (a_pps p) before = record { current = refl; pictures = refl; ended = refl; gathered = refl }
one_set (an_aps a) before = record { current = refl; pictures = refl; ended = refl; gathered = refl }

sets_keep : (before : List Reading) (sent : List SetUnit) → Same (readings_after before (set_readings sent)) before
sets_keep before [] = record { current = refl; pictures = refl; ended = refl; gathered = refl }
sets_keep before (x ∷ sent) =
    let one = one_set x.set before in
    let more = sets_keep (set_reading x.set ∷ before) sent in
    record {
      current = more.current ∙ one.current;
      pictures = more.pictures ∙ one.pictures;
      ended = more.ended ∙ one.ended;
      gathered = more.gathered ∙ one.gathered;
    }

closed_within : (c : Current) → is_open c ≡ false → is_within_picture c ≡ false
closed_within nothing h = refl
closed_within (headed b) h = refl
closed_within (going p) h = h

-- ---- sets and messages

-- a unit of the base layer is read by its class
plain : (R : Readers) (before : List Reading) (u : List ℕ) (c : Class) → IsPlain u c → reads R before u ≡ reads_as R c before u
plain R before u c is = rw (is.reserved, differ (nuh_layer_id u) 0 is.layer, is.class) refl

set_read : (R : Readers) (before : List Reading) (x : SetUnit) → is_within_picture (current before) ≡ false → Says R x.unit x.set
    → reads R before x.unit ≡ Ok (set_reading x.set)
set_read R before x closed says = one x.unit x.set closed says
  where
    one : (u : List ℕ) (s : Set) → is_within_picture (current before) ≡ false → Says R u s → reads R before u ≡ Ok (set_reading s)
    one u (an_sps s) closed says = plain R before u sps_unit says.0 ∙ rw (closed, says.1) refl
    one u (a_pps p) closed says = plain R before u pps_unit says.0 ∙ rw (closed, says.1) refl
    one u (an_aps a) closed says = plain R before u prefix_aps says.0 ∙ rw (closed, says.1) refl

sets_read : (R : Readers) (before : List Reading) (sent : List SetUnit) → is_within_picture (current before) ≡ false
    → AllByRecursion (λ x. Says R x.unit x.set) sent → AreRead R before (map (λ x. x.unit) sent) (set_readings sent)
sets_read R before [] closed says = refl
sets_read R before (x ∷ sent) closed says =
    read_one R before x.unit (map (λ y. y.unit) sent) (set_reading x.set) (set_readings sent) (set_read R before x closed says.0)
    (sets_read R (set_reading x.set ∷ before) sent (ap is_within_picture (one_set x.set before).current ∙ closed) says.1)

sei_read : (R : Readers) (before : List Reading) (sei : Option SeiUnit) → is_within_picture (current before) ≡ false → gathered before ≡ [] → SeiReads R sei
    → AreRead R before (sei_units sei) (sei_readings sei)
sei_read R before None closed none is = refl
sei_read R before (Some s) closed none is =
    read_one R before s.unit [] (messages_read s.messages) []
    (plain R before s.unit sei_unit is.0 ∙ rw (closed, is.1, none, over message_limit (spelled_length s.messages) is.2) refl)
    refl

eos_plain : IsPlain eos_unit end_unit
unfolding is_reserved class_of
eos_plain = record { reserved = refl; layer = refl; class = refl }

eos_read : (R : Readers) (before : List Reading) (after_eos : Bool) → is_open (current before) ≡ false
    → AreRead R before (eos_units after_eos) (eos_readings after_eos)
eos_read R before false closed = refl
eos_read R before true closed =
    read_one R before eos_unit [] sequence_ended []
    (plain R before eos_unit end_unit eos_plain ∙ rw closed refl)
    refl

-- ---- the header

header_begins : (R : Readers) (before : List Reading) (u : List ℕ) (unit : Option (List ℕ)) (b : Begun) → HeaderReads R (is_none unit) u b
    → b.unit ≡ unit → stored_pps (pps_id b.pps) before ≡ Some b.pps → stored_sps (referred_sps b.pps) before ≡ Some b.sps
    → begins R before u unit ≡ Ok b
header_begins R before u unit b is same pps sps = rw (is.referred, pps, sps, ap not is.size, is.layout, is.header, is.tid, sym same) refl

-- ---- slices

stored_all : (before : List Reading) (slots : List Slot) → AreInForce before slots → are_stored before slots ≡ Ok tt
stored_all before [] is = refl
stored_all before (slot ∷ slots) is = rw is.0 (stored_all before slots is.1)

slice_joins : (R : Readers) (p : Picture) (s : Slice) → SliceReads R p.begun p.kind.nal_type s → slices_before p.begun.layout s.header ≡ length p.slices
    → AreInForce p.before (names_of p.begun.pps p.begun.header s.header) → picture_size p + length s.unit ≤ picture_limit → joins R p s.unit ≡ Ok s
slice_joins R p s is order bodies size =
    rw (
      differ (temporal_id s.unit) p.begun.temporal_id is.tid,
      differ (nal_unit_type s.unit) p.kind.nal_type is.type,
      is.header,
      differ (slices_before p.begun.layout s.header) (length p.slices) order,
      stored_all p.before (names_of p.begun.pps p.begun.header s.header) bodies,
      ap not is.qp,
      reaches (length s.unit) s.header.payload is.payload,
      over picture_limit (picture_size p + length s.unit) size,
    ) refl

-- ---- the kind

opened_ok : (elsewhere changed : Bool) (k : Kind) → elsewhere ≡ false → (not k.clvss && changed) ≡ false → fits_count k.poc ≡ true
    → opened_as elsewhere changed k ≡ Ok k
opened_ok elsewhere changed k starts same fits = rw (starts, same, ap not fits) refl

picture_opens : (before : List Reading) (earlier : List Picture) (b : Begun) (u : List ℕ) (k : Kind) → pictures before ≡ earlier
    → is_ended before ≡ k.after_eos → nal_unit_type u ≡ k.nal_type → temporal_id u ≡ k.temporal_id → IsNext earlier b k → opens before b u ≡ Ok k
picture_opens before earlier b u k pics ended type tid next =
    let kind : kind_at before b u ≡ k =
    ap (λ ps. kind_of ps (is_ended before) b (nal_unit_type u) (temporal_id u)) pics
    ∙ ap (λ e. kind_of earlier e b (nal_unit_type u) (temporal_id u)) ended
    ∙ ap (λ t. kind_of earlier k.after_eos b t (temporal_id u)) type
    ∙ ap (kind_of earlier k.after_eos b k.nal_type) tid
    ∙ sym next.kind in
    let starts : starts_elsewhere before u ≡ false =
    ap (λ ps. begins_anew ps (is_ended before) && not (is_irap_or_gdr (nal_unit_type u))) pics
    ∙ ap (λ e. begins_anew earlier e && not (is_irap_or_gdr (nal_unit_type u))) ended
    ∙ ap (λ t. begins_anew earlier k.after_eos && not (is_irap_or_gdr t)) type
    ∙ both (begins_anew earlier k.after_eos) (not (is_irap_or_gdr k.nal_type)) (λ h. ap not (next.begins h)) in
    let same : (not k.clvss && is_changed (pictures before) b.sps) ≡ false =
    ap (λ ps. not k.clvss && is_changed ps b.sps) pics
    ∙ both (not k.clvss) (is_changed earlier b.sps) (λ h. next.same (not-true k.clvss h)) in
    ap (opened_as (starts_elsewhere before u) (is_changed (pictures before) b.sps)) kind
    ∙ opened_ok (starts_elsewhere before u) (is_changed (pictures before) b.sps) k starts same next.fits

-- ---- slices are read

first_read : (R : Readers) (before : List Reading) (b : Begun) (k : Kind) (s : Slice) → opens before b s.unit ≡ Ok k
    → joins R (opened before b k) s.unit ≡ Ok s → first R before b s.unit ≡ Ok (first_slice b k s)
first_read R before b k s opens joins_it =
    ap (λ x. x >>= λ kind. joins R (opened before b kind) s.unit >>= λ t. Ok (first_slice b kind t)) opens
    ∙ ap (λ x. x >>= λ t. Ok (first_slice b k t)) joins_it

first_follows : (R : Readers) (before : List Reading) (b : Begun) (u : List ℕ) (r : Reading) → IsPlain u slice_unit → has_header_inside u ≡ false
    → current before ≡ headed b → first R before b u ≡ Ok r → reads R before u ≡ Ok r
first_follows R before b u r is outside cur read =
    plain R before u slice_unit is
    ∙ ap (λ i. cond i (alone R before u) (follows R before (current before) u)) outside
    ∙ ap (λ c. follows R before c u) cur
    ∙ read

first_alone : (R : Readers) (before : List Reading) (b : Begun) (u : List ℕ) (r : Reading) → IsPlain u slice_unit → has_header_inside u ≡ true
    → is_open (current before) ≡ false → begins R before u None ≡ Ok b → length b.layout.slices ≤ 1 → first R before b u ≡ Ok r
    → reads R before u ≡ Ok r
first_alone R before b u r is inside closed begun one read =
    plain R before u slice_unit is
    ∙ ap (λ i. cond i (alone R before u) (follows R before (current before) u)) inside
    ∙ rw (closed, begun, over 1 (length b.layout.slices) one) read

further_read : (R : Readers) (before : List Reading) (p : Picture) (s : Slice) → IsPlain s.unit slice_unit → has_header_inside s.unit ≡ false
    → current before ≡ going p → is_whole p ≡ false → joins R p s.unit ≡ Ok s → reads R before s.unit ≡ Ok (next_slice s)
further_read R before p s is outside cur part joins_it =
    plain R before s.unit slice_unit is
    ∙ ap (λ i. cond i (alone R before s.unit) (follows R before (current before) s.unit)) outside
    ∙ ap (λ c. follows R before c s.unit) cur
    ∙ rw part (ap (λ x. x >>= λ t. Ok (next_slice t)) joins_it)

unequal : (a b : ℕ) → a < b → (a == b) ≡ false
unequal a b h = grind (arith, nat_tests)

-- These units were read as this, and the picture is q so far.
record Grown (R : Readers) (before : List Reading) (units : List (List ℕ)) (rs : List Reading) (q : Picture) (earlier : List Picture) : Type 0 where
  read : AreRead R before units rs
  cur : current (readings_after before rs) ≡ going q
  pics : pictures (readings_after before rs) ≡ picture_if_whole (going q) ++ earlier
  ended : is_ended (readings_after before rs) ≡ false
  none : gathered (readings_after before rs) ≡ []

abbrev Bodies : Picture → List Slice → Type 0
Bodies p more = AllByRecursion (λ s. AreInForce p.before (names_of p.begun.pps p.begun.header s.header)) more

slices_read : (R : Readers) (before : List Reading) (p q : Picture) (more : List Slice) (earlier : List Picture) → current before ≡ going p
    → pictures before ≡ picture_if_whole (going p) ++ earlier → is_ended before ≡ false → gathered before ≡ []
    → AllByRecursion (SliceReads R p.begun p.kind.nal_type) more → AllByRecursion (λ s. has_header_inside s.unit ≡ false) more
    → AreInOrder p.begun (length p.slices) more → Bodies p more → length p.slices + length more ≡ length p.begun.layout.slices
    → picture_size p + sum_by (λ s. length s.unit) more ≤ picture_limit → q ≡ record p { slices = p.slices ++ more }
    → Grown R before (map (λ s. s.unit) more) (map next_slice more) q earlier
slices_read R before p q [] earlier cur pics ended none each outside order bodies all size is =
    let same : q ≡ p = is ∙ ap (λ ss. record p { slices = ss }) (append-nil p.slices) in
    record {
      read = refl;
      cur = cur ∙ ap going (sym same);
      pics = pics ∙ ap (λ x. picture_if_whole (going x) ++ earlier) (sym same);
      ended = ended;
      none = none;
    }
slices_read R before p q (s ∷ more) earlier cur pics ended none each outside order bodies all size is =
    let grown : Picture = record p { slices = p.slices ++ s ∷ [] } in
    let sizes = sum_by-cons (λ (t : Slice). length t.unit) s more in
    let pushed = sum_by_push (λ (t : Slice). length t.unit) p.slices s in
    let longer : length (p.slices ++ s ∷ []) ≡ length p.slices + 1 = length-append p.slices (s ∷ []) in
    let part : is_whole p ≡ false = unequal (length p.slices) (length p.begun.layout.slices) (omega (arith, all)) in
    let joins_it = slice_joins R p s each.0 order.0 bodies.0 (omega (arith, size, sizes)) in
    let read = further_read R before p s each.0.plain outside.0 cur part joins_it in
    let P : ℕ → Type 0 = λ n. AreInOrder p.begun n more in
    let rest = slices_read R (next_slice s ∷ before) grown q more earlier
    (ap (with_slice s) cur)
    (ap (λ c. picture_if_whole (with_slice s c) ++ pictures before) cur
    ∙ ap (λ ps. picture_if_whole (going grown) ++ ps) (pics ∙ ap (λ b. cond b (p ∷ []) [] ++ earlier) part))
    refl refl each.1 outside.1 (subst P (sym longer) order.1) bodies.1
    (omega (arith, longer, all))
    (omega (arith, size, sizes, pushed))
    (is ∙ ap (λ ss. record p { slices = ss }) (sym (append_assoc p.slices (s ∷ []) more))) in
    record {
      read = read_one R before s.unit (map (λ t. t.unit) more) (next_slice s) (map next_slice more) read rest.read;
      cur = rest.cur;
      pics = rest.pics;
      ended = rest.ended;
      none = rest.none;
    }

-- ---- a plan

-- What holds before the header of a plan.
record Ready (b : List Reading) (earlier : List Picture) (p : Plan) : Type 0 where
  closed : is_open (current b) ≡ false
  pics : pictures b ≡ earlier
  ended : is_ended b ≡ p.kind.after_eos
  messages : gathered b ≡ messages_sent p.sei

-- one picture more
abbrev done : List Reading → Plan → Picture
done b p = record { begun = p.begun; kind = p.kind; before = b; slices = planned_slices p }

whole : (b : List Reading) (p : Plan) → length (planned_slices p) ≡ length p.begun.layout.slices → is_whole (done b p) ≡ true
whole b p all = elim (eqb_tells (length (planned_slices p)) (length p.begun.layout.slices)) [ inl same ↦ same.0 | inr other ↦ absurd (other.1 all) ]

-- the slices, behind the readings `b`, where the first one is read
tail_read : (R : Readers) (b : List Reading) (p : Plan) (earlier : List Picture) → pictures b ≡ earlier
    → reads R b p.first.unit ≡ Ok (first_slice p.begun p.kind p.first)
    → AllByRecursion (SliceReads R p.begun p.kind.nal_type) (planned_slices p) → AllByRecursion (λ s. has_header_inside s.unit ≡ false) p.more
    → AreInOrder p.begun 0 (planned_slices p) → AllByRecursion (λ s. AreInForce b (names_of p.begun.pps p.begun.header s.header)) (planned_slices p)
    → length (planned_slices p) ≡ length p.begun.layout.slices → unit_size p.begun.unit + sum_by (λ s. length s.unit) (planned_slices p) ≤ picture_limit
    → Grown R b (map (λ s. s.unit) (planned_slices p)) (slice_readings p) (done b p) earlier
tail_read R b p earlier pics read each outside order bodies all size =
    let one : Picture = record { begun = p.begun; kind = p.kind; before = b; slices = p.first ∷ [] } in
    let sizes = sum_by-cons (λ (t : Slice). length t.unit) p.first p.more in
    let rest = slices_read R (first_slice p.begun p.kind p.first ∷ b) one (done b p) p.more earlier refl
    (ap (λ ps. picture_if_whole (going one) ++ ps) pics)
    refl refl each.1 outside order.1 bodies.1 (omega (arith, all)) (omega (arith, size, sizes)) refl in
    record {
      read = read_one R b p.first.unit (map (λ t. t.unit) p.more) (first_slice p.begun p.kind p.first) (map next_slice p.more) read rest.read;
      cur = rest.cur;
      pics = rest.pics;
      ended = rest.ended;
      none = rest.none;
    }

-- the header and the slices, behind the readings `b`
head_read : (R : Readers) (b : List Reading) (p : Plan) (earlier : List Picture) (unit : Option (List ℕ)) → p.begun.unit ≡ unit → Ready b earlier p
    → stored_pps (pps_id p.begun.pps) b ≡ Some p.begun.pps → stored_sps (referred_sps p.begun.pps) b ≡ Some p.begun.sps
    → HeadReads R unit p.begun p.first
    → AllByRecursion (SliceReads R p.begun p.kind.nal_type) (planned_slices p) → AllByRecursion (λ s. has_header_inside s.unit ≡ false) p.more
    → AreInOrder p.begun 0 (planned_slices p) → AllByRecursion (λ s. AreInForce b (names_of p.begun.pps p.begun.header s.header)) (planned_slices p)
    → length (planned_slices p) ≡ length p.begun.layout.slices → unit_size p.begun.unit + sum_by (λ s. length s.unit) (planned_slices p) ≤ picture_limit
    → p.kind.temporal_id ≡ p.begun.temporal_id → IsNext earlier p.begun p.kind
    → Grown R b (option_to_list unit ++ map (λ s. s.unit) (planned_slices p)) (header_readings unit p.begun ++ slice_readings p)
    (done (readings_after b (header_readings unit p.begun)) p) earlier
head_read R b p earlier None is ready pps sps head each outside order bodies all size tid next =
    let opens_it = picture_opens b earlier p.begun p.first.unit p.kind ready.pics ready.ended each.0.type (each.0.tid ∙ sym tid) next in
    let sizes = sum_by-cons (λ (t : Slice). length t.unit) p.first p.more in
    let joins_it = slice_joins R (opened b p.begun p.kind) p.first each.0 order.0 bodies.0 (omega (arith, size, sizes)) in
    let begun = header_begins R b p.first.unit None p.begun head.0 is pps sps in
    let read = first_alone R b p.begun p.first.unit (first_slice p.begun p.kind p.first) each.0.plain head.1 ready.closed begun head.2
    (first_read R b p.begun p.kind p.first opens_it joins_it) in
    tail_read R b p earlier ready.pics read each outside order bodies all size
head_read R b p earlier (Some u) is ready pps sps head each outside order bodies all size tid next =
    let begun = header_begins R b u (Some u) p.begun head.1 is pps sps in
    let header : reads R b u ≡ Ok (header_read p.begun) = plain R b u header_unit head.0 ∙ rw (ready.closed, begun) refl in
    let h : List Reading = header_read p.begun ∷ b in
    let opens_it = picture_opens h earlier p.begun p.first.unit p.kind ready.pics ready.ended each.0.type (each.0.tid ∙ sym tid) next in
    let sizes = sum_by-cons (λ (t : Slice). length t.unit) p.first p.more in
    let joins_it = slice_joins R (opened h p.begun p.kind) p.first each.0 order.0 bodies.0 (omega (arith, size, sizes)) in
    let read = first_follows R h p.begun p.first.unit (first_slice p.begun p.kind p.first) each.0.plain head.2 refl
    (first_read R h p.begun p.kind p.first opens_it joins_it) in
    let rest = tail_read R h p earlier ready.pics read each outside order bodies all size in
    record {
      read = read_one R b u (map (λ t. t.unit) (planned_slices p)) (header_read p.begun) (slice_readings p) header rest.read;
      cur = rest.cur;
      pics = rest.pics;
      ended = rest.ended;
      none = rest.none;
    }

eos_ready : (before : List Reading) (e : Bool) → Rests before → (is_open (current (readings_after before (eos_readings e))) ≡ false)
    × (pictures (readings_after before (eos_readings e)) ≡ pictures before) × (is_ended (readings_after before (eos_readings e)) ≡ e)
    × (gathered (readings_after before (eos_readings e)) ≡ [])
eos_ready before true rests = (rests.closed, refl, refl, rests.none)
eos_ready before false rests = (rests.closed, refl, rests.goes_on, rests.none)

sei_ready : (b : List Reading) (sei : Option SeiUnit) → gathered b ≡ [] → (is_open (current (readings_after b (sei_readings sei))) ≡ is_open (current b))
    × (pictures (readings_after b (sei_readings sei)) ≡ pictures b) × (is_ended (readings_after b (sei_readings sei)) ≡ is_ended b)
    × (gathered (readings_after b (sei_readings sei)) ≡ messages_sent sei)
sei_ready b None none = (refl, refl, refl, none)
sei_ready b (Some s) none = (refl, refl, refl, ap (λ ms. ms ++ s.messages) none)

header_keeps : (b : List Reading) (unit : Option (List ℕ)) (begun : Begun) → gathered (readings_after b (header_readings unit begun)) ≡ gathered b
header_keeps b None begun = refl
header_keeps b (Some u) begun = refl

pub plan_reads_again : (R : Readers) → PlanReadsAgain R
plan_reads_again R before p rests is =
    let b1 = readings_after before (eos_readings p.kind.after_eos) in
    let b2 = readings_after b1 (set_readings p.sent) in
    let b3 = readings_after b2 (sei_readings p.sei) in
    let eos = eos_ready before p.kind.after_eos rests in
    let sets = sets_keep b1 p.sent in
    let closed : is_open (current b2) ≡ false = ap is_open sets.current ∙ eos.0 in
    let none : gathered b2 ≡ [] = sets.gathered ∙ eos.3 in
    let sei = sei_ready b2 p.sei none in
    let ready : Ready b3 (pictures before) p = record {
      closed = sei.0 ∙ closed;
      pics = sei.1 ∙ sets.pictures ∙ eos.1;
      ended = sei.2 ∙ sets.ended ∙ eos.2;
      messages = sei.3;
    } in
    let head = head_read R b3 p (pictures before) p.begun.unit refl ready is.pps is.sps is.head is.slices is.outside is.order is.bodies is.all
    is.size is.tid is.next in
    let eos_units_read = eos_read R before p.kind.after_eos rests.closed in
    let sets_units_read = sets_read R b1 p.sent (closed_within (current b1) eos.0) is.sets in
    let sei_units_read = sei_read R b2 p.sei (closed_within (current b2) closed) none is.sei in
    let behind_sei = read_append R b2 (sei_units p.sei) (option_to_list p.begun.unit ++ map (λ s. s.unit) (planned_slices p))
    (sei_readings p.sei) (header_readings p.begun.unit p.begun ++ slice_readings p) sei_units_read head.read in
    let behind_sets = read_append R b1 (map (λ x. x.unit) p.sent) (sei_units p.sei ++ (option_to_list p.begun.unit ++ map (λ s. s.unit) (planned_slices p)))
    (set_readings p.sent) (sei_readings p.sei ++ (header_readings p.begun.unit p.begun ++ slice_readings p)) sets_units_read behind_sei in
    let read = read_append R before (eos_units p.kind.after_eos)
    (map (λ x. x.unit) p.sent ++ (sei_units p.sei ++ (option_to_list p.begun.unit ++ map (λ s. s.unit) (planned_slices p))))
    (eos_readings p.kind.after_eos) (set_readings p.sent ++ (sei_readings p.sei ++ (header_readings p.begun.unit p.begun ++ slice_readings p)))
    eos_units_read behind_sets in
    let tail = header_readings p.begun.unit p.begun ++ slice_readings p in
    let at : readings_after before (readings_of p) ≡ readings_after b3 tail =
    after_append before (eos_readings p.kind.after_eos) (set_readings p.sent ++ (sei_readings p.sei ++ tail))
    ∙ after_append b1 (set_readings p.sent) (sei_readings p.sei ++ tail)
    ∙ after_append b2 (sei_readings p.sei) tail in
    let all = whole (before_slices before p) p is.all in
    record {
      read = read;
      one_more = ap pictures at ∙ head.pics ∙ ap (λ b. cond b (planned before p ∷ []) [] ++ pictures before) all;
      messages = header_keeps b3 p.begun.unit p.begun ∙ ready.messages;
      rests = record {
        closed = ap (λ b. is_open (current b)) at ∙ ap is_open head.cur ∙ ap not all;
        goes_on = ap is_ended at ∙ head.ended;
        none = ap gathered at ∙ head.none;
      };
    }
