-- The pictures of units are finished.
use Rattle.std.proofs.Common.{◌≡◌, ◌⊎◌, ℕ, ◌+◌, ◌<◌, ◌≤◌, Bool, true, false, not, cond, ◌&&◌, ◌||◌, List, [], ◌∷◌, ◌++◌, length, refl, sym, ◌∙◌, ap, subst, inl, inr, arith}
use Rattle.std.proofs.Common.{ok_or, Option, Some, None, Result, Ok, Err}
use Rattle.std.specs.Prelude.{◌==◌, nat_le, nat_lt, is_none}
use Rattle.std.specs.Option.{option_or}
use Rattle.std.specs.List.{AllByRecursion}
use Rattle.std.proofs.lemmas.Bool.{cases_Bool}
use Rattle.std.proofs.lemmas.Bool.Decides.{nat_tests, eqb_tells}
use Rattle.std.proofs.lemmas.List.Sums.{sum_by_push}
use Rattle.vx_bits.specs.declared.list.Item.{Item}
use Rattle.vx_bits.specs.declared.refusal.Refusal.{Refusal}
use Rattle.vx_bits.specs.declared.refusal.Refusal.TheVariants.{Profile}
use Rattle.vx_bits.specs.declared.rules.TheConstants as rules
use Rattle.vx_aps.specs.declared.aps.Aps.{Aps}
use Rattle.vx_annexb.specs.NalUnit.{nal_unit_type, nuh_layer_id}
use Rattle.vx_sei.specs.declared.message.Message.{Message}
use Rattle.vx_sei.specs.Sei.{spelled_length}
use Rattle.vx_pic.specs.declared.kind.Kind.{Kind}
use Rattle.vx_pic.specs.declared.sets.TheConstants as sets
use Rattle.vx_pic.specs.Answers.{◌>>=◌, refuse_if}
use Rattle.vx_pic.specs.Units.{is_reserved, temporal_id, rbsp_of, has_header_inside, is_irap_or_gdr, is_idr, is_cra_or_gdr, Class, other_unit, vps_unit, sps_unit, pps_unit, prefix_aps, suffix_aps, header_unit, slice_unit, end_unit, sei_unit, class_of}
use Rattle.vx_pic.specs.Sets.{SliceHeader, Slot, sps_id, pps_id, referred_sps, same_size, slices_before, names_of, slice_qp, is_qp}
use Rattle.vx_pic.specs.Readings.{Begun, Slice, Reading, dropped, vps_read, sps_read, pps_read, aps_read, messages_read, header_read, first_slice, next_slice, sequence_ended, latest_given, sps_in, pps_in, stored_sps, stored_pps, stored_aps, is_ended, gathered, Picture, is_whole, Current, nothing, headed, going, with_slice, current, is_open, is_within_picture, picture_if_whole, pictures}
use Rattle.vx_pic.specs.Counts.{fits_count, count, is_empty, begins_anew, kind_of, is_changed}
use Rattle.vx_pic.specs.Rules.{Readers, missing, are_stored, picture_size, picture_limit, message_limit, aps_reading, kind_at, starts_elsewhere, opens, opened, gathers, begins, joins, follows, alone, reads_as, reads}
use Rattle.vx_pic.specs.Streams.{StreamReading, one_more, read_on}
use Rattle.vx_pic.specs.Alike.{IsNext}
use Rattle.vx_pic.specs.Written.{IsPlain, AreInOrder, AreInForce, HeaderReads, HeadReads, SliceReads}
use Rattle.vx_pic.specs.Finished.{IsSoundPicture, AreFinished, PicturesAreFinished}

-- ---- what an answer tells of the steps

pub then_told : {A B : Type 0} (x : Result A Refusal) (f : A → Result B Refusal) (y : B) → (x >>= f) ≡ Ok y → (a : A) × (x ≡ Ok a) × (f a ≡ Ok y)
then_told (Ok a) f y is = (a, refl, is)
then_told (Err r) f y is = absurd (cc)

pub passed : {B : Type 0} (b : Bool) (r : Refusal) (f : Unit {0} → Result B Refusal) (y : B) → (refuse_if b r >>= f) ≡ Ok y → (b ≡ false) × (f tt ≡ Ok y)
passed true r f y is = absurd (cc)
passed false r f y is = (refl, is)

equal : (a b : ℕ) → not (a == b) ≡ false → a ≡ b
equal a b is = elim (eqb_tells a b) [ inl same ↦ same.1 | inr other ↦ let e : true ≡ false = sym (ap not other.0) ∙ is in absurd (cc) ]

at_most : (most n : ℕ) → nat_lt most n ≡ false → n ≤ most
at_most most n is = grind (arith, nat_tests)

below : (n at : ℕ) → nat_le n at ≡ false → at < n
below n at is = grind (arith, nat_tests)

is_true : (b : Bool) → not b ≡ false → b ≡ true
is_true true h = refl
is_true false h = absurd (cc)

second : (a b : Bool) → (a && b) ≡ false → a ≡ true → b ≡ false
second true b h is = h
second false b h is = absurd (cc)

-- ---- a slice that joins

one_stored : (b : Bool) (r : Refusal) (x : Result (Unit {0}) Refusal) → cond b (Err r) x ≡ Ok tt → (b ≡ false) × (x ≡ Ok tt)
one_stored true r x is = absurd (cc)
one_stored false r x is = (refl, is)

all_stored : (before : List Reading) (slots : List Slot) → are_stored before slots ≡ Ok tt → AreInForce before slots
all_stored before [] is = tt
all_stored before (slot ∷ slots) is =
    let one = one_stored (is_none (stored_aps slot.kind slot.id before)) (missing slot.kind slot.id) (are_stored before slots) is in
    (one.0, all_stored before slots one.1)

record Joined (R : Readers) (p : Picture) (u : List ℕ) (s : Slice) : Type 0 where
  unit : s.unit ≡ u
  tid : temporal_id s.unit ≡ p.begun.temporal_id
  type : nal_unit_type s.unit ≡ p.kind.nal_type
  header : R.slice p.kind.nal_type p.begun s.unit ≡ Ok s.header
  place : slices_before p.begun.layout s.header ≡ length p.slices
  bodies : AreInForce p.before (names_of p.begun.pps p.begun.header s.header)
  qp : is_qp p.begun.sps (slice_qp p.begun.pps p.begun.header s.header) ≡ true
  payload : s.header.payload < length s.unit
  size : picture_size p + length s.unit ≤ picture_limit

joined : (R : Readers) (p : Picture) (u : List ℕ) (s : Slice) → joins R p u ≡ Ok s → Joined R p u s
joined R p u s is =
    let tid = passed (not (temporal_id u == p.begun.temporal_id)) _ _ s is in
    let type = passed (not (nal_unit_type u == p.kind.nal_type)) _ _ s tid.1 in
    let header = then_told (R.slice p.kind.nal_type p.begun u) _ s type.1 in
    let h : SliceHeader = header.0 in
    let place = passed (not (slices_before p.begun.layout h == length p.slices)) _ _ s header.2 in
    let bodies = then_told (are_stored p.before (names_of p.begun.pps p.begun.header h)) _ s place.1 in
    let qp = passed (not (is_qp p.begun.sps (slice_qp p.begun.pps p.begun.header h))) _ _ s bodies.2 in
    let payload = passed (nat_le (length u) h.payload) _ _ s qp.1 in
    let size = passed (nat_lt picture_limit (picture_size p + length u)) _ _ s payload.1 in
    let told : Slice = record { unit = u; header = h } in
    let same : told ≡ s = let e = size.1 in cc in
    let P : Slice → Type 0 = Joined R p u in
    subst P same (record {
      unit = refl;
      tid = equal (temporal_id u) p.begun.temporal_id tid.0;
      type = equal (nal_unit_type u) p.kind.nal_type type.0;
      header = header.1;
      place = equal (slices_before p.begun.layout h) (length p.slices) place.0;
      bodies = all_stored p.before (names_of p.begun.pps p.begun.header h) bodies.1;
      qp = is_true (is_qp p.begun.sps (slice_qp p.begun.pps p.begun.header h)) qp.0;
      payload = below (length u) h.payload payload.0;
      size = at_most picture_limit (picture_size p + length u) size.0;
    })

-- ---- a picture that opens

-- the kind, by whether the picture begins anew, and whether a sequence ended before it
abbrev kind_with : List Picture → Begun → ℕ → ℕ → Bool → Bool → Kind
kind_with ps b t tid anew ended = record {
  nal_type = t;
  temporal_id = tid;
  clvss = is_idr t || (is_cra_or_gdr t && anew);
  after_eos = ended;
  poc = count ps b (is_idr t || (is_cra_or_gdr t && anew));
}

same_anew : (e m : Bool) → ((e && not m) || m) ≡ (e || m)
same_anew true true = refl
same_anew true false = refl
same_anew false m = refl

same_ended : (e m : Bool) → ((e && not m) && not m) ≡ (e && not m)
same_ended true true = refl
same_ended true false = refl
same_ended false m = refl

-- whether the end of a sequence counts before the first picture makes no difference
marked : (ps : List Picture) (e : Bool) (b : Begun) (t tid : ℕ) → kind_of ps e b t tid ≡ kind_of ps (e && not (is_empty ps)) b t tid
marked ps e b t tid =
    ap (λ a. kind_with ps b t tid a (e && not (is_empty ps))) (sym (same_anew e (is_empty ps)))
    ∙ ap (kind_with ps b t tid ((e && not (is_empty ps)) || is_empty ps)) (sym (same_ended e (is_empty ps)))

not_empty : (e m : Bool) → (e && not m) ≡ true → m ≡ false
not_empty true true h = absurd (cc)
not_empty true false h = refl
not_empty false m h = absurd (cc)

irap : (a i : Bool) → (a && not i) ≡ false → a ≡ true → i ≡ true
irap a i h is = is_true i (second a (not i) h is)

unchanged : (c x : Bool) → (not c && x) ≡ false → c ≡ false → x ≡ false
unchanged c x h is = second (not c) x h (ap not is)

record Opened (before : List Reading) (b : Begun) (u : List ℕ) (k : Kind) : Type 0 where
  type : k.nal_type ≡ nal_unit_type u
  tid : k.temporal_id ≡ temporal_id u
  next : IsNext (pictures before) b k

picture_opened : (before : List Reading) (b : Begun) (u : List ℕ) (k : Kind) → opens before b u ≡ Ok k → Opened before b u k
picture_opened before b u k is =
    let starts = passed (starts_elsewhere before u) _ _ k is in
    let changed = passed (not (kind_at before b u).clvss && is_changed (pictures before) b.sps) _ _ k starts.1 in
    let fit = passed (not (fits_count (kind_at before b u).poc)) _ _ k changed.1 in
    let same : kind_at before b u ≡ k = let e = fit.1 in cc in
    let P : Kind → Type 0 = Opened before b u in
    subst P same (record {
      type = refl;
      tid = refl;
      next = record {
        ends = λ h. not_empty (is_ended before) (is_empty (pictures before)) h;
        kind = marked (pictures before) (is_ended before) b (nal_unit_type u) (temporal_id u);
        begins = λ h. irap (begins_anew (pictures before) (is_ended before)) (is_irap_or_gdr (nal_unit_type u)) starts.0
            (sym (same_anew (is_ended before) (is_empty (pictures before))) ∙ h);
        same = λ h. unchanged (kind_at before b u).clvss (is_changed (pictures before) b.sps) changed.0 h;
        fits = is_true (fits_count (kind_at before b u).poc) fit.0;
      };
    })

-- ---- a header

or_missing : {A : Type 0} (x : Option A) (r : Refusal) (a : A) → ok_or x r ≡ Ok a → x ≡ Some a
or_missing None r a is = absurd (cc)
or_missing (Some b) r a is = cc

pub test_told : {A : Type 0} (b : Bool) (x y : A) → cond b (Some x) None ≡ Some y → (b ≡ true) × (x ≡ y)
test_told true x y is = (refl, cc)
test_told false x y is = absurd (cc)

-- what is found was given by some reading
pub first_or : {A : Type 0} (x y : Option A) (a : A) (P : A → Type 0) → ((b : A) → x ≡ Some b → P b) → (y ≡ Some a → P a) → option_or x y ≡ Some a → P a
first_or None y a P here later is = later is
first_or (Some b) y a P here later is = here a is

given_by : {A : Type 0} (gives : Reading → Option A) (P : A → Type 0) → ((r : Reading) (a : A) → gives r ≡ Some a → P a)
    → (before : List Reading) (a : A) → latest_given gives before ≡ Some a → P a
given_by gives P each [] a is = absurd (cc)
given_by gives P each (r ∷ before) a is =
    first_or (gives r) (latest_given gives before) a P (each r) (given_by gives P each before a) is

sps_given : (id : ℕ) (r : Reading) (s : List Item) → sps_in id r ≡ Some s → id ≡ sps_id s
sps_given id (sps_read t) s is =
    let told = test_told (sps_id t == id) t s is in
    sym (equal (sps_id t) id (ap not told.0)) ∙ ap sps_id told.1
sps_given id dropped s is = absurd (cc)
sps_given id (vps_read v) s is = absurd (cc)
sps_given id (pps_read t) s is = absurd (cc)
sps_given id (aps_read t) s is = absurd (cc)
sps_given id (messages_read t) s is = absurd (cc)
sps_given id (header_read t) s is = absurd (cc)
sps_given id (first_slice b k t) s is = absurd (cc)
sps_given id (next_slice t) s is = absurd (cc)
sps_given id sequence_ended s is = absurd (cc)

pps_given : (id : ℕ) (r : Reading) (s : List Item) → pps_in id r ≡ Some s → id ≡ pps_id s
pps_given id (pps_read t) s is =
    let told = test_told (pps_id t == id) t s is in
    sym (equal (pps_id t) id (ap not told.0)) ∙ ap pps_id told.1
pps_given id dropped s is = absurd (cc)
pps_given id (vps_read v) s is = absurd (cc)
pps_given id (sps_read t) s is = absurd (cc)
pps_given id (aps_read t) s is = absurd (cc)
pps_given id (messages_read t) s is = absurd (cc)
pps_given id (header_read t) s is = absurd (cc)
pps_given id (first_slice b k t) s is = absurd (cc)
pps_given id (next_slice t) s is = absurd (cc)
pps_given id sequence_ended s is = absurd (cc)

pub record HeaderBegun (R : Readers) (before : List Reading) (u : List ℕ) (unit : Option (List ℕ)) (b : Begun) : Type 0 where
  pub unit_is : b.unit ≡ unit
  pub reads : HeaderReads R (is_none unit) u b
  pub refers : referred_sps b.pps ≡ sps_id b.sps
  pub sps : stored_sps (referred_sps b.pps) before ≡ Some b.sps
  pub pps : stored_pps (pps_id b.pps) before ≡ Some b.pps

pub header_begun : (R : Readers) (before : List Reading) (u : List ℕ) (unit : Option (List ℕ)) (b : Begun) → begins R before u unit ≡ Ok b
    → HeaderBegun R before u unit b
header_begun R before u unit b is =
    let id = then_told (R.referred_pps (is_none unit) (rbsp_of u)) _ b is in
    let pps = then_told (ok_or (stored_pps id.0 before) (missing sets.PPS id.0)) _ b id.2 in
    let sps = then_told (ok_or (stored_sps (referred_sps pps.0) before) (missing sets.SPS (referred_sps pps.0))) _ b pps.2 in
    let size = passed (not (same_size sps.0 pps.0)) _ _ b sps.2 in
    let layout = then_told (R.layout sps.0 pps.0) _ b size.1 in
    let header = then_told (R.header (is_none unit) sps.0 pps.0 (rbsp_of u)) _ b layout.2 in
    let told : Begun = record { sps = sps.0; pps = pps.0; layout = layout.0; header = header.0; temporal_id = temporal_id u; unit = unit } in
    let same : told ≡ b = let e = header.2 in cc in
    let this_pps : stored_pps id.0 before ≡ Some pps.0 = or_missing (stored_pps id.0 before) (missing sets.PPS id.0) pps.0 pps.1 in
    let this_sps : stored_sps (referred_sps pps.0) before ≡ Some sps.0 = or_missing (stored_sps (referred_sps pps.0) before) (missing sets.SPS (referred_sps pps.0)) sps.0 sps.1 in
    let has_pps : id.0 ≡ pps_id pps.0 = given_by (pps_in id.0) (λ p. id.0 ≡ pps_id p) (pps_given id.0) before pps.0 this_pps in
    let has_sps : referred_sps pps.0 ≡ sps_id sps.0 =
    given_by (sps_in (referred_sps pps.0)) (λ s. referred_sps pps.0 ≡ sps_id s) (sps_given (referred_sps pps.0)) before sps.0 this_sps in
    let P : Begun → Type 0 = HeaderBegun R before u unit in
    subst P same (record {
      unit_is = refl;
      reads = record {
        referred = id.1 ∙ ap (λ n. Ok n) has_pps;
        size = is_true (same_size sps.0 pps.0) size.0;
        layout = layout.1;
        header = header.1;
        tid = refl;
      };
      refers = has_sps;
      sps = this_sps;
      pps = subst (λ n. stored_pps n before ≡ Some pps.0) has_pps this_pps;
    })

-- ---- one slice more

snoc : {A : Type 0} (P : A → Type 0) (xs : List A) (x : A) → AllByRecursion P xs → P x → AllByRecursion P (xs ++ x ∷ [])
snoc P [] x all one = (one, tt)
snoc P (y ∷ xs) x all one = (all.0, snoc P xs x all.1 one)

order_snoc : (b : Begun) (n : ℕ) (xs : List Slice) (x : Slice) → AreInOrder b n xs → slices_before b.layout x.header ≡ n + length xs
    → AreInOrder b n (xs ++ x ∷ [])
order_snoc b n [] x order place = (place ∙ omega arith, tt)
order_snoc b n (y ∷ xs) x order place = (order.0, order_snoc b (n + 1) xs x order.1 (place ∙ omega arith))

-- the slice that joined was read under the header
slice_was_read : (R : Readers) (p : Picture) (u : List ℕ) (s : Slice) → IsPlain u slice_unit → Joined R p u s → SliceReads R p.begun p.kind.nal_type s
slice_was_read R p u s plain j =
    let P : List ℕ → Type 0 = λ v. IsPlain v slice_unit in
    record { plain = subst P (sym j.unit) plain; tid = j.tid; type = j.type; header = j.header; qp = j.qp; payload = j.payload }

first_sound : (R : Readers) (before : List Reading) (earlier : List Picture) (b : Begun) (k : Kind) (u : List ℕ) (s : Slice) → pictures before ≡ earlier
    → IsPlain u slice_unit → HeadReads R b.unit b s → referred_sps b.pps ≡ sps_id b.sps → Opened before b u k → Joined R (opened before b k) u s
    → spelled_length (gathered before) ≤ message_limit → IsSoundPicture R earlier (record { begun = b; kind = k; before = before; slices = s ∷ [] })
first_sound R before earlier b k u s pics plain head refers o j few =
    let P : List Picture → Type 0 = λ ps. IsNext ps b k in
    record {
      first = s;
      more = [];
      slices = refl;
      head = head;
      refers = refers;
      outside = tt;
      each = (slice_was_read R (opened before b k) u s plain j, tt);
      order = (j.place, tt);
      bodies = (j.bodies, tt);
      size = omega (arith, j.size);
      messages = few;
      tid = o.tid ∙ ap temporal_id (sym j.unit) ∙ j.tid;
      next = subst P pics o.next;
    }

further_sound : (R : Readers) (earlier : List Picture) (p : Picture) (u : List ℕ) (s : Slice) → IsSoundPicture R earlier p → IsPlain u slice_unit
    → has_header_inside u ≡ false → Joined R p u s → IsSoundPicture R earlier (record p { slices = p.slices ++ s ∷ [] })
further_sound R earlier p u s is plain outside j =
    let pushed = sum_by_push (λ (t : Slice). length t.unit) p.slices s in
    record {
      first = is.first;
      more = is.more ++ s ∷ [];
      slices = ap (λ xs. xs ++ s ∷ []) is.slices;
      head = is.head;
      refers = is.refers;
      outside = snoc (λ t. has_header_inside t.unit ≡ false) is.more s is.outside (ap has_header_inside j.unit ∙ outside);
      each = snoc (SliceReads R p.begun p.kind.nal_type) p.slices s is.each (slice_was_read R p u s plain j);
      order = order_snoc p.begun 0 p.slices s is.order (j.place ∙ omega arith);
      bodies = snoc (λ t. AreInForce p.before (names_of p.begun.pps p.begun.header t.header)) p.slices s is.bodies j.bodies;
      size = omega (arith, j.size, pushed);
      messages = is.messages;
      tid = is.tid;
      next = is.next;
    }

-- ---- what is known behind units

record Headed (R : Readers) (b : Begun) : Type 0 where
  unit : List ℕ
  unit_is : b.unit ≡ Some unit
  plain : IsPlain unit header_unit
  reads : HeaderReads R false unit b
  refers : referred_sps b.pps ≡ sps_id b.sps

abbrev Here : Readers → List Picture → Current → Type 0
Here R earlier nothing = Unit {0}
Here R earlier (headed b) = Headed R b
Here R earlier (going p) = IsSoundPicture R earlier p

record Known (R : Readers) (before : List Reading) : Type 0 where
  earlier : List Picture
  all : AreFinished R earlier
  pics : pictures before ≡ picture_if_whole (current before) ++ earlier
  here : Here R earlier (current before)
  few : spelled_length (gathered before) ≤ message_limit

all_of : (R : Readers) (earlier : List Picture) (c : Current) → Here R earlier c → AreFinished R earlier → AreFinished R (picture_if_whole c ++ earlier)
all_of R earlier nothing here all = all
all_of R earlier (headed b) here all = all
all_of R earlier (going p) here all =
    let P : Bool → Type 0 = λ b. AreFinished R (cond b (p ∷ []) [] ++ earlier) in
    elim (cases_Bool (is_whole p)) [ inl h ↦ subst P (sym h) (here, h, all) | inr h ↦ subst P (sym h) all ]

-- a reading that is no header, slice or message leaves it as it is
abbrev Stays : Reading → Type 0
Stays r = (R : Readers) (before : List Reading) → Known R before → Known R (r ∷ before)

dropped_stays : Stays dropped
dropped_stays R before k = record { earlier = k.earlier; all = k.all; pics = k.pics; here = k.here; few = k.few }

vps_stays : (v : List Item) → Stays (vps_read v)
vps_stays v R before k = record { earlier = k.earlier; all = k.all; pics = k.pics; here = k.here; few = k.few }

sps_stays : (s : List Item) → Stays (sps_read s)
sps_stays s R before k = record { earlier = k.earlier; all = k.all; pics = k.pics; here = k.here; few = k.few }

pps_stays : (s : List Item) → Stays (pps_read s)
pps_stays s R before k = record { earlier = k.earlier; all = k.all; pics = k.pics; here = k.here; few = k.few }

aps_stays : (a : Option Aps) → Stays (aps_reading a)
aps_stays None R before k = dropped_stays R before k
aps_stays (Some a) R before k = record { earlier = k.earlier; all = k.all; pics = k.pics; here = k.here; few = k.few }

ended_stays : Stays sequence_ended
ended_stays R before k = record { earlier = k.earlier; all = k.all; pics = k.pics; here = k.here; few = k.few }

messages_known : (R : Readers) (before : List Reading) (ms : List Message) → Known R before → spelled_length (gathered before ++ ms) ≤ message_limit
    → Known R (messages_read ms ∷ before)
messages_known R before ms k few = record { earlier = k.earlier; all = k.all; pics = k.pics; here = k.here; few = few }

header_known : (R : Readers) (before : List Reading) (u : List ℕ) (b : Begun) → Known R before → IsPlain u header_unit → HeaderBegun R before u (Some u) b
    → Known R (header_read b ∷ before)
header_known R before u b k plain h = record {
  earlier = picture_if_whole (current before) ++ k.earlier;
  all = all_of R k.earlier (current before) k.here k.all;
  pics = k.pics;
  here = record { unit = u; unit_is = h.unit_is; plain = plain; reads = h.reads; refers = h.refers };
  few = k.few;
}

no_messages : spelled_length [] ≤ message_limit
unfolding message_limit
no_messages = omega arith

first_known : (R : Readers) (before : List Reading) (b : Begun) (kind : Kind) (u : List ℕ) (s : Slice) → Known R before → IsPlain u slice_unit
    → HeadReads R b.unit b s → referred_sps b.pps ≡ sps_id b.sps → Opened before b u kind → Joined R (opened before b kind) u s
    → Known R (first_slice b kind s ∷ before)
first_known R before b kind u s k plain head refers o j =
    let one : Picture = record { begun = b; kind = kind; before = before; slices = s ∷ [] } in
    record {
      earlier = picture_if_whole (current before) ++ k.earlier;
      all = all_of R k.earlier (current before) k.here k.all;
      pics = ap (λ ps. picture_if_whole (going one) ++ ps) k.pics;
      here = first_sound R before (picture_if_whole (current before) ++ k.earlier) b kind u s k.pics plain head refers o j k.few;
      few = no_messages;
    }

further_known : (R : Readers) (before : List Reading) (p : Picture) (u : List ℕ) (s : Slice) → Known R before → current before ≡ going p
    → is_whole p ≡ false → IsPlain u slice_unit → has_header_inside u ≡ false → Joined R p u s → Known R (next_slice s ∷ before)
further_known R before p u s k cur part plain outside j =
    let grown : Picture = record p { slices = p.slices ++ s ∷ [] } in
    let P : Current → Type 0 = Here R k.earlier in
    record {
      earlier = k.earlier;
      all = k.all;
      pics =
          ap (λ c. picture_if_whole (with_slice s c) ++ pictures before) cur
          ∙ ap (λ ps. picture_if_whole (going grown) ++ ps) (k.pics ∙ ap (λ c. picture_if_whole c ++ k.earlier) cur ∙ ap (λ b. cond b (p ∷ []) [] ++ k.earlier) part)
          ∙ ap (λ c. picture_if_whole (with_slice s c) ++ k.earlier) (sym cur);
      here = subst P (sym (ap (with_slice s) cur)) (further_sound R k.earlier p u s (subst P cur k.here) plain outside j);
      few = no_messages;
    }

-- ---- each unit keeps it

pub chosen : (b : Bool) (x y : Result Reading Refusal) (r : Reading) → cond b x y ≡ Ok r → ((b ≡ true) × (x ≡ Ok r)) ⊎ ((b ≡ false) × (y ≡ Ok r))
chosen true x y r is = inl (refl, is)
chosen false x y r is = inr (refl, is)

abbrev pub answered : Reading → Result Reading Refusal
answered r = Ok r

-- what is read is this
read_as : {R : Readers} {before : List Reading} (a r : Reading) → answered a ≡ answered r → Known R (a ∷ before) → Known R (r ∷ before)
read_as {R} {before} a r is k =
    let same : a ≡ r = cc in
    let P : Reading → Type 0 = λ x. Known R (x ∷ before) in
    subst P same k

head_inside : (R : Readers) (unit : Option (List ℕ)) (u : List ℕ) (b : Begun) (s : Slice) → unit ≡ None → HeaderReads R true u b → s.unit ≡ u
    → has_header_inside u ≡ true → length b.layout.slices ≤ 1 → HeadReads R unit b s
head_inside R None u b s none reads same inside one =
    let P : List ℕ → Type 0 = λ v. HeaderReads R true v b in
    (subst P (sym same) reads, ap has_header_inside same ∙ inside, one)
head_inside R (Some v) u b s none reads same inside one = absurd (cc)

head_outside : (R : Readers) (unit : Option (List ℕ)) (h u : List ℕ) (b : Begun) (s : Slice) → unit ≡ Some h → IsPlain h header_unit
    → HeaderReads R false h b → s.unit ≡ u → has_header_inside u ≡ false → HeadReads R unit b s
head_outside R None h u b s some plain reads same outside = absurd (cc)
head_outside R (Some v) h u b s some plain reads same outside =
    let is : h ≡ v = cc in
    let P : List ℕ → Type 0 = λ w. IsPlain w header_unit × HeaderReads R false w b × (has_header_inside s.unit ≡ false) in
    subst P is (plain, reads, ap has_header_inside same ∙ outside)

alone_known : (R : Readers) (before : List Reading) (u : List ℕ) (r : Reading) → Known R before → IsPlain u slice_unit → has_header_inside u ≡ true
    → alone R before u ≡ Ok r → Known R (r ∷ before)
alone_known R before u r k plain inside is =
    let closed = passed (is_open (current before)) _ _ r is in
    let b = then_told (begins R before u None) _ r closed.1 in
    let h = header_begun R before u None b.0 b.1 in
    let one = passed (nat_lt 1 (length b.0.layout.slices)) _ _ r b.2 in
    let kind = then_told (opens before b.0 u) _ r one.1 in
    let s = then_told (joins R (opened before b.0 kind.0) u) _ r kind.2 in
    let j = joined R (opened before b.0 kind.0) u s.0 s.1 in
    let head = head_inside R b.0.unit u b.0 s.0 h.unit_is h.reads j.unit inside (at_most 1 (length b.0.layout.slices) one.0) in
    read_as {R = R} {before = before} (first_slice b.0 kind.0 s.0) r s.2
    (first_known R before b.0 kind.0 u s.0 k plain head h.refers (picture_opened before b.0 u kind.0 kind.1) j)

follows_known : (R : Readers) (before : List Reading) (c : Current) (u : List ℕ) (r : Reading) → Known R before → current before ≡ c
    → IsPlain u slice_unit → has_header_inside u ≡ false → follows R before c u ≡ Ok r → Known R (r ∷ before)
follows_known R before nothing u r k cur plain outside is = absurd (cc)
follows_known R before (headed b) u r k cur plain outside is =
    let P : Current → Type 0 = Here R k.earlier in
    let h = subst P cur k.here in
    let kind = then_told (opens before b u) _ r is in
    let s = then_told (joins R (opened before b kind.0) u) _ r kind.2 in
    let j = joined R (opened before b kind.0) u s.0 s.1 in
    let head = head_outside R b.unit h.unit u b s.0 h.unit_is h.plain h.reads j.unit outside in
    read_as {R = R} {before = before} (first_slice b kind.0 s.0) r s.2
    (first_known R before b kind.0 u s.0 k plain head h.refers (picture_opened before b u kind.0 kind.1) j)
follows_known R before (going p) u r k cur plain outside is =
    let part = passed (is_whole p) _ _ r is in
    let s = then_told (joins R p u) _ r part.1 in
    read_as {R = R} {before = before} (next_slice s.0) r s.2
    (further_known R before p u s.0 k cur part.0 plain outside (joined R p u s.0 s.1))

class_known : (R : Readers) (before : List Reading) (u : List ℕ) (r : Reading) (c : Class) → Known R before → IsPlain u c → reads_as R c before u ≡ Ok r
    → Known R (r ∷ before)
class_known R before u r other_unit k plain is = read_as {R = R} {before = before} dropped r is (dropped_stays R before k)
class_known R before u r vps_unit k plain is =
    let t = then_told (R.vps (rbsp_of u)) _ r is in
    read_as {R = R} {before = before} (vps_read t.0) r t.2 (vps_stays t.0 R before k)
class_known R before u r sps_unit k plain is =
    let p = passed (is_within_picture (current before)) _ _ r is in
    let t = then_told (R.sps (rbsp_of u)) _ r p.1 in
    read_as {R = R} {before = before} (sps_read t.0) r t.2 (sps_stays t.0 R before k)
class_known R before u r pps_unit k plain is =
    let p = passed (is_within_picture (current before)) _ _ r is in
    let t = then_told (R.pps (rbsp_of u)) _ r p.1 in
    read_as {R = R} {before = before} (pps_read t.0) r t.2 (pps_stays t.0 R before k)
class_known R before u r prefix_aps k plain is =
    let p = passed (is_within_picture (current before)) _ _ r is in
    let t = then_told (R.aps (rbsp_of u)) _ r p.1 in
    read_as {R = R} {before = before} (aps_reading t.0) r t.2 (aps_stays t.0 R before k)
class_known R before u r suffix_aps k plain is =
    let t = then_told (R.aps (rbsp_of u)) _ r is in
    read_as {R = R} {before = before} (aps_reading t.0) r t.2 (aps_stays t.0 R before k)
class_known R before u r header_unit k plain is =
    let p = passed (is_open (current before)) _ _ r is in
    let b = then_told (begins R before u (Some u)) _ r p.1 in
    read_as {R = R} {before = before} (header_read b.0) r b.2 (header_known R before u b.0 k plain (header_begun R before u (Some u) b.0 b.1))
class_known R before u r slice_unit k plain is =
    elim (chosen (has_header_inside u) (alone R before u) (follows R before (current before) u) r is) [
      | inl h ↦ alone_known R before u r k plain h.0 h.1
      | inr h ↦ follows_known R before (current before) u r k refl plain h.0 h.1
    ]
class_known R before u r end_unit k plain is =
    let p = passed (is_open (current before)) _ _ r is in
    read_as {R = R} {before = before} sequence_ended r p.1 (ended_stays R before k)
class_known R before u r sei_unit k plain is =
    elim (chosen (is_within_picture (current before)) (Ok dropped) (gathers before (R.sei (rbsp_of u))) r is) [
      | inl h ↦ read_as {R = R} {before = before} dropped r h.1 (dropped_stays R before k)
      | inr h ↦
          let ms : List Message = R.sei (rbsp_of u) in
          let p = passed (nat_lt message_limit (spelled_length (gathered before ++ ms))) _ _ r h.1 in
          read_as {R = R} {before = before} (messages_read ms) r p.1
          (messages_known R before ms k (at_most message_limit (spelled_length (gathered before ++ ms)) p.0))
    ]

pub by_layer : (reserved other : Bool) (x : Result Reading Refusal) (q : Refusal) (r : Reading) → cond reserved (Ok dropped) (cond other (Err q) x) ≡ Ok r
    → (answered dropped ≡ answered r) ⊎ ((reserved ≡ false) × (other ≡ false) × (x ≡ Ok r))
by_layer true other x q r is = inl is
by_layer false true x q r is = absurd (cc)
by_layer false false x q r is = inr (refl, refl, is)

unit_known : (R : Readers) (before : List Reading) (u : List ℕ) (r : Reading) → Known R before → reads R before u ≡ Ok r → Known R (r ∷ before)
unit_known R before u r k is =
    elim (by_layer (is_reserved u) (not (nuh_layer_id u == 0)) (reads_as R (class_of (nal_unit_type u)) before u) (Profile rules.SEVERAL_LAYERS) r is) [
      | inl h ↦ read_as {R = R} {before = before} dropped r h (dropped_stays R before k)
      | inr h ↦ class_known R before u r (class_of (nal_unit_type u)) k
          (record { reserved = h.0; layer = equal (nuh_layer_id u) 0 h.1; class = refl }) h.2
    ]

one_known : (R : Readers) (before : List Reading) (x : Result Reading Refusal) (f : List Reading → StreamReading)
    → ((r : Reading) → x ≡ Ok r → Known R (r ∷ before)) → ((a : List Reading) → Known R a → Known R (f a).before) → Known R before
    → Known R (one_more x before f).before
one_known R before (Ok r) f step on k = on (r ∷ before) (step r refl)
one_known R before (Err q) f step on k = k

known_on : (R : Readers) (before : List Reading) (units : List (List ℕ)) → Known R before → Known R (read_on R before units).before
known_on R before [] k = k
known_on R before (u ∷ units) k =
    one_known R before (reads R before u) (λ a. read_on R a units) (λ r is. unit_known R before u r k is) (λ a known. known_on R a units known) k

pub pictures_finished : PicturesAreFinished
pictures_finished R units =
    let start : Known R [] = record { earlier = []; all = tt; pics = refl; here = tt; few = no_messages } in
    let k = known_on R [] units start in
    let P : List Picture → Type 0 = AreFinished R in
    subst P (sym k.pics) (all_of R k.earlier (current (read_on R [] units).before) k.here k.all)
