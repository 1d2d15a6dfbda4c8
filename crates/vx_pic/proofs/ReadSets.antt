-- The sets in force for the pictures of units were read.
use Rattle.std.proofs.Common.{◌≡◌, ℕ, true, false, not, cond, List, [], ◌∷◌, ◌++◌, length, Option, Some, None, Result, Ok, Err, refl, subst, inl, inr}
use Rattle.std.specs.Prelude.{◌==◌, nat_lt}
use Rattle.std.specs.List.{AllByRecursion}
use Rattle.vx_bits.specs.declared.list.Item.{Item}
use Rattle.vx_bits.specs.declared.refusal.Refusal.{Refusal}
use Rattle.vx_bits.specs.declared.refusal.Refusal.TheVariants.{Profile}
use Rattle.vx_bits.specs.declared.rules.TheConstants as rules
use Rattle.vx_aps.specs.declared.aps.Aps.{Aps}
use Rattle.vx_annexb.specs.NalUnit.{nal_unit_type, nuh_layer_id}
use Rattle.vx_layout.proofs.Parts.{Each-append}
use Rattle.vx_sei.specs.Sei.{spelled_length}
use Rattle.vx_pic.specs.Units.{is_reserved, rbsp_of, has_header_inside, Class, other_unit, vps_unit, sps_unit, pps_unit, prefix_aps, suffix_aps, header_unit, slice_unit, end_unit, sei_unit, class_of}
use Rattle.vx_pic.specs.Sets.{sps_id, pps_id, referred_sps}
use Rattle.vx_pic.specs.Readings.{Begun, Slice, Reading, dropped, vps_read, sps_read, pps_read, aps_read, messages_read, header_read, first_slice, next_slice, sequence_ended, latest_given, sps_in, pps_in, gathered, Picture, is_whole, Current, nothing, headed, going, with_slice, current, is_open, is_within_picture, picture_if_whole, is_slice, pictures}
use Rattle.vx_pic.specs.Rules.{Readers, message_limit, aps_reading, opens, opened, gathers, begins, joins, follows, alone, reads_as, reads}
use Rattle.vx_pic.specs.Streams.{StreamReading, one_more, read_on}
use Rattle.vx_pic.specs.Whole.{HasSets, PicturesHaveSets}
use Rattle.vx_pic.proofs.Finishing.{then_told, passed, test_told, first_or, header_begun, chosen, answered, by_layer}

-- what is known of a reading
abbrev WasRead : Readers → Reading → Type 0
WasRead R (sps_read s) = (rbsp : List ℕ) × (R.sps rbsp ≡ Ok s)
WasRead R (pps_read p) = (rbsp : List ℕ) × (R.pps rbsp ≡ Ok p)
WasRead R (header_read b) = HasSets R b
WasRead R (first_slice b k s) = HasSets R b
WasRead R _ = Unit {0}

abbrev WereRead : Readers → List Reading → Type 0
WereRead R before = AllByRecursion (WasRead R) before

-- ---- sets in force

given : {A : Type 0} (gives : Reading → Option A) (Q : Reading → Type 0) (P : A → Type 0) → ((r : Reading) (a : A) → Q r → gives r ≡ Some a → P a)
    → (before : List Reading) → AllByRecursion Q before → (a : A) → latest_given gives before ≡ Some a → P a
given gives Q P each [] all a is = absurd (cc)
given gives Q P each (r ∷ before) all a is = first_or (gives r) (latest_given gives before) a P (λ b. each r b all.0) (given gives Q P each before all.1 a) is

sps_was_read : (R : Readers) (id : ℕ) (r : Reading) (s : List Item) → WasRead R r → sps_in id r ≡ Some s → (rbsp : List ℕ) × (R.sps rbsp ≡ Ok s)
sps_was_read R id (sps_read t) s was is =
    let P : List Item → Type 0 = λ x. (rbsp : List ℕ) × (R.sps rbsp ≡ Ok x) in
    subst P (test_told (sps_id t == id) t s is).1 was
sps_was_read R id dropped s was is = absurd (cc)
sps_was_read R id (vps_read v) s was is = absurd (cc)
sps_was_read R id (pps_read t) s was is = absurd (cc)
sps_was_read R id (aps_read t) s was is = absurd (cc)
sps_was_read R id (messages_read t) s was is = absurd (cc)
sps_was_read R id (header_read t) s was is = absurd (cc)
sps_was_read R id (first_slice b k t) s was is = absurd (cc)
sps_was_read R id (next_slice t) s was is = absurd (cc)
sps_was_read R id sequence_ended s was is = absurd (cc)

pps_was_read : (R : Readers) (id : ℕ) (r : Reading) (p : List Item) → WasRead R r → pps_in id r ≡ Some p → (rbsp : List ℕ) × (R.pps rbsp ≡ Ok p)
pps_was_read R id (pps_read t) p was is =
    let P : List Item → Type 0 = λ x. (rbsp : List ℕ) × (R.pps rbsp ≡ Ok x) in
    subst P (test_told (pps_id t == id) t p is).1 was
pps_was_read R id dropped p was is = absurd (cc)
pps_was_read R id (vps_read v) p was is = absurd (cc)
pps_was_read R id (sps_read t) p was is = absurd (cc)
pps_was_read R id (aps_read t) p was is = absurd (cc)
pps_was_read R id (messages_read t) p was is = absurd (cc)
pps_was_read R id (header_read t) p was is = absurd (cc)
pps_was_read R id (first_slice b k t) p was is = absurd (cc)
pps_was_read R id (next_slice t) p was is = absurd (cc)
pps_was_read R id sequence_ended p was is = absurd (cc)

begun_has : (R : Readers) (before : List Reading) (u : List ℕ) (unit : Option (List ℕ)) (b : Begun) → WereRead R before → begins R before u unit ≡ Ok b → HasSets R b
begun_has R before u unit b all is =
    let h = header_begun R before u unit b is in
    let sps = given (sps_in (referred_sps b.pps)) (WasRead R) (λ s. (rbsp : List ℕ) × (R.sps rbsp ≡ Ok s)) (sps_was_read R (referred_sps b.pps)) before all b.sps h.sps in
    let pps = given (pps_in (pps_id b.pps)) (WasRead R) (λ p. (rbsp : List ℕ) × (R.pps rbsp ≡ Ok p)) (pps_was_read R (pps_id b.pps)) before all b.pps h.pps in
    record { sps_rbsp = sps.0; sps = sps.1; pps_rbsp = pps.0; pps = pps.1 }

-- ---- the picture that was begun last

abbrev CurrentHas : Readers → Current → Type 0
CurrentHas R nothing = Unit {0}
CurrentHas R (headed b) = HasSets R b
CurrentHas R (going p) = HasSets R p.begun

one_slice_more : (R : Readers) (s : Slice) (c : Current) → CurrentHas R c → CurrentHas R (with_slice s c)
one_slice_more R s nothing has = has
one_slice_more R s (headed b) has = has
one_slice_more R s (going p) has = has

current_has : (R : Readers) (before : List Reading) → WereRead R before → CurrentHas R (current before)
current_has R [] all = tt
current_has R (header_read b ∷ before) all = all.0
current_has R (first_slice b k s ∷ before) all = all.0
current_has R (next_slice s ∷ before) all = one_slice_more R s (current before) (current_has R before all.1)
current_has R (dropped ∷ before) all = current_has R before all.1
current_has R (vps_read v ∷ before) all = current_has R before all.1
current_has R (sps_read s ∷ before) all = current_has R before all.1
current_has R (pps_read p ∷ before) all = current_has R before all.1
current_has R (aps_read a ∷ before) all = current_has R before all.1
current_has R (messages_read ms ∷ before) all = current_has R before all.1
current_has R (sequence_ended ∷ before) all = current_has R before all.1

-- ---- each unit

read_is : (R : Readers) (a r : Reading) → answered a ≡ answered r → WasRead R a → WasRead R r
read_is R a r is was =
    let same : a ≡ r = cc in
    let P : Reading → Type 0 = WasRead R in
    subst P same was

aps_was_read : (R : Readers) (a : Option Aps) → WasRead R (aps_reading a)
aps_was_read R None = tt
aps_was_read R (Some a) = tt

alone_was_read : (R : Readers) (before : List Reading) (u : List ℕ) (r : Reading) → WereRead R before → alone R before u ≡ Ok r → WasRead R r
alone_was_read R before u r all is =
    let closed = passed (is_open (current before)) _ _ r is in
    let b = then_told (begins R before u None) _ r closed.1 in
    let one = passed (nat_lt 1 (length b.0.layout.slices)) _ _ r b.2 in
    let kind = then_told (opens before b.0 u) _ r one.1 in
    let s = then_told (joins R (opened before b.0 kind.0) u) _ r kind.2 in
    read_is R (first_slice b.0 kind.0 s.0) r s.2 (begun_has R before u None b.0 all b.1)

follows_was_read : (R : Readers) (before : List Reading) (c : Current) (u : List ℕ) (r : Reading) → CurrentHas R c → follows R before c u ≡ Ok r → WasRead R r
follows_was_read R before nothing u r has is = absurd (cc)
follows_was_read R before (headed b) u r has is =
    let kind = then_told (opens before b u) _ r is in
    let s = then_told (joins R (opened before b kind.0) u) _ r kind.2 in
    read_is R (first_slice b kind.0 s.0) r s.2 has
follows_was_read R before (going p) u r has is =
    let part = passed (is_whole p) _ _ r is in
    let s = then_told (joins R p u) _ r part.1 in
    read_is R (next_slice s.0) r s.2 tt

class_was_read : (R : Readers) (before : List Reading) (u : List ℕ) (r : Reading) (c : Class) → WereRead R before → reads_as R c before u ≡ Ok r → WasRead R r
class_was_read R before u r other_unit all is = read_is R dropped r is tt
class_was_read R before u r vps_unit all is =
    let t = then_told (R.vps (rbsp_of u)) _ r is in
    read_is R (vps_read t.0) r t.2 tt
class_was_read R before u r sps_unit all is =
    let p = passed (is_within_picture (current before)) _ _ r is in
    let t = then_told (R.sps (rbsp_of u)) _ r p.1 in
    read_is R (sps_read t.0) r t.2 (rbsp_of u, t.1)
class_was_read R before u r pps_unit all is =
    let p = passed (is_within_picture (current before)) _ _ r is in
    let t = then_told (R.pps (rbsp_of u)) _ r p.1 in
    read_is R (pps_read t.0) r t.2 (rbsp_of u, t.1)
class_was_read R before u r prefix_aps all is =
    let p = passed (is_within_picture (current before)) _ _ r is in
    let t = then_told (R.aps (rbsp_of u)) _ r p.1 in
    read_is R (aps_reading t.0) r t.2 (aps_was_read R t.0)
class_was_read R before u r suffix_aps all is =
    let t = then_told (R.aps (rbsp_of u)) _ r is in
    read_is R (aps_reading t.0) r t.2 (aps_was_read R t.0)
class_was_read R before u r header_unit all is =
    let p = passed (is_open (current before)) _ _ r is in
    let b = then_told (begins R before u (Some u)) _ r p.1 in
    read_is R (header_read b.0) r b.2 (begun_has R before u (Some u) b.0 all b.1)
class_was_read R before u r slice_unit all is =
    elim (chosen (has_header_inside u) (alone R before u) (follows R before (current before) u) r is) [
      | inl h ↦ alone_was_read R before u r all h.1
      | inr h ↦ follows_was_read R before (current before) u r (current_has R before all) h.1
    ]
class_was_read R before u r end_unit all is =
    let p = passed (is_open (current before)) _ _ r is in
    read_is R sequence_ended r p.1 tt
class_was_read R before u r sei_unit all is =
    elim (chosen (is_within_picture (current before)) (Ok dropped) (gathers before (R.sei (rbsp_of u))) r is) [
      | inl h ↦ read_is R dropped r h.1 tt
      | inr h ↦
          let p = passed (nat_lt message_limit (spelled_length (gathered before ++ R.sei (rbsp_of u)))) _ _ r h.1 in
          read_is R (messages_read (R.sei (rbsp_of u))) r p.1 tt
    ]

unit_was_read : (R : Readers) (before : List Reading) (u : List ℕ) (r : Reading) → WereRead R before → reads R before u ≡ Ok r → WasRead R r
unit_was_read R before u r all is =
    elim (by_layer (is_reserved u) (not (nuh_layer_id u == 0)) (reads_as R (class_of (nal_unit_type u)) before u) (Profile rules.SEVERAL_LAYERS) r is) [
      | inl h ↦ read_is R dropped r h tt
      | inr h ↦ class_was_read R before u r (class_of (nal_unit_type u)) all h.2
    ]

one_was_read : (R : Readers) (before : List Reading) (x : Result Reading Refusal) (f : List Reading → StreamReading)
    → ((r : Reading) → x ≡ Ok r → WasRead R r) → ((a : List Reading) → WereRead R a → WereRead R (f a).before) → WereRead R before
    → WereRead R (one_more x before f).before
one_was_read R before (Ok r) f step on all = on (r ∷ before) (step r refl, all)
one_was_read R before (Err q) f step on all = all

units_were_read : (R : Readers) (before : List Reading) (units : List (List ℕ)) → WereRead R before → WereRead R (read_on R before units).before
units_were_read R before [] all = all
units_were_read R before (u ∷ units) all =
    one_was_read R before (reads R before u) (λ a. read_on R a units) (λ r is. unit_was_read R before u r all is) (λ a were. units_were_read R a units were) all

-- ---- pictures

abbrev AllHave : Readers → List Picture → Type 0
AllHave R ps = AllByRecursion (λ p. HasSets R p.begun) ps

whole_has : (R : Readers) (c : Current) → CurrentHas R c → AllHave R (picture_if_whole c)
whole_has R nothing has = tt
whole_has R (headed b) has = tt
whole_has R (going p) has = elim (is_whole p) as (λ b. AllHave R (cond b (p ∷ []) [])) [ true ↦ (has, tt) | false ↦ tt ]

pictures_have : (R : Readers) (before : List Reading) → WereRead R before → AllHave R (pictures before)
pictures_have R [] all = tt
pictures_have R (r ∷ before) all =
    let c : Current = current (r ∷ before) in
    let here : AllHave R (cond (is_slice r) (picture_if_whole c) [])
    = elim (is_slice r) as (λ b. AllHave R (cond b (picture_if_whole c) [])) [ true ↦ whole_has R c (current_has R (r ∷ before) all) | false ↦ tt ] in
    Each-append (λ p. HasSets R p.begun) (cond (is_slice r) (picture_if_whole c) []) (pictures before) here (pictures_have R before all.1)

pub pictures_have_sets : PicturesHaveSets
pictures_have_sets R units = pictures_have R (read_on R [] units).before (units_were_read R [] units tt)
