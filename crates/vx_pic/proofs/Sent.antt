-- Each set that a picture needs is in force where it is written, and plans that are written are read again.
use Rattle.std.proofs.Common.{◌≡◌, ℕ, Bool, true, false, not, cond, ◌&&◌, List, [], ◌∷◌, ◌++◌, map, filter, refl, sym, ◌∙◌, ap, subst}
use Rattle.std.proofs.Common.{inl, inr}
use Rattle.std.proofs.Common.{Option, Some, None}
use Rattle.std.specs.Prelude.{◌==◌, nat_le, is_none}
use Rattle.std.specs.Ordering.{int_eq}
use Rattle.std.specs.Option.{option_or}
use Rattle.std.specs.List.{AllByRecursion}
use Rattle.std.proofs.lemmas.Bool.{cases_Bool}
use Rattle.std.proofs.lemmas.Bool.Decides.{eqb_tells, Decides-int_eq}
use Rattle.std.proofs.lemmas.Option.{none-some}
use Rattle.vx_bits.specs.declared.list.Item.{Item}
use Rattle.vx_aps.specs.declared.aps.Aps.{Aps}
use Rattle.vx_pic.specs.Sets.{Slot, sps_id, pps_id, same_item, same_items, names_of}
use Rattle.vx_pic.specs.Units.{temporal_id, is_irap_or_gdr}
use Rattle.vx_pic.specs.Readings.{Reading, dropped, vps_read, sps_read, pps_read, aps_read, messages_read, header_read, first_slice}
use Rattle.vx_pic.specs.Readings.{next_slice, sequence_ended, Begun, Slice, Picture, latest_given, sps_in, pps_in, aps_in, stored_sps}
use Rattle.vx_pic.specs.Readings.{stored_pps, stored_aps, pictures}
use Rattle.vx_pic.specs.Rules.{Readers}
use Rattle.vx_pic.specs.Streams.{read_on, unless_refused}
use Rattle.vx_pic.specs.Alike.{IsNext}
use Rattle.vx_pic.specs.Written.{Set, an_sps, a_pps, an_aps, set_reading, IsStored, SetUnit, SeiUnit, Plan, planned_slices, units_of}
use Rattle.vx_pic.specs.Written.{eos_readings, set_readings, sei_readings, header_readings, slice_readings, readings_of, readings_after}
use Rattle.vx_pic.specs.Written.{before_header, planned, AreInForce, IsWritten}
use Rattle.vx_pic.specs.Resident.{readings_of_plans, units_written, planned_of, same_slot, kept_for, history_of, HaveOwnSlots, NeededIsStored}
use Rattle.vx_pic.specs.Resident.{same_bytes, same_set, last_of, serves, is_resident, sent_before}
use Rattle.vx_pic.specs.Resident.{HasSet, HaveNamed, IsPlanned, WrittenReadsAgain, IsBodyOf, NeededIsBody}
use Rattle.vx_pic.proofs.Going.{goes_on}
use Rattle.vx_pic.proofs.Again.{after_append, plan_reads_again}

-- ---- slots

itself : (a : ℕ) → (a == a) ≡ true
itself a = elim (eqb_tells a a) [ inl same ↦ same.0 | inr other ↦ absurd (other.1 refl) ]

flipped : (a b : ℕ) → (a == b) ≡ (b == a)
flipped a b = elim (eqb_tells a b) [
  | inl same ↦ ap (λ n. n == b) same.1 ∙ sym (ap (λ n. b == n) same.1)
  | inr other ↦ elim (eqb_tells b a) [ inl same ↦ absurd (other.1 (sym same.1)) | inr others ↦ other.0 ∙ sym others.0 ]
]

slots_flipped : (s t : Set) → same_slot s t ≡ same_slot t s
slots_flipped (an_sps s) (an_sps t) = flipped (sps_id s) (sps_id t)
slots_flipped (an_sps s) (a_pps t) = refl
slots_flipped (an_sps s) (an_aps t) = refl
slots_flipped (a_pps s) (an_sps t) = refl
slots_flipped (a_pps s) (a_pps t) = flipped (pps_id s) (pps_id t)
slots_flipped (a_pps s) (an_aps t) = refl
slots_flipped (an_aps s) (an_sps t) = refl
slots_flipped (an_aps s) (a_pps t) = refl
slots_flipped (an_aps s) (an_aps t) = rw (flipped s.kind t.kind, flipped s.id t.id) refl

-- a set that comes is stored
own : (b : List Reading) (s : Set) → IsStored (set_reading s ∷ b) s
own b (an_sps s) = ap (λ t. option_or (cond t (Some s) None) (stored_sps (sps_id s) b)) (itself (sps_id s))
own b (a_pps s) = ap (λ t. option_or (cond t (Some s) None) (stored_pps (pps_id s) b)) (itself (pps_id s))
own b (an_aps a) =
    ap (λ t. option_or (cond (t && (a.id == a.id)) (Some a) None) (stored_aps a.kind a.id b)) (itself a.kind)
    ∙ ap (λ t. option_or (cond t (Some a) None) (stored_aps a.kind a.id b)) (itself a.id)

-- and stays where one of another slot comes
other : (b : List Reading) (s t : Set) → same_slot t s ≡ false → IsStored b s → IsStored (set_reading t ∷ b) s
other b (an_sps s) (an_sps t) differ is = ap (λ x. option_or (cond x (Some t) None) (stored_sps (sps_id s) b)) differ ∙ is
other b (an_sps s) (a_pps t) differ is = is
other b (an_sps s) (an_aps t) differ is = is
other b (a_pps s) (an_sps t) differ is = is
other b (a_pps s) (a_pps t) differ is = ap (λ x. option_or (cond x (Some t) None) (stored_pps (pps_id s) b)) differ ∙ is
other b (a_pps s) (an_aps t) differ is = is
other b (an_aps s) (an_sps t) differ is = is
other b (an_aps s) (a_pps t) differ is = is
other b (an_aps s) (an_aps t) differ is = ap (λ x. option_or (cond x (Some t) None) (stored_aps s.kind s.id b)) differ ∙ is

-- ---- what is sent is stored

-- these are of other slots
abbrev AreOthers : Set → List SetUnit → Type 0
AreOthers s xs = AllByRecursion (λ y. same_slot s y.set ≡ false) xs

past_others : (b : List Reading) (s : Set) (xs : List SetUnit) → AreOthers s xs → IsStored b s → IsStored (readings_after b (set_readings xs)) s
past_others b s [] others is = is
past_others b s (x ∷ xs) others is =
    past_others (set_reading x.set ∷ b) s xs others.1 (other b s x.set (slots_flipped x.set s ∙ others.0) is)

one_more : (s : Set) (x : SetUnit) (xs : List SetUnit) (t : Bool) → same_slot s x.set ≡ false → AreOthers s xs → AreOthers s (cond t (x ∷ xs) xs)
one_more s x xs true differs others = (differs, others)
one_more s x xs false differs others = others

filtered : (test : SetUnit → Bool) (s : Set) (xs : List SetUnit) → AreOthers s xs → AreOthers s (filter test xs)
filtered test s [] others = tt
filtered test s (x ∷ xs) others = one_more s x (filter test xs) (test x) others.0 (filtered test s xs others.1)

abbrev AreKnown : (SetUnit → Bool) → List Reading → List SetUnit → Type 0
AreKnown resident b xs = AllByRecursion (λ x. resident x ≡ true → IsStored b x.set) xs

still_known : (resident : SetUnit → Bool) (b : List Reading) (s : Set) (xs : List SetUnit) → AreOthers s xs → AreKnown resident b xs
    → AreKnown resident (set_reading s ∷ b) xs
still_known resident b s [] others known = tt
still_known resident b s (x ∷ xs) others known =
    (λ h. other b x.set s others.0 (known.0 h), still_known resident b s xs others.1 known.1)

abbrev unsent : (SetUnit → Bool) → List SetUnit → List SetUnit
unsent resident xs = filter (λ x. not (resident x)) xs

sent_stored : (resident : SetUnit → Bool) (b : List Reading) (needed : List SetUnit) → HaveOwnSlots needed → AreKnown resident b needed
    → AllByRecursion (λ x. IsStored (readings_after b (set_readings (unsent resident needed))) x.set) needed
sent_stored resident b [] slots known = tt
sent_stored resident b (x ∷ more) slots known = elim (cases_Bool (resident x)) [
  | inl yes_it ↦
      let P : Bool → Type 0 = λ t. AllByRecursion (λ y. IsStored (readings_after b (set_readings (cond (not t) (x ∷ unsent resident more) (unsent resident more)))) y.set) (x ∷ more) in
      subst P (sym yes_it) (
        past_others b x.set (unsent resident more) (filtered (λ y. not (resident y)) x.set more slots.0) (known.0 yes_it),
        sent_stored resident b more slots.1 known.1,
      )
  | inr no_it ↦
      let P : Bool → Type 0 = λ t. AllByRecursion (λ y. IsStored (readings_after b (set_readings (cond (not t) (x ∷ unsent resident more) (unsent resident more)))) y.set) (x ∷ more) in
      subst P (sym no_it) (
        past_others (set_reading x.set ∷ b) x.set (unsent resident more) (filtered (λ y. not (resident y)) x.set more slots.0) (own b x.set),
        sent_stored resident (set_reading x.set ∷ b) more slots.1 (still_known resident b x.set more slots.0 known.1),
      )
]

-- ---- what is resident is stored

both : (a b : Bool) → (a && b) ≡ true → (a ≡ true) × (b ≡ true)
both true b is = (refl, is)
both false b is = absurd (cc)

same_number : (a b : ℕ) → (a == b) ≡ true → a ≡ b
same_number a b is = elim (eqb_tells a b) [ inl same ↦ same.1 | inr other ↦ let e : true ≡ false = sym is ∙ other.0 in absurd (cc) ]

pub item_is : (a b : Item) → same_item a b ≡ true → a ≡ b
item_is a b is =
    let parts = both (a.field == b.field) (int_eq a.value b.value) is in
    rw (same_number a.field b.field parts.0, (Decides-int_eq a.value b.value).0 parts.1) refl

pub items_are : (a b : List Item) → same_items a b ≡ true → a ≡ b
items_are [] [] is = refl
items_are [] (b ∷ others) is = absurd (cc)
items_are (a ∷ items) [] is = absurd (cc)
items_are (a ∷ items) (b ∷ others) is =
    let parts = both (same_item a b) (same_items items others) is in
    rw (item_is a b parts.0, items_are items others parts.1) refl

bytes_are : (a b : List ℕ) → same_bytes a b ≡ true → a ≡ b
bytes_are [] [] is = refl
bytes_are [] (b ∷ others) is = absurd (cc)
bytes_are (a ∷ bytes) [] is = absurd (cc)
bytes_are (a ∷ bytes) (b ∷ others) is =
    let parts = both (a == b) (same_bytes bytes others) is in
    rw (same_number a b parts.0, bytes_are bytes others parts.1) refl

aps_is : (a b : Aps) → a.kind ≡ b.kind → a.id ≡ b.id → a.body ≡ b.body → a ≡ b
aps_is a b kind id body = rw (kind, id, body) refl

set_is : (s t : Set) → same_set s t ≡ true → s ≡ t
set_is (an_sps s) (an_sps t) is = ap an_sps (items_are s t is)
set_is (an_sps s) (a_pps t) is = absurd (cc)
set_is (an_sps s) (an_aps t) is = absurd (cc)
set_is (a_pps s) (an_sps t) is = absurd (cc)
set_is (a_pps s) (a_pps t) is = ap a_pps (items_are s t is)
set_is (a_pps s) (an_aps t) is = absurd (cc)
set_is (an_aps s) (an_sps t) is = absurd (cc)
set_is (an_aps s) (a_pps t) is = absurd (cc)
set_is (an_aps a) (an_aps b) is =
    let kind = both (a.kind == b.kind) ((a.id == b.id) && same_bytes a.body b.body) is in
    let id = both (a.id == b.id) (same_bytes a.body b.body) kind.1 in
    ap an_aps (aps_is a b (same_number a.kind b.kind kind.0) (same_number a.id b.id id.0) (bytes_are a.body b.body id.1))

-- behind the last unit for a slot stand those of other slots
none_alike : (s : Set) (xs : List SetUnit) → last_of s xs ≡ None → AreOthers s xs
none_alike s [] is = tt
none_alike s (x ∷ more) is = by (none_alike s more) (last_of s more) refl is
  where
    differs : (t : Bool) → cond t (Some x) None ≡ None → t ≡ false
    differs true e = absurd (none-some x (sym e))
    differs false e = refl

    by : (last_of s more ≡ None → AreOthers s more) → (o : Option SetUnit) → last_of s more ≡ o
        → option_or o (cond (same_slot x.set s) (Some x) None) ≡ None → AreOthers s (x ∷ more)
    by rest (Some y) at e = absurd (none-some y (sym e))
    by rest None at e = (slots_flipped s x.set ∙ differs (same_slot x.set s) e, rest at)

last_stored : (s : Set) (b : List Reading) (xs : List SetUnit) (x : SetUnit) → last_of s xs ≡ Some x → x.set ≡ s
    → IsStored (readings_after b (set_readings xs)) s
last_stored s b [] x is same = absurd (none-some x is)
last_stored s b (y ∷ more) x is same = by (λ at. last_stored s (set_reading y.set ∷ b) more x at same) (last_of s more) refl is
  where
    here : (t : Bool) → cond t (Some y) None ≡ Some x → y ≡ x
    here true e = (cc)
    here false e = absurd (none-some x e)

    by : (last_of s more ≡ Some x → IsStored (readings_after (set_reading y.set ∷ b) (set_readings more)) s) → (o : Option SetUnit)
        → last_of s more ≡ o → option_or o (cond (same_slot y.set s) (Some y) None) ≡ Some x
        → IsStored (readings_after (set_reading y.set ∷ b) (set_readings more)) s
    by rest (Some z) at e = rest (at ∙ e)
    by rest None at e =
        let is_it : y.set ≡ s = ap (λ u. u.set) (here (same_slot y.set s) e) ∙ same in
        past_others (set_reading y.set ∷ b) s more (none_alike s more at)
        (subst (λ t. IsStored (set_reading y.set ∷ b) t) is_it (own b y.set))

resident_is : (t : ℕ) (history : List SetUnit) (s : Set) → serves t s (last_of s history) ≡ true → IsStored (readings_after [] (set_readings history)) s
resident_is t history s is = by (last_of s history) refl is
  where
    by : (o : Option SetUnit) → last_of s history ≡ o → serves t s o ≡ true → IsStored (readings_after [] (set_readings history)) s
    by None at e = absurd (cc)
    by (Some x) at e = last_stored s [] history x at (set_is x.set s (both (same_set x.set s) (nat_le (temporal_id x.unit) t) e).0)

-- ---- what looks at sets alone

abbrev is_set_reading : Reading → Bool
is_set_reading (sps_read s) = true
is_set_reading (pps_read s) = true
is_set_reading (aps_read s) = true
is_set_reading _ = false

abbrev LooksAtSets : {A : Type 0} → (Reading → Option A) → Type 0
LooksAtSets f = (r : Reading) → is_set_reading r ≡ false → f r ≡ None

assoc : {A : Type 0} (x y z : Option A) → option_or x (option_or y z) ≡ option_or (option_or x y) z
assoc None y z = refl
assoc (Some a) y z = refl

or_none : {A : Type 0} (x : Option A) → option_or x None ≡ x
or_none None = refl
or_none (Some a) = refl

split : {A : Type 0} (f : Reading → Option A) (b rs : List Reading) → latest_given f (readings_after b rs) ≡ option_or (latest_given f (readings_after [] rs)) (latest_given f b)
split f b [] = refl
split f b (r ∷ rs) =
    split f (r ∷ b) rs
    ∙ assoc (latest_given f (readings_after [] rs)) (f r) (latest_given f b)
    ∙ ap (λ x. option_or x (latest_given f b)) (sym (split f (r ∷ []) rs ∙ ap (option_or (latest_given f (readings_after [] rs))) (or_none (f r))))

neutral : {A : Type 0} (f : Reading → Option A) (b rs : List Reading) → AllByRecursion (λ r. f r ≡ None) rs → latest_given f (readings_after b rs) ≡ latest_given f b
neutral f b [] none = refl
neutral f b (r ∷ rs) none = neutral f (r ∷ b) rs none.1 ∙ ap (λ x. option_or x (latest_given f b)) none.0

none_of_eos : {A : Type 0} (f : Reading → Option A) → LooksAtSets f → (e : Bool) → AllByRecursion (λ r. f r ≡ None) (eos_readings e)
none_of_eos f sets true = (sets sequence_ended refl, tt)
none_of_eos f sets false = tt

none_of_sei : {A : Type 0} (f : Reading → Option A) → LooksAtSets f → (s : Option SeiUnit) → AllByRecursion (λ r. f r ≡ None) (sei_readings s)
none_of_sei f sets None = tt
none_of_sei f sets (Some s) = (sets (messages_read s.messages) refl, tt)

none_of_header : {A : Type 0} (f : Reading → Option A) → LooksAtSets f → (u : Option (List ℕ)) (b : Begun) → AllByRecursion (λ r. f r ≡ None) (header_readings u b)
none_of_header f sets None b = tt
none_of_header f sets (Some u) b = (sets (header_read b) refl, tt)

none_of_more : {A : Type 0} (f : Reading → Option A) → LooksAtSets f → (more : List Slice) → AllByRecursion (λ r. f r ≡ None) (map next_slice more)
none_of_more f sets [] = tt
none_of_more f sets (s ∷ more) = (sets (next_slice s) refl, none_of_more f sets more)

-- of a plan it sees the sets that are sent, and behind them what it saw before
behind_sets : {A : Type 0} (f : Reading → Option A) → LooksAtSets f → (b : List Reading) (p : Plan)
    → latest_given f (before_header b p) ≡ latest_given f (readings_after (readings_after b (eos_readings p.kind.after_eos)) (set_readings p.sent))
behind_sets f sets b p = neutral f (readings_after (readings_after b (eos_readings p.kind.after_eos)) (set_readings p.sent)) (sei_readings p.sei) (none_of_sei f sets p.sei)

before_sets : {A : Type 0} (f : Reading → Option A) → LooksAtSets f → (b : List Reading) (p : Plan)
    → latest_given f (readings_after (readings_after b (eos_readings p.kind.after_eos)) (set_readings p.sent)) ≡ option_or (latest_given f (readings_after [] (set_readings p.sent))) (latest_given f b)
before_sets f sets b p =
    split f (readings_after b (eos_readings p.kind.after_eos)) (set_readings p.sent)
    ∙ ap (option_or (latest_given f (readings_after [] (set_readings p.sent)))) (neutral f b (eos_readings p.kind.after_eos) (none_of_eos f sets p.kind.after_eos))

past_plan : {A : Type 0} (f : Reading → Option A) → LooksAtSets f → (b : List Reading) (p : Plan)
    → latest_given f (readings_after b (readings_of p)) ≡ option_or (latest_given f (readings_after [] (set_readings p.sent))) (latest_given f b)
past_plan f sets b p =
    let tail = header_readings p.begun.unit p.begun ++ slice_readings p in
    let b1 = readings_after b (eos_readings p.kind.after_eos) in
    let b2 = readings_after b1 (set_readings p.sent) in
    let b3 = readings_after b2 (sei_readings p.sei) in
    let at : readings_after b (readings_of p) ≡ readings_after (readings_after b3 (header_readings p.begun.unit p.begun)) (slice_readings p) =
    after_append b (eos_readings p.kind.after_eos) (set_readings p.sent ++ (sei_readings p.sei ++ tail))
    ∙ after_append b1 (set_readings p.sent) (sei_readings p.sei ++ tail)
    ∙ after_append b2 (sei_readings p.sei) tail
    ∙ after_append b3 (header_readings p.begun.unit p.begun) (slice_readings p) in
    ap (latest_given f) at
    ∙ neutral f (readings_after b3 (header_readings p.begun.unit p.begun)) (slice_readings p) (sets (first_slice p.begun p.kind p.first) refl, none_of_more f sets p.more)
    ∙ neutral f b3 (header_readings p.begun.unit p.begun) (none_of_header f sets p.begun.unit p.begun)
    ∙ behind_sets f sets b p
    ∙ before_sets f sets b p

set_readings_append : (xs ys : List SetUnit) → set_readings (xs ++ ys) ≡ set_readings xs ++ set_readings ys
set_readings_append [] ys = refl
set_readings_append (x ∷ xs) ys = ap (λ rs. set_reading x.set ∷ rs) (set_readings_append xs ys)

either : {A : Type 0} (a : A) (x y z : Option A) → (y ≡ Some a → z ≡ Some a) → option_or x y ≡ Some a → option_or x z ≡ Some a
either a None y z more is = more is
either a (Some v) y z more is = is

from_kept : {A : Type 0} (f : Reading → Option A) (done : List Plan) (a : A) (t : Bool)
    → (latest_given f (readings_after [] (set_readings (history_of done))) ≡ Some a → latest_given f (readings_of_plans done) ≡ Some a)
    → latest_given f (readings_after [] (set_readings (cond t [] (history_of done)))) ≡ Some a → latest_given f (readings_of_plans done) ≡ Some a
from_kept f done a true known is = absurd (none-some a is)
from_kept f done a false known is = known is

-- what counts as sent is stored
held : {A : Type 0} (f : Reading → Option A) → LooksAtSets f → (done : List Plan) (a : A)
    → latest_given f (readings_after [] (set_readings (history_of done))) ≡ Some a → latest_given f (readings_of_plans done) ≡ Some a
held f sets [] a is = is
held {A} f sets (p ∷ done) a is =
    let kept = kept_for p.kind.nal_type (history_of done) in
    let parts : option_or (latest_given f (readings_after [] (set_readings p.sent))) (latest_given f (readings_after [] (set_readings kept))) ≡ Some a =
    sym (split f (readings_after [] (set_readings kept)) (set_readings p.sent))
    ∙ ap (latest_given f) (sym (after_append [] (set_readings kept) (set_readings p.sent)))
    ∙ ap (λ rs. latest_given f (readings_after [] rs)) (sym (set_readings_append kept p.sent))
    ∙ is in
    past_plan f sets (readings_of_plans done) p
    ∙ either a (latest_given f (readings_after [] (set_readings p.sent))) (latest_given f (readings_after [] (set_readings kept))) (latest_given f (readings_of_plans done))
    (λ h. from_kept f done a (is_irap_or_gdr p.kind.nal_type) (λ k. held f sets done a k) h) parts

sps_sets : (id : ℕ) → LooksAtSets (sps_in id)
sps_sets id dropped h = refl
sps_sets id (vps_read v) h = refl
sps_sets id (sps_read s) h = absurd (cc)
sps_sets id (pps_read s) h = refl
sps_sets id (aps_read s) h = refl
sps_sets id (messages_read s) h = refl
sps_sets id (header_read s) h = refl
sps_sets id (first_slice b k s) h = refl
sps_sets id (next_slice s) h = refl
sps_sets id sequence_ended h = refl

pps_sets : (id : ℕ) → LooksAtSets (pps_in id)
pps_sets id dropped h = refl
pps_sets id (vps_read v) h = refl
pps_sets id (sps_read s) h = refl
pps_sets id (pps_read s) h = absurd (cc)
pps_sets id (aps_read s) h = refl
pps_sets id (messages_read s) h = refl
pps_sets id (header_read s) h = refl
pps_sets id (first_slice b k s) h = refl
pps_sets id (next_slice s) h = refl
pps_sets id sequence_ended h = refl

aps_sets : (kind id : ℕ) → LooksAtSets (aps_in kind id)
aps_sets kind id dropped h = refl
aps_sets kind id (vps_read v) h = refl
aps_sets kind id (sps_read s) h = refl
aps_sets kind id (pps_read s) h = refl
aps_sets kind id (aps_read s) h = absurd (cc)
aps_sets kind id (messages_read s) h = refl
aps_sets kind id (header_read s) h = refl
aps_sets kind id (first_slice b k s) h = refl
aps_sets kind id (next_slice s) h = refl
aps_sets kind id sequence_ended h = refl

-- a resident set is stored before the sets of the plan
resident_stored : (done : List Plan) (e : Bool) (t : ℕ) (s : Set) → IsStored (readings_after [] (set_readings (kept_for t (history_of done)))) s
    → IsStored (readings_after (readings_of_plans done) (eos_readings e)) s
resident_stored done e t s is = by (is_irap_or_gdr t) s is
  where
    known : (s : Set) → IsStored (readings_after [] (set_readings (history_of done))) s → IsStored (readings_after (readings_of_plans done) (eos_readings e)) s
    known (an_sps s) is =
        neutral (sps_in (sps_id s)) (readings_of_plans done) (eos_readings e) (none_of_eos (sps_in (sps_id s)) (sps_sets (sps_id s)) e)
        ∙ held (sps_in (sps_id s)) (sps_sets (sps_id s)) done s is
    known (a_pps s) is =
        neutral (pps_in (pps_id s)) (readings_of_plans done) (eos_readings e) (none_of_eos (pps_in (pps_id s)) (pps_sets (pps_id s)) e)
        ∙ held (pps_in (pps_id s)) (pps_sets (pps_id s)) done s is
    known (an_aps a) is =
        neutral (aps_in a.kind a.id) (readings_of_plans done) (eos_readings e) (none_of_eos (aps_in a.kind a.id) (aps_sets a.kind a.id) e)
        ∙ held (aps_in a.kind a.id) (aps_sets a.kind a.id) done a is

    nothing_stored : (s : Set) → IsStored [] s → IsStored (readings_after (readings_of_plans done) (eos_readings e)) s
    nothing_stored (an_sps s) is = absurd (none-some s is)
    nothing_stored (a_pps s) is = absurd (none-some s is)
    nothing_stored (an_aps s) is = absurd (none-some s is)

    by : (t : Bool) (s : Set) → IsStored (readings_after [] (set_readings (cond t [] (history_of done)))) s → IsStored (readings_after (readings_of_plans done) (eos_readings e)) s
    by true s is = nothing_stored s is
    by false s is = known s is

-- messages change nothing of it
behind_sei : (b : List Reading) (sei : Option SeiUnit) (s : Set) → IsStored b s → IsStored (readings_after b (sei_readings sei)) s
behind_sei b None s is = is
behind_sei b (Some m) (an_sps s) is = is
behind_sei b (Some m) (a_pps s) is = is
behind_sei b (Some m) (an_aps s) is = is

each : {P Q : SetUnit → Type 0} → ((x : SetUnit) → P x → Q x) → (xs : List SetUnit) → AllByRecursion P xs → AllByRecursion Q xs
each step [] all = tt
each step (x ∷ xs) all = (step x all.0, each step xs all.1)

every : {Q : SetUnit → Type 0} → ((x : SetUnit) → Q x) → (xs : List SetUnit) → AllByRecursion Q xs
every step [] = tt
every step (x ∷ xs) = (step x, every step xs)

pub needed_is_stored : NeededIsStored
needed_is_stored done p s =
    let b1 = readings_after (readings_of_plans done) (eos_readings p.kind.after_eos) in
    let resident = is_resident p.kind.temporal_id (sent_before done p) in
    let known = every {Q = λ x. resident x ≡ true → IsStored b1 x.set}
    (λ x h. resident_stored done p.kind.after_eos p.kind.nal_type x.set (resident_is p.kind.temporal_id (sent_before done p) x.set h)) s.needed in
    let stored = sent_stored resident b1 s.needed s.slots known in
    let P : List SetUnit → Type 0 = λ xs. AllByRecursion (λ x. IsStored (readings_after b1 (set_readings xs)) x.set) s.needed in
    each {Q = λ x. IsStored (before_header (readings_of_plans done) p) x.set} (λ x is. behind_sei (readings_after b1 (set_readings p.sent)) p.sei x.set is) s.needed
    (subst P (sym s.sent) stored)

-- ---- all plans

found : (P : Set → Type 0) (needed : List SetUnit) (s : Set) → AllByRecursion (λ x. P x.set) needed → HasSet needed s → P s
found P [] s all has = absurd has
found P (x ∷ more) s all (inl same) = subst P same all.0
found P (x ∷ more) s all (inr has) = found P more s all.1 has

there : {A : Type 0} (x : Option A) (a : A) → x ≡ Some a → is_none x ≡ false
there x a is = ap is_none is

bodies_there : (b : List Reading) (needed : List SetUnit) (slots : List Slot) → AllByRecursion (λ x. IsStored b x.set) needed → HaveNamed needed slots
    → AreInForce b slots
bodies_there b needed [] stored have = tt
bodies_there b needed (slot ∷ slots) stored have =
    let a : Aps = have.0.0 in
    let is : stored_aps a.kind a.id b ≡ Some a = found (IsStored b) needed (an_aps a) stored have.0.3 in (
      there (stored_aps slot.kind slot.id b) a
          (ap (λ k. stored_aps k slot.id b) (sym have.0.1) ∙ ap (λ i. stored_aps a.kind i b) (sym have.0.2) ∙ is),
      bodies_there b needed slots stored have.1,
    )

all_bodies : (b : List Reading) (needed : List SetUnit) (p : Plan) (slices : List Slice) → AllByRecursion (λ x. IsStored b x.set) needed
    → AllByRecursion (λ s. HaveNamed needed (names_of p.begun.pps p.begun.header s.header)) slices
    → AllByRecursion (λ s. AreInForce b (names_of p.begun.pps p.begun.header s.header)) slices
all_bodies b needed p [] stored have = tt
all_bodies b needed p (s ∷ slices) stored have =
    (bodies_there b needed (names_of p.begun.pps p.begun.header s.header) stored have.0, all_bodies b needed p slices stored have.1)

planned_is_written : (R : Readers) (done : List Plan) (p : Plan) → IsPlanned R done p → pictures (readings_of_plans done) ≡ planned_of done
    → IsWritten R (readings_of_plans done) p
planned_is_written R done p is same =
    let stored = needed_is_stored done p is.sends in
    let b = before_header (readings_of_plans done) p in
    let P : List Picture → Type 0 = λ ps. IsNext ps p.begun p.kind in
    record {
      sets = is.sets;
      sei = is.sei;
      pps = found (IsStored b) is.sends.needed (a_pps p.begun.pps) stored is.pps;
      sps = ap (λ id. stored_sps id b) is.refers ∙ found (IsStored b) is.sends.needed (an_sps p.begun.sps) stored is.sps;
      head = is.head;
      slices = is.slices;
      outside = is.outside;
      order = is.order;
      bodies = all_bodies b is.sends.needed p (planned_slices p) stored is.bodies;
      all = is.all;
      size = is.size;
      tid = is.tid;
      next = subst P (sym same) is.next;
    }

pub written_reads_again : WrittenReadsAgain
written_reads_again R [] is = record { read = refl; planned = refl; rests = record { closed = refl; goes_on = refl; none = refl } }
written_reads_again R (p ∷ done) is =
    let front = written_reads_again R done is.1 in
    let more = plan_reads_again R (readings_of_plans done) p front.rests (planned_is_written R done p is.0 front.planned) in
    record {
      read =
          goes_on R [] (units_written done) (units_of p)
          ∙ ap (λ o. unless_refused o.refusal o.before (λ b. read_on R b (units_of p))) front.read
          ∙ more.read;
      planned = more.one_more ∙ ap (λ ps. planned (readings_of_plans done) p ∷ ps) front.planned;
      rests = more.rests;
    }

header_keeps_body : (done : List Plan) (p : Plan) (u : Option (List ℕ)) (s : Set) → IsStored (before_header (readings_of_plans done) p) s
    → (a : Aps) → s ≡ an_aps a → stored_aps a.kind a.id (readings_after (before_header (readings_of_plans done) p) (header_readings u p.begun)) ≡ Some a
header_keeps_body done p u s is a same =
    let P : Set → Type 0 = IsStored (before_header (readings_of_plans done) p) in
    neutral (aps_in a.kind a.id) (before_header (readings_of_plans done) p) (header_readings u p.begun) (none_of_header (aps_in a.kind a.id) (aps_sets a.kind a.id) u p.begun)
    ∙ subst P same is

is_body : (done : List Plan) (p : Plan) (s : Set) → IsStored (before_header (readings_of_plans done) p) s → IsBodyOf (planned (readings_of_plans done) p) s
is_body done p (an_sps s) is = tt
is_body done p (a_pps s) is = tt
is_body done p (an_aps a) is = header_keeps_body done p p.begun.unit (an_aps a) is a refl

pub needed_is_body : NeededIsBody
needed_is_body done p s =
    each {Q = λ x. IsBodyOf (planned (readings_of_plans done) p) x.set} (λ x is. is_body done p x.set is) s.needed (needed_is_stored done p s)
