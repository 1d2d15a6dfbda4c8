-- Adaptation parameter sets that a subpicture needs, one place more at a time.
use Rattle.std.proofs.Common.{◌≡◌, ℕ, zero, suc, ◌+◌, ◌/◌, ◌%◌, ◌≤◌, ◌<◌, take, Bool, true, false, cond, List, [], ◌∷◌, ◌++◌, map, flat_map, filter, refl, sym, ap, subst, ◌∙◌}
use Rattle.std.proofs.Common.{inl, inr, arith, Option, Some, None}
use Rattle.std.specs.Prelude.{◌==◌}
use Rattle.std.specs.List.{AllByRecursion, range_with_len}
use Rattle.std.proofs.lemmas.Bool.{cases_Bool, eqb-true}
use Rattle.std.proofs.lemmas.List.{append_cancel_left}
use Rattle.std.proofs.lemmas.List.FromFn.{take-map-range_with_len}
use Rattle.vx_bits.specs.declared.list.Item.{Item}
use Rattle.vx_aps.specs.declared.aps.Aps.{Aps}
use Rattle.vx_pic.specs.Sets.{Slot}
use Rattle.vx_pic.specs.Parts.{Parts, aps_at}
use Rattle.vx_pic.specs.Written.{Set, an_sps, a_pps, an_aps}
use Rattle.vx_write.specs.Sending.{AreOthers}
use Rattle.vx_write.proofs.Held.{both}
use Rattle.vx_write.proofs.SetBySet.{append_others}
use Rattle.vx_extract.specs.Written.{same_type_and_id, is_named, set_of_slot, aps_of_slot, all_slots, needed_sets}
use Rattle.vx_extract.specs.inner.Sending.{sets_to}
use Rattle.vx_extract.specs.inner.Needed.{slot_at, slot_count, needed_to}
use Rattle.vx_extract.proofs.Naming.{needed_more}

-- ---- adaptation parameter sets

aps_others : (slot : Slot) (body : List ℕ) (x : Slot) (o : Option Aps) → same_type_and_id x slot ≡ false
    → AreOthers (an_aps (record { kind = slot.kind; id = slot.id; body = body })) (set_of_slot x o)
aps_others slot body x None other = tt
aps_others slot body x (Some a) other = (other, tt)

abbrev AreOtherSlots : Slot → List Slot → Type 0
AreOtherSlots slot slots = AllByRecursion (λ x. same_type_and_id x slot ≡ false) slots

one_named : (q : Parts) (s : Set) (x : Slot) (slots : List Slot) (b : Bool) → AreOthers s (set_of_slot x (aps_at q.bodies x.kind x.id))
    → AreOthers s (flat_map (aps_of_slot q) slots) → AreOthers s (flat_map (aps_of_slot q) (cond b (x ∷ slots) slots))
one_named q s x slots true first rest = append_others s (aps_of_slot q x) (flat_map (aps_of_slot q) slots) first rest
one_named q s x slots false first rest = rest

named_others : (q : Parts) (test : Slot → Bool) (slot : Slot) (body : List ℕ) (slots : List Slot) → AreOtherSlots slot slots
    → AreOthers (an_aps (record { kind = slot.kind; id = slot.id; body = body })) (flat_map (aps_of_slot q) (filter test slots))
named_others q test slot body [] others = tt
named_others q test slot body (x ∷ slots) others =
    one_named q (an_aps (record { kind = slot.kind; id = slot.id; body = body })) x (filter test slots) (test x)
    (aps_others slot body x (aps_at q.bodies x.kind x.id) others.0)
    (named_others q test slot body slots others.1)

-- places are of other types or ids
other_place : (i k : ℕ) → i < k → same_type_and_id (slot_at i) (slot_at k) ≡ false
other_place i k less =
    elim (cases_Bool (same_type_and_id (slot_at i) (slot_at k))) [
      | inl same ↦
          let parts = both (i / 8 == k / 8) (i % 8 == k % 8) same in
          let kind = eqb-true (i / 8) (k / 8) parts.0 in
          let id = eqb-true (i % 8) (k % 8) parts.1 in
          absurd (omega arith)
      | inr other ↦ other
    ]

places_apart : (k a n : ℕ) → a + n ≤ k → AreOtherSlots (slot_at k) (map slot_at (range_with_len a n))
places_apart k a zero less = tt
places_apart k a (suc n) less = (other_place a k (omega arith), places_apart k (a + 1) n (omega arith))

all_places : all_slots ≡ map slot_at (range_with_len 0 slot_count)
all_places = refl

first_places : (i : ℕ) → i ≤ slot_count → take i all_slots ≡ map slot_at (range_with_len 0 i)
first_places i within = ap (take i) all_places ∙ take-map-range_with_len slot_at 0 slot_count i within

-- the set at a place is of another type or id than those before it
pub place_others : (q : Parts) (target : ℕ) (sps pps : List Item) (i : ℕ) (body : List ℕ) → i < slot_count
    → AreOthers (an_aps (record { kind = (slot_at i).kind; id = (slot_at i).id; body = body })) (sets_to q target sps pps i)
unfolding needed_to
place_others q target sps pps i body within =
    let apart : AreOtherSlots (slot_at i) (take i all_slots) =
    subst (AreOtherSlots (slot_at i)) (sym (first_places i (omega arith))) (places_apart i 0 i (omega arith)) in
    (refl, (refl, named_others q (is_named q target) (slot_at i) body (take i all_slots) apart))

abbrev kind_of : List Set → ℕ
kind_of (an_aps a ∷ more) = a.kind
kind_of _ = 0

abbrev id_in : List Set → ℕ
id_in (an_aps a ∷ more) = a.id
id_in _ = 0

set_at_place : (q : Parts) (slot : Slot) (a : Aps) (b : Bool) (o : Option Aps) → aps_at q.bodies slot.kind slot.id ≡ o
    → flat_map (aps_of_slot q) (cond b (slot ∷ []) []) ≡ an_aps a ∷ [] → (a.kind ≡ slot.kind) × (a.id ≡ slot.id)
set_at_place q slot a false o at is = absurd (cc)
set_at_place q slot a true None at is =
    let none : [] ≡ an_aps a ∷ [] = ap (λ o. set_of_slot slot o ++ []) (sym at) ∙ is in absurd (cc)
set_at_place q slot a true (Some b) at is =
    let one : an_aps (record { kind = slot.kind; id = slot.id; body = b.body }) ∷ [] ≡ an_aps a ∷ [] = ap (λ o. set_of_slot slot o ++ []) (sym at) ∙ is in
    let kind : slot.kind ≡ a.kind = ap kind_of one in
    let id : slot.id ≡ a.id = ap id_in one in
    (sym kind, sym id)

pub set_of_place : (q : Parts) (target i : ℕ) (a : Aps) → i < slot_count → needed_to q target (i + 1) ≡ needed_to q target i ++ an_aps a ∷ []
    → (a.kind ≡ (slot_at i).kind) × (a.id ≡ (slot_at i).id)
set_of_place q target i a within is =
    set_at_place q (slot_at i) a (is_named q target (slot_at i)) (aps_at q.bodies (slot_at i).kind (slot_at i).id) refl
    (append_cancel_left (needed_to q target i) _ _ (sym (needed_more q target i within) ∙ is))

-- one place more
pub to_more : (q : Parts) (target : ℕ) (sps pps : List Item) (i : ℕ) (more : List Set) → needed_to q target (i + 1) ≡ needed_to q target i ++ more
    → sets_to q target sps pps (i + 1) ≡ sets_to q target sps pps i ++ more
to_more q target sps pps i more is = ap (λ xs. an_sps sps ∷ a_pps pps ∷ xs) is

-- no place, and all
pub to_none : (q : Parts) (target : ℕ) (sps pps : List Item) → sets_to q target sps pps 0 ≡ an_sps sps ∷ a_pps pps ∷ []
unfolding needed_to
to_none q target sps pps = refl

pub to_all : (q : Parts) (target : ℕ) (sps pps : List Item) → sets_to q target sps pps slot_count ≡ needed_sets q target sps pps
unfolding needed_to
to_all q target sps pps = refl

-- ---- steps of the code

-- the set at a place, where there is one, in the words of its answer
pub others_at : (q : Parts) (target : ℕ) (sps pps : List Item) (i : ℕ) (a : Aps) → i < slot_count
    → needed_to q target (i + 1) ≡ needed_to q target i ++ an_aps a ∷ [] → AreOthers (an_aps a) (sets_to q target sps pps i)
others_at q target sps pps i a within is =
    let own = set_of_place q target i a within is in
    let P : ℕ → ℕ → Type 0 = λ kind id. AreOthers (an_aps (record { kind = kind; id = id; body = a.body })) (sets_to q target sps pps i) in
    let at : P (slot_at i).kind (slot_at i).id = place_others q target sps pps i a.body within in
    let number : P (slot_at i).kind a.id = subst (λ id. P (slot_at i).kind id) (sym own.1) at in
    subst (λ kind. P kind a.id) (sym own.0) number
