-- The adaptation parameter sets that a written picture needs can be read again, and all that its slices name are among them.
use Rattle.std.proofs.Common.{◌≡◌, ◌⊎◌, ℕ, zero, suc, ◌+◌, ◌<◌, ◌≤◌, ◌&&◌, Bool, true, false, cond, List, [], ◌∷◌, ◌++◌, map, Option, Some, None, refl, ap, sym, subst, ◌∙◌, inl, inr, arith}
use Rattle.std.specs.Prelude.{filter, flat_map, is_none, nat_lt, slice_index_or}
use Rattle.std.specs.List.{AllByRecursion, list_any, range_with_len}
use Rattle.std.proofs.lemmas.Bool.{and_parts, cases_Bool, cases_eq, eq-eqb, ltb-true, true≢false}
use Rattle.vx_aps.specs.declared.aps.Aps.{Aps}
use Rattle.vx_aps.specs.declared.aps.TheConstants.{ALF, LMCS, SCALING}
use Rattle.vx_fields.specs.declared.pps.TheConstants as pps_fields
use Rattle.vx_table.specs.Loaded.{number}
use Rattle.vx_table.specs.Scope.{fresh}
use Rattle.vx_layout.proofs.Parts.{Each-append}
use Rattle.vx_pic.specs.Sets.{Slot, names_of}
use Rattle.vx_pic.specs.Parts.{AreThere, Parts, SlicePart, aps_at, id_count, aps_named_by, slot_of}
use Rattle.vx_pic.specs.Written.{Plan, Set, an_aps}
use Rattle.vx_pic.specs.Resident.{HasSet, HaveNamed}
use Rattle.vx_extract.specs.Written.{IsExtracted, all_slots, aps_of_slot, is_named, named_in, needed_aps, parts_in, same_type_and_id, set_of_slot, slice_alone, slots_of}
use Rattle.vx_write.specs.Again.{HasItsBodies, HasReadableSets, IsReadable}
use Rattle.vx_write.proofs.OwnSets.{IsAmong, among_first, among_second, has_set, units_hold}
use Rattle.vx_write.specs.InForce.{AreInForce}
use Rattle.vx_extract.proofs.AgainAgree.{pps_taken}

-- ---- slots in lists

abbrev pub Has : List Slot → Slot → Type 0
Has [] s = ⊥
Has (t ∷ slots) s = (t ≡ s) ⊎ Has slots s

pub has_first : (xs ys : List Slot) (s : Slot) → Has xs s → Has (xs ++ ys) s
has_first [] ys s is = absurd is
has_first (x ∷ xs) ys s (inl same) = inl same
has_first (x ∷ xs) ys s (inr more) = inr (has_first xs ys s more)

pub has_second : (xs ys : List Slot) (s : Slot) → Has ys s → Has (xs ++ ys) s
has_second [] ys s is = is
has_second (x ∷ xs) ys s is = inr (has_second xs ys s is)

pub has_all : (P : Slot → Type 0) (slots : List Slot) (s : Slot) → AllByRecursion P slots → Has slots s → P s
has_all P [] s all is = absurd is
has_all P (t ∷ slots) s all (inl same) = subst P same all.0
has_all P (t ∷ slots) s all (inr more) = has_all P slots s all.1 more

same_itself : (s : Slot) → same_type_and_id s s ≡ true
same_itself s = rw (eq-eqb s.kind s.kind refl, eq-eqb s.id s.id refl) refl

any_has : (slots : List Slot) (s : Slot) → Has slots s → list_any (same_type_and_id s) slots ≡ true
any_has [] s is = absurd is
any_has (t ∷ slots) s (inl same) = subst (λ u. list_any (same_type_and_id s) (u ∷ slots) ≡ true) (sym same) (rw (same_itself s) refl)
any_has (t ∷ slots) s (inr more) = elim (cases_Bool (same_type_and_id s t)) [
  | inl on ↦ rw on refl
  | inr off ↦ rw off (any_has slots s more)
]

-- all ids of a type
ids_from : (kind from count id : ℕ) → from ≤ id → id < from + count → Has (map (λ n. record { kind = kind; id = n }) (range_with_len from count)) (record { kind = kind; id = id })
ids_from kind from zero id low high = absurd (omega (arith, low, high))
ids_from kind from (suc count) id low high = elim (cases_eq from id) [
  | inl same ↦ inl (ap (λ n. record { kind = kind; id = n }) same)
  | inr other ↦ inr (ids_from kind (from + 1) count id (omega (arith, low, other)) (omega (arith, high)))
]

in_all : (kind id : ℕ) → kind < 3 → id < id_count → Has all_slots (record { kind = kind; id = id })
in_all zero id few low = has_first (slots_of ALF) (slots_of LMCS ++ slots_of SCALING) _ (ids_from 0 0 id_count id (omega arith) (omega (arith, low)))
in_all (suc zero) id few low = has_second (slots_of ALF) (slots_of LMCS ++ slots_of SCALING) _ (has_first (slots_of LMCS) (slots_of SCALING) _ (ids_from 1 0 id_count id (omega arith) (omega (arith, low))))
in_all (suc (suc zero)) id few low = has_second (slots_of ALF) (slots_of LMCS ++ slots_of SCALING) _ (has_second (slots_of LMCS) (slots_of SCALING) _ (ids_from 2 0 id_count id (omega arith) (omega (arith, low))))
in_all (suc (suc (suc kind))) id few low = absurd (omega (arith, few))

-- ---- sets of slots

abbrev pub set_at : Slot → Aps → Set
set_at s a = an_aps (record { kind = s.kind; id = s.id; body = a.body })

among_found : (s : Slot) (found : Option Aps) (a : Aps) → found ≡ Some a → IsAmong (set_of_slot s found) (set_at s a)
among_found s found a is = subst (λ o. IsAmong (set_of_slot s o) (set_at s a)) (sym is) (inl refl)

among_named : (q : Parts) (named : Slot → Bool) (slots : List Slot) (s : Slot) (a : Aps) → Has slots s → named s ≡ true → aps_at q.bodies s.kind s.id ≡ Some a → IsAmong (flat_map (aps_of_slot q) (filter named slots)) (set_at s a)
among_named q named [] s a is on there = absurd is
among_named q named (t ∷ slots) s a (inl same) on there =
    let here : named t ≡ true = ap named same ∙ on in
    rw here (among_first (aps_of_slot q t) (flat_map (aps_of_slot q) (filter named slots)) (set_at s a)
    (subst (λ u. IsAmong (aps_of_slot q u) (set_at s a)) (sym same) (among_found s (aps_at q.bodies s.kind s.id) a there)))
among_named q named (t ∷ slots) s a (inr more) on there =
    let rest = among_named q named slots s a more on there in
    elim (cases_Bool (named t)) [
      | inl yes_ ↦ rw yes_ (among_second (aps_of_slot q t) (flat_map (aps_of_slot q) (filter named slots)) (set_at s a) rest)
      | inr no_ ↦ rw no_ rest
    ]

-- what holds of each set that is named
found_hold : (Q : Set → Type 0) (s : Slot) (found : Option Aps) → ((a : Aps) → found ≡ Some a → Q (set_at s a)) → AllByRecursion Q (set_of_slot s found)
found_hold Q s None each = tt
found_hold Q s (Some a) each = (each a refl, tt)

pub slots_hold : (Q : Set → Type 0) (q : Parts) → ((s : Slot) (a : Aps) → aps_at q.bodies s.kind s.id ≡ Some a → Q (set_at s a)) → (slots : List Slot) → AllByRecursion Q (flat_map (aps_of_slot q) slots)
slots_hold Q q each [] = tt
slots_hold Q q each (s ∷ slots) =
    Each-append Q (aps_of_slot q s) (flat_map (aps_of_slot q) slots) (found_hold Q s (aps_at q.bodies s.kind s.id) (λ a is. each s a is)) (slots_hold Q q each slots)

-- ---- a set that is there

pub record IsThere (sets : List (Option Aps)) (s : Slot) : Type 0 where
  pub aps : Aps
  pub found : aps_at sets s.kind s.id ≡ Some aps
  pub kind : s.kind < 3
  pub id : s.id < id_count

some_of : (o : Option Aps) → is_none o ≡ false → (a : Aps) × (o ≡ Some a)
some_of None none = absurd (true≢false none)
some_of (Some a) is = (a, refl)

pub is_there : (sets : List (Option Aps)) (s : Slot) → is_none (aps_at sets s.kind s.id) ≡ false → IsThere sets s
is_there sets s some =
    let test : Bool = nat_lt s.kind (SCALING + 1) && nat_lt s.id id_count in
    let found = some_of (aps_at sets s.kind s.id) some in
    elim (cases_Bool test) [
      | inl on ↦
          let parts = and_parts (nat_lt s.kind (SCALING + 1)) (nat_lt s.id id_count) on in
          record { aps = found.0; found = found.1; kind = ltb-true s.kind (SCALING + 1) parts.0; id = ltb-true s.id id_count parts.1 }
      | inr off ↦ absurd (true≢false (ap (λ b. is_none (cond b (slice_index_or sets (slot_of s.kind s.id) None) None)) (sym off) ∙ some))
    ]

module _ (target : ℕ) (level : Option ℕ) (q : Parts) (done : List Plan) (p : Plan) (are : AreInForce q) (valid : HasReadableSets q) (there : AreThere q.bodies (named_in q target)) (ex : IsExtracted target level q done p) where
  names_same : (s : SlicePart) → names_of p.begun.pps p.begun.header (slice_alone s).header ≡ aps_named_by q.pps q.header.fields s.header
  unfolding names_of fresh
  names_same s =
      let flag : number p.begun.pps pps_fields.pps_alf_info_in_ph_flag ≡ number q.pps pps_fields.pps_alf_info_in_ph_flag =
      sym (pps_taken target level q p.begun.sps p.begun.pps are (record { of_sps = ex.sps; of_pps = ex.pps }) pps_fields.pps_alf_info_in_ph_flag refl) in
      rw (flag, ex.header) refl

  -- each set that is named
  pub there_of : (s : Slot) → Has (named_in q target) s → IsThere q.bodies s
  there_of s is = is_there q.bodies s (has_all (λ t. is_none (aps_at q.bodies t.kind t.id) ≡ false) (named_in q target) s there is)

  pub body_needed : (s : Slot) (is : Has (named_in q target) s) → HasSet ex.needed (set_at s (there_of s is).aps)
  body_needed s is =
      let at = there_of s is in
      let among : IsAmong (needed_aps q target) (set_at s at.aps) = among_named q (is_named q target) all_slots s at.aps (in_all s.kind s.id at.kind at.id) (any_has (named_in q target) s is) at.found in
      has_set ex.needed (set_at s at.aps) (subst (λ xs. IsAmong xs (set_at s at.aps)) (sym ex.sets) (inr (inr among)))

  one_named : (s : Slot) → Has (named_in q target) s → (a : Aps) × (a.kind ≡ s.kind) × (a.id ≡ s.id) × HasSet ex.needed (an_aps a)
  one_named s is = (record { kind = s.kind; id = s.id; body = (there_of s is).aps.body }, refl, refl, body_needed s is)

  all_named : (slots : List Slot) → ((s : Slot) → Has slots s → Has (named_in q target) s) → HaveNamed ex.needed slots
  all_named [] inside = tt
  all_named (s ∷ slots) inside = (one_named s (inside s (inl refl)), all_named slots (λ t is. inside t (inr is)))

  abbrev names_all : List SlicePart → List Slot
  names_all parts = flat_map (λ (s : SlicePart). aps_named_by q.pps q.header.fields s.header) parts

  each_named : (parts : List SlicePart) → ((s : Slot) → Has (names_all parts) s → Has (named_in q target) s) → AllByRecursion (λ s. HaveNamed ex.needed (names_of p.begun.pps p.begun.header s.header)) (map slice_alone parts)
  each_named [] inside = tt
  each_named (s ∷ parts) inside = (
    subst (λ slots. HaveNamed ex.needed slots) (sym (names_same s)) (all_named (aps_named_by q.pps q.header.fields s.header) (λ t is. inside t (has_first (aps_named_by q.pps q.header.fields s.header) (names_all parts) t is))),
    each_named parts (λ t is. inside t (has_second (aps_named_by q.pps q.header.fields s.header) (names_all parts) t is)),
  )

  pub bodies_again : HasItsBodies ex.needed p
  bodies_again = record {
    readable = units_hold IsReadable ex.needed (subst (λ xs. AllByRecursion IsReadable xs) (sym ex.sets) (tt, (tt, slots_hold IsReadable q valid (filter (is_named q target) all_slots))));
    bodies = subst (λ xs. AllByRecursion (λ s. HaveNamed ex.needed (names_of p.begun.pps p.begun.header s.header)) xs) (sym ex.slices) (each_named (parts_in q target) (λ s is. is));
  }
