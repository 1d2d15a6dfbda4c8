-- The adaptation parameter sets in force, at their places.
use Rattle.std.proofs.Common.{◌≡◌, ℕ, zero, suc, ◌+◌, ◌<◌, ◌≤◌, List, [], ◌∷◌, ◌++◌, length, refl, sym, ◌∙◌, ap, arith, inl, inr, cond, true, Err}
use Rattle.std.specs.Prelude.{◌==◌, None, is_none, nat_lt}
use Rattle.std.specs.List.{AllByRecursion, slice_index_or}
use Rattle.std.proofs.lemmas.Bool.{cases_Bool}
use Rattle.std.proofs.lemmas.Bool.Decides.{nat_tests}
use Rattle.std.proofs.lemmas.List.{get_or_append_left, get_or-append-add}
use Rattle.std.proofs.lemmas.List.FromFn.{get_or-map-range_with_len}
use Rattle.vx_bits.specs.declared.list.Item.{Item}
use Rattle.vx_fields.specs.declared.alf.TheConstants as alf
use Rattle.vx_fields.specs.declared.ph.TheConstants as ph
use Rattle.vx_pic.specs.Sets.{Slot, SliceHeader, named, named_filters, filter_items, names_of}
use Rattle.vx_pic.specs.Readings.{Reading, stored_aps}
use Rattle.vx_pic.specs.Rules.{missing, are_stored}
use Rattle.vx_pic.specs.Parts.{aps_at, id_count, slot_of, stored_of, stored_sets}
use Rattle.vx_assemble.specs.inner.Takes.{AreSmall}
use Rattle.vx_assemble.specs.inner.Joining.{all_there}

of_type : (before : List Reading) (kind id : ℕ) → id < id_count → slice_index_or (stored_of kind before) id None ≡ stored_aps kind id before
of_type before kind id low = get_or-map-range_with_len (λ i. stored_aps kind i before) 0 8 id id None low (omega arith)

-- each type has its places behind those of the types before it
at_slot : (before : List Reading) (kind id : ℕ) → kind ≤ 2 → id < id_count
    → slice_index_or (stored_sets before) (slot_of kind id) None ≡ stored_aps kind id before
at_slot before zero id few low =
    let first : slot_of 0 id ≡ id = omega arith in
    rw first (get_or_append_left (stored_of 0 before) (stored_of 1 before ++ stored_of 2 before) None id low ∙ of_type before 0 id low)
at_slot before (suc zero) id few low =
    get_or-append-add (stored_of 0 before) (stored_of 1 before ++ stored_of 2 before) id None
    ∙ get_or_append_left (stored_of 1 before) (stored_of 2 before) None id low ∙ of_type before 1 id low
at_slot before (suc (suc zero)) id few low =
    let behind : slot_of 2 id ≡ length (stored_of 0 before) + (length (stored_of 1 before) + id) = omega arith in
    rw behind
    (get_or-append-add (stored_of 0 before) (stored_of 1 before ++ stored_of 2 before) (length (stored_of 1 before) + id) None
    ∙ get_or-append-add (stored_of 1 before) (stored_of 2 before) id None ∙ of_type before 2 id low)
at_slot before (suc (suc (suc kind))) id few low = absurd (omega arith)

stored_at : (before : List Reading) (kind id : ℕ) → kind ≤ 2 → id < id_count → aps_at (stored_sets before) kind id ≡ stored_aps kind id before
stored_at before kind id few low =
    let type : nat_lt kind 3 ≡ true = grind (arith, nat_tests) in
    let within : nat_lt id 8 ≡ true = grind (arith, nat_tests) in
    rw (type, within) (at_slot before kind id few low)

-- ---- their types

-- each is of one of the three types
abbrev pub AreOfKinds : List Slot → Type 0
AreOfKinds slots = AllByRecursion (λ slot. slot.kind ≤ 2) slots

kinds_append : (a b : List Slot) → AreOfKinds a → AreOfKinds b → AreOfKinds (a ++ b)
kinds_append [] b first second = second
kinds_append (slot ∷ a) b first second = (first.0, kinds_append a b first.1 second)

kinds_named : (kind of : ℕ) (items : List Item) → kind ≤ 2 → AreOfKinds (named kind of items)
kinds_named kind of [] few = tt
kinds_named kind of (x ∷ items) few = elim (cases_Bool (x.field == of)) [
  | inl is ↦ rw is (few, kinds_named kind of items few)
  | inr other ↦ rw other (kinds_named kind of items few)
]

kinds_filters : (items : List Item) → AreOfKinds (named_filters items)
kinds_filters items =
    kinds_append (named 0 alf.alf_aps_id_luma items) _ (kinds_named 0 alf.alf_aps_id_luma items (omega arith))
    (kinds_append (named 0 alf.alf_aps_id_chroma items) _ (kinds_named 0 alf.alf_aps_id_chroma items (omega arith))
    (kinds_append (named 0 alf.alf_cc_cb_aps_id items) _ (kinds_named 0 alf.alf_cc_cb_aps_id items (omega arith))
    (kinds_named 0 alf.alf_cc_cr_aps_id items (omega arith))))

pub kinds_names : (p header : List Item) (h : SliceHeader) → AreOfKinds (names_of p header h)
unfolding names_of
kinds_names p header h =
    kinds_append (named_filters (filter_items p header h)) _ (kinds_filters (filter_items p header h))
    (kinds_append (named 1 ph.ph_lmcs_aps_id header) _ (kinds_named 1 ph.ph_lmcs_aps_id header (omega arith))
    (kinds_named 2 ph.ph_scaling_list_aps_id header (omega arith)))

-- ---- all of them

pub stored_there : (before : List Reading) (slots : List Slot) → AreOfKinds slots → AreSmall slots
    → are_stored before slots ≡ all_there (stored_sets before) slots
stored_there before [] kinds small = refl
stored_there before (slot ∷ slots) kinds small =
    ap (λ a. cond (is_none a) (Err (missing slot.kind slot.id)) (are_stored before slots)) (sym (stored_at before slot.kind slot.id kinds.0 small.0))
    ∙ ap (λ y. cond (is_none (aps_at (stored_sets before) slot.kind slot.id)) (Err (missing slot.kind slot.id)) y)
    (stored_there before slots kinds.1 small.1)
