-- The adaptation parameter sets that headers name.
use Rattle.std.proofs.Common.{◌≡◌, ℕ, ℤ, ◌+◌, ◌≤◌, Bool, true, false, List, [], ◌∷◌, ◌++◌, length, drop, refl, sym, ◌∙◌, ap, subst, Result, Ok, Err}
use Rattle.std.specs.Prelude.{◌==◌, Option, Some, slice_get, is_none}
use Rattle.std.proofs.lemmas.Bool.{cases_Bool}
use Rattle.std.proofs.Common.{inl, inr}
use Rattle.vx_bits.specs.declared.list.Item.{Item}
use Rattle.vx_bits.specs.declared.refusal.Refusal.{Refusal}
use Rattle.vx_aps.specs.declared.aps.Aps.{Aps}
use Rattle.vx_pic.specs.Answers.{◌>>=◌}
use Rattle.vx_fields.specs.declared.alf.TheConstants as alf
use Rattle.vx_fields.specs.declared.ph.TheConstants as ph
use Rattle.vx_pic.specs.Sets.{Slot, named, named_filters, filter_items, names_of, slice_qp, is_qp}
use Rattle.vx_bits.specs.declared.rules.TheConstants as rules
use Rattle.vx_pic.specs.Rules.{missing, structure}
use Rattle.vx_pic.specs.Parts.{aps_at, AreThere, aps_named_by, read_of}
use Rattle.vx_sh.specs.declared.header.SliceHeader.{SliceHeader as SliceValue}
use Rattle.vx_assemble.specs.inner.Takes.{AreSmall}
use Rattle.vx_assemble.specs.inner.Joining.{all_there, items_only, names_in, qp_in, qp_checked}
use Rattle.vx_table.proofs.Places.{dropped_at, dropped_all}

-- ---- one behind another

by_first : (sets : List (Option Aps)) (slot : Slot) (b : Bool) (more slots : List Slot) → is_none (aps_at sets slot.kind slot.id) ≡ b
    → (all_there sets (more ++ slots) ≡ (all_there sets more >>= λ _. all_there sets slots))
    → all_there sets (slot ∷ (more ++ slots)) ≡ (all_there sets (slot ∷ more) >>= λ _. all_there sets slots)
by_first sets slot true more slots is on = rw is refl
by_first sets slot false more slots is on = rw is on

pub there_append : (sets : List (Option Aps)) (a b : List Slot) → all_there sets (a ++ b) ≡ (all_there sets a >>= λ _. all_there sets b)
there_append sets [] b = refl
there_append sets (slot ∷ a) b = by_first sets slot (is_none (aps_at sets slot.kind slot.id)) a b refl (there_append sets a b)

pub first_bad : (sets : List (Option Aps)) (a b : List Slot) (r : Refusal) → Err r ≡ all_there sets a → Err r ≡ all_there sets (a ++ b)
first_bad sets a b r is = sym (there_append sets a b ∙ ap (λ x. x >>= λ _. all_there sets b) (sym is))

pub first_good : (sets : List (Option Aps)) (a b : List Slot) (y : Result (Unit {0}) Refusal) → Ok tt ≡ all_there sets a → y ≡ all_there sets b
    → y ≡ all_there sets (a ++ b)
first_good sets a b y is then = then ∙ sym (there_append sets a b ∙ ap (λ x. x >>= λ _. all_there sets b) (sym is))

pub front_small : (a b : List Slot) → AreSmall (a ++ b) → AreSmall a
front_small [] b small = tt
front_small (slot ∷ a) b small = (small.0, front_small a b small.1)

pub back_small : (a b : List Slot) → AreSmall (a ++ b) → AreSmall b
back_small [] b small = small
back_small (slot ∷ a) b small = back_small a b small.1

-- ---- item by item

pub named_cons : (kind of : ℕ) (x : Item) (items : List Item) → named kind of (x ∷ items) ≡ named kind of (x ∷ []) ++ named kind of items
named_cons kind of x items = elim (cases_Bool (x.field == of)) [ inl is ↦ rw is refl | inr other ↦ rw other refl ]

-- so far they are there
pub record ThereSoFar (sets : List (Option Aps)) (kind of : ℕ) (items : List Item) (i : ℕ) : Type 0 where
  pub left : all_there sets (named kind of items) ≡ all_there sets (named kind of (drop i items))
  pub small : AreSmall (named kind of (drop i items))

pub there_first : (sets : List (Option Aps)) (kind of : ℕ) (items : List Item) → AreSmall (named kind of items) → ThereSoFar sets kind of items 0
there_first sets kind of items small = record { left = refl; small = small }

at_item : (kind of : ℕ) (items : List Item) (i : ℕ) (x : Item) → slice_get items i ≡ Some x
    → named kind of (drop i items) ≡ named kind of (x ∷ []) ++ named kind of (drop (i + 1) items)
at_item kind of items i x is = ap (λ l. named kind of l) (dropped_at items i x is) ∙ named_cons kind of x (drop (i + 1) items)

pub item_small : (sets : List (Option Aps)) (kind of : ℕ) (items : List Item) (i : ℕ) (x : Item) → slice_get items i ≡ Some x
    → ThereSoFar sets kind of items i → AreSmall (named kind of (x ∷ []))
item_small sets kind of items i x is far =
    front_small (named kind of (x ∷ [])) (named kind of (drop (i + 1) items)) (subst (λ l. AreSmall l) (at_item kind of items i x is) far.small)

pub there_on : (sets : List (Option Aps)) (kind of : ℕ) (items : List Item) (i : ℕ) (x : Item) → slice_get items i ≡ Some x
    → ThereSoFar sets kind of items i → Ok tt ≡ all_there sets (named kind of (x ∷ [])) → ThereSoFar sets kind of items (i + 1)
there_on sets kind of items i x is far there =
    let e = at_item kind of items i x is in
    record {
      left = far.left ∙ ap (λ l. all_there sets l) e
          ∙ sym (first_good sets (named kind of (x ∷ [])) (named kind of (drop (i + 1) items)) (all_there sets (named kind of (drop (i + 1) items))) there refl);
      small = back_small (named kind of (x ∷ [])) (named kind of (drop (i + 1) items)) (subst (λ l. AreSmall l) e far.small);
    }

pub there_not : (sets : List (Option Aps)) (kind of : ℕ) (items : List Item) (i : ℕ) (x : Item) (r : Refusal) → slice_get items i ≡ Some x
    → ThereSoFar sets kind of items i → Err r ≡ all_there sets (named kind of (x ∷ [])) → Err r ≡ all_there sets (named kind of items)
there_not sets kind of items i x r is far bad =
    first_bad sets (named kind of (x ∷ [])) (named kind of (drop (i + 1) items)) r bad
    ∙ sym (far.left ∙ ap (λ l. all_there sets l) (at_item kind of items i x is))

pub there_all : (sets : List (Option Aps)) (kind of : ℕ) (items : List Item) (i : ℕ) → length items ≤ i → ThereSoFar sets kind of items i
    → Ok tt ≡ all_there sets (named kind of items)
there_all sets kind of items i past far = sym (far.left ∙ ap (λ l. all_there sets (named kind of l)) (dropped_all items i past))

-- ---- all of them

by_slot : (sets : List (Option Aps)) (slot : Slot) (slots : List Slot) (b : Bool) → is_none (aps_at sets slot.kind slot.id) ≡ b
    → (Ok tt ≡ all_there sets slots → AreThere sets slots) → Ok tt ≡ all_there sets (slot ∷ slots) → AreThere sets (slot ∷ slots)
by_slot sets slot slots true is on there = absurd (let e : Ok tt ≡ Err (missing slot.kind slot.id) = there ∙ rw is refl in cc)
by_slot sets slot slots false is on there = (is, on (there ∙ rw is refl))

pub are_there : (sets : List (Option Aps)) (slots : List Slot) → Ok tt ≡ all_there sets slots → AreThere sets slots
are_there sets [] there = tt
are_there sets (slot ∷ slots) there = by_slot sets slot slots (is_none (aps_at sets slot.kind slot.id)) refl (are_there sets slots) there

-- ---- the filters

abbrev luma : List Item → List Slot
luma items = named 0 alf.alf_aps_id_luma items

abbrev chroma : List Item → List Slot
chroma items = named 0 alf.alf_aps_id_chroma items

abbrev cb : List Item → List Slot
cb items = named 0 alf.alf_cc_cb_aps_id items

abbrev cr : List Item → List Slot
cr items = named 0 alf.alf_cc_cr_aps_id items

-- none of those that they name has an id that none can have
pub record SmallFilters (items : List Item) : Type 0 where
  pub luma_small : AreSmall (luma items)
  pub chroma_small : AreSmall (chroma items)
  pub cb_small : AreSmall (cb items)
  pub cr_small : AreSmall (cr items)

pub small_filters : (items : List Item) → AreSmall (named_filters items) → SmallFilters items
small_filters items small =
    let second = back_small (luma items) (chroma items ++ (cb items ++ cr items)) small in
    let third = back_small (chroma items) (cb items ++ cr items) second in
    record {
      luma_small = front_small (luma items) (chroma items ++ (cb items ++ cr items)) small;
      chroma_small = front_small (chroma items) (cb items ++ cr items) second;
      cb_small = front_small (cb items) (cr items) third;
      cr_small = back_small (cb items) (cr items) third;
    }

pub luma_bad : (sets : List (Option Aps)) (items : List Item) (r : Refusal) → Err r ≡ all_there sets (luma items)
    → Err r ≡ all_there sets (named_filters items)
luma_bad sets items r bad = first_bad sets (luma items) (chroma items ++ (cb items ++ cr items)) r bad

pub chroma_bad : (sets : List (Option Aps)) (items : List Item) (r : Refusal) → Ok tt ≡ all_there sets (luma items)
    → Err r ≡ all_there sets (chroma items) → Err r ≡ all_there sets (named_filters items)
chroma_bad sets items r one bad =
    first_good sets (luma items) (chroma items ++ (cb items ++ cr items)) (Err r) one (first_bad sets (chroma items) (cb items ++ cr items) r bad)

pub cb_bad : (sets : List (Option Aps)) (items : List Item) (r : Refusal) → Ok tt ≡ all_there sets (luma items) → Ok tt ≡ all_there sets (chroma items)
    → Err r ≡ all_there sets (cb items) → Err r ≡ all_there sets (named_filters items)
cb_bad sets items r one two bad =
    first_good sets (luma items) (chroma items ++ (cb items ++ cr items)) (Err r) one
    (first_good sets (chroma items) (cb items ++ cr items) (Err r) two (first_bad sets (cb items) (cr items) r bad))

pub cr_said : (sets : List (Option Aps)) (items : List Item) (y : Result (Unit {0}) Refusal) → Ok tt ≡ all_there sets (luma items)
    → Ok tt ≡ all_there sets (chroma items) → Ok tt ≡ all_there sets (cb items) → y ≡ all_there sets (cr items) → y ≡ all_there sets (named_filters items)
cr_said sets items y one two three last =
    first_good sets (luma items) (chroma items ++ (cb items ++ cr items)) y one
    (first_good sets (chroma items) (cb items ++ cr items) y two (first_good sets (cb items) (cr items) y three last))

-- ---- all that a slice names

abbrev lmcs : List Item → List Slot
lmcs header = named 1 ph.ph_lmcs_aps_id header

abbrev scaling : List Item → List Slot
scaling header = named 2 ph.ph_scaling_list_aps_id header

in_parts : (p header slice : List Item)
    → names_in p header slice ≡ named_filters (filter_items p header (items_only slice)) ++ (lmcs header ++ scaling header)
unfolding names_of
in_parts p header slice = refl

pub record SmallNames (p header slice : List Item) : Type 0 where
  pub filters_small : AreSmall (named_filters (filter_items p header (items_only slice)))
  pub lmcs_small : AreSmall (lmcs header)
  pub scaling_small : AreSmall (scaling header)

pub small_names : (p header slice : List Item) → AreSmall (names_in p header slice) → SmallNames p header slice
small_names p header slice small =
    let filters = named_filters (filter_items p header (items_only slice)) in
    let all : AreSmall (filters ++ (lmcs header ++ scaling header)) = subst (λ l. AreSmall l) (in_parts p header slice) small in
    let rest = back_small filters (lmcs header ++ scaling header) all in
    record {
      filters_small = front_small filters (lmcs header ++ scaling header) all;
      lmcs_small = front_small (lmcs header) (scaling header) rest;
      scaling_small = back_small (lmcs header) (scaling header) rest;
    }

pub filters_bad : (sets : List (Option Aps)) (p header slice : List Item) (r : Refusal)
    → Err r ≡ all_there sets (named_filters (filter_items p header (items_only slice))) → Err r ≡ all_there sets (names_in p header slice)
filters_bad sets p header slice r bad =
    first_bad sets (named_filters (filter_items p header (items_only slice))) (lmcs header ++ scaling header) r bad
    ∙ sym (ap (λ l. all_there sets l) (in_parts p header slice))

pub lmcs_bad : (sets : List (Option Aps)) (p header slice : List Item) (r : Refusal)
    → Ok tt ≡ all_there sets (named_filters (filter_items p header (items_only slice))) → Err r ≡ all_there sets (lmcs header)
    → Err r ≡ all_there sets (names_in p header slice)
lmcs_bad sets p header slice r one bad =
    first_good sets (named_filters (filter_items p header (items_only slice))) (lmcs header ++ scaling header) (Err r) one
    (first_bad sets (lmcs header) (scaling header) r bad)
    ∙ sym (ap (λ l. all_there sets l) (in_parts p header slice))

pub scaling_said : (sets : List (Option Aps)) (p header slice : List Item) (y : Result (Unit {0}) Refusal)
    → Ok tt ≡ all_there sets (named_filters (filter_items p header (items_only slice))) → Ok tt ≡ all_there sets (lmcs header)
    → y ≡ all_there sets (scaling header) → y ≡ all_there sets (names_in p header slice)
scaling_said sets p header slice y one two last =
    first_good sets (named_filters (filter_items p header (items_only slice))) (lmcs header ++ scaling header) y one
    (first_good sets (lmcs header) (scaling header) y two last)
    ∙ sym (ap (λ l. all_there sets l) (in_parts p header slice))

-- ---- in the words of a picture's parts

pub named_there : (sets : List (Option Aps)) (p header : List Item) (h : SliceValue) → Ok tt ≡ all_there sets (names_in p header h.fields)
    → AreThere sets (aps_named_by p header h)
unfolding names_of
named_there sets p header h there = are_there sets (aps_named_by p header h) there

by_qp : (s : List Item) (qp : ℤ) (x : Unit {0}) (b : Bool) → is_qp s qp ≡ b → Ok x ≡ qp_checked s qp → is_qp s qp ≡ true
by_qp s qp x true is fine = is
by_qp s qp x false is fine = absurd (let e : Ok x ≡ Err (structure rules.QP_RANGE) = fine ∙ rw is refl in cc)

pub qp_fine : (s p header : List Item) (h : SliceValue) (x : Unit {0}) → Ok x ≡ qp_checked s (qp_in p header h.fields)
    → is_qp s (slice_qp p header (read_of h)) ≡ true
unfolding slice_qp
qp_fine s p header h x fine = by_qp s (qp_in p header h.fields) x (is_qp s (qp_in p header h.fields)) refl fine
