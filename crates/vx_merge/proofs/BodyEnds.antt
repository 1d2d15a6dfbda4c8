-- Bodies that sets in force have can end a unit.
use Rattle.std.proofs.Common.{◌≡◌, ℕ, ℤ, zero, suc, ◌+◌, ◌*◌, ◌/◌, ◌%◌, ◌<◌, ◌≤◌, ◌&&◌, Bool, Bor, List, [], ◌∷◌, ◌++◌, map, take, length, get_or, Option, Some, None, subst, inl, inr, arith}
use Rattle.std.specs.Prelude.{IfSome, nat_lt, flat_map, option_copied, option_and_then, option_to_list}
use Rattle.std.specs.List.{AllByRecursion}
use Rattle.std.proofs.lemmas.Bool.{cases_Bool, ltb-true}
use Rattle.vx_bits.specs.Codes.{EndsInNoZero}
use Rattle.vx_bits.specs.declared.list.Item.{Item}
use Rattle.vx_bits.specs.Fields.{first_value}
use Rattle.vx_table.specs.Scope.{natural}
use Rattle.vx_aps.specs.declared.aps.TheConstants as aps
use Rattle.vx_fields.specs.declared.alf.TheConstants as alf
use Rattle.vx_fields.specs.declared.ph.TheConstants.{ph_lmcs_aps_id, ph_scaling_list_aps_id}
use Rattle.vx_pic.specs.Inputs.{alf_of, bodies_of, body_of, named_body}
use Rattle.vx_pic.specs.Parts.{Parts, SlicePart, id_count, read_of}
use Rattle.vx_pic.specs.Sets.{Slot, filter_items, named}
use Rattle.vx_frame.specs.declared.bodies.RoundBodies.{RoundBodies}
use Rattle.vx_frame.specs.Bodies.{bodies_in, filters_in, filters_of, has_lmcs, has_scaling, is_among, lmcs_body, once, scaling_body, with_bodies}
use Rattle.vx_frame.specs.Shapes.{of_lowest}
use Rattle.vx_frame.specs.inner.Gathered.{AreGathered, HasNone, IsLowestWith}
use Rattle.vx_frame.proofs.Reading.{lowest_absent}
use Rattle.vx_merge.specs.inner.Sending.{CanEnd, HasEnds, HaveEnds}
use Rattle.vx_write.proofs.Held.{both}

abbrev CanAllEnd : List (List ℕ) → Type 0
CanAllEnd bodies = AllByRecursion CanEnd bodies

ends_append : (xs ys : List (List ℕ)) → CanAllEnd xs → CanAllEnd ys → CanAllEnd (xs ++ ys)
ends_append [] ys first second = second
ends_append (x ∷ xs) ys first second = (first.0, ends_append xs ys first.1 second)

-- ---- of a picture

pub ends_listed : (o : Option (List ℕ)) → IfSome o CanEnd → CanAllEnd (option_to_list o)
ends_listed None is = tt
ends_listed (Some b) is = (is, tt)

pub ends_lent : (o : Option (Bor (List ℕ))) → IfSome o (λ (b : Bor (List ℕ)). 0 < length b.now) → IfSome o (λ (b : Bor (List ℕ)). EndsInNoZero b.now) → IfSome (option_copied o) CanEnd
ends_lent None some ends = tt
ends_lent (Some b) some ends = (some, ends)

-- places of all types and ids
pub ends_all : (q : Parts) → ((i : ℕ) → i < 24 → IfSome (body_of q (i / 8) (i % 8)) CanEnd) → HasEnds q
ends_all q each kind id = elim (cases_Bool (nat_lt kind (aps.SCALING + 1) && nat_lt id id_count)) [
  | inl is ↦
      let parts = both (nat_lt kind (aps.SCALING + 1)) (nat_lt id id_count) is in
      let few = ltb-true kind (aps.SCALING + 1) parts.0 in
      let low = ltb-true id id_count parts.1 in
      let at = each (8 * kind + id) (omega (arith, few, low)) in
      let type_is : (8 * kind + id) / 8 ≡ kind = omega (arith, low) in
      let id_is : (8 * kind + id) % 8 ≡ id = omega (arith, low) in
      subst (λ k. IfSome (body_of q k id) CanEnd) type_is (subst (λ i. IfSome (body_of q ((8 * kind + id) / 8) i) CanEnd) id_is at)
  | inr not ↦ rw not tt
]

ends_named : (q : Parts) (kind of : ℕ) (items : List Item) → HasEnds q → IfSome (named_body q kind of items) CanEnd
ends_named q kind of items has = by (first_value items of)
  where
    by : (o : Option ℤ) → IfSome (option_and_then (λ id. body_of q kind (natural id)) o) CanEnd
    by None = tt
    by (Some v) = has kind (natural v)

ends_bodies : (q : Parts) (slots : List Slot) → HasEnds q → CanAllEnd (bodies_of q slots)
ends_bodies q [] has = tt
ends_bodies q (slot ∷ slots) has = ends_append (option_to_list (body_of q slot.kind slot.id)) (bodies_of q slots) (ends_listed (body_of q slot.kind slot.id) (has slot.kind slot.id)) (ends_bodies q slots has)

ends_alf : (q : Parts) (items : List Item) → HasEnds q → CanAllEnd (bodies_in (alf_of q items))
ends_alf q items has =
    let one = λ (of : ℕ). ends_listed (named_body q aps.ALF of items) (ends_named q aps.ALF of items has) in
    let a = alf_of q items in
    ends_append a.luma (option_to_list a.chroma ++ (option_to_list a.cc_cb ++ option_to_list a.cc_cr)) (ends_bodies q (named aps.ALF alf.alf_aps_id_luma items) has)
    (ends_append (option_to_list a.chroma) (option_to_list a.cc_cb ++ option_to_list a.cc_cr) (one alf.alf_aps_id_chroma)
    (ends_append (option_to_list a.cc_cb) (option_to_list a.cc_cr) (one alf.alf_cc_cb_aps_id) (one alf.alf_cc_cr_aps_id)))

ends_slices : (q : Parts) (slices : List SlicePart) → HasEnds q → CanAllEnd (flat_map (filters_of q) slices)
ends_slices q [] has = tt
ends_slices q (s ∷ slices) has =
    ends_append (filters_of q s) (flat_map (filters_of q) slices) (ends_alf q (filter_items q.pps q.header.fields (read_of s.header)) has) (ends_slices q slices has)

-- ---- of a round

ends_filters : (round : List Parts) → AllByRecursion HasEnds round → CanAllEnd (flat_map filters_in round)
ends_filters [] all = tt
ends_filters (q ∷ round) all = ends_append (filters_in q) (flat_map filters_in round) (ends_slices q q.slices all.0) (ends_filters round all.1)

ends_with : (bodies xs : List (List ℕ)) → CanAllEnd bodies → CanAllEnd xs → CanAllEnd (with_bodies bodies xs)
ends_with bodies [] all more = all
ends_with bodies (x ∷ xs) all more = elim (cases_Bool (is_among x bodies)) [
  | inl is ↦ rw is (ends_with bodies xs all more.1)
  | inr none ↦ rw none (ends_with (bodies ++ x ∷ []) xs (ends_append bodies (x ∷ []) all (more.0, tt)) more.1)
]

pub ends_alf_bodies : (round : List Parts) → AllByRecursion HasEnds round → CanAllEnd (once (flat_map filters_in round))
ends_alf_bodies round all = ends_with [] (flat_map filters_in round) tt (ends_filters round all)

-- of the lowest picture that names one
pub ends_lowest : (has : Parts → Bool) (kind of : ℕ) (round : List Parts) → AllByRecursion HasEnds round → CanAllEnd (option_to_list (of_lowest has (λ q. named_body q kind of q.header.fields) None round))
ends_lowest has kind of [] all = tt
ends_lowest has kind of (q ∷ round) all = elim (cases_Bool (has q)) [
  | inl is ↦ rw is (ends_listed (named_body q kind of q.header.fields) (ends_named q kind of q.header.fields all.0))
  | inr none ↦ rw none (ends_lowest has kind of round all.1)
]

pub all_end : (round : List Parts) → AllByRecursion HasEnds round → HaveEnds round
all_end round all = record {
  alf = ends_alf_bodies round all;
  lmcs = ends_lowest has_lmcs aps.LMCS ph_lmcs_aps_id round all;
  scaling = ends_lowest has_scaling aps.SCALING ph_scaling_list_aps_id round all;
}

-- where there are none
ends_none : (bodies : List (Bor (List ℕ))) → length bodies ≡ 0 → CanAllEnd (map (λ b. b.now) bodies)
ends_none [] is = tt
ends_none (b ∷ bodies) is = absurd (omega (arith, is))

pub none_end : (round : List Parts) (b : RoundBodies) → AreGathered round b → b.filters.too_many ≡ None → HasNone b → HaveEnds round
none_end round b are few none = record {
  alf = subst CanAllEnd (are.filters.all few) (ends_none b.filters.bodies none.filters);
  lmcs = subst (λ o. CanAllEnd (option_to_list o)) (lowest_absent has_lmcs lmcs_body None round (subst (IsLowestWith has_lmcs round) none.lmcs are.lmcs)) tt;
  scaling = subst (λ o. CanAllEnd (option_to_list o)) (lowest_absent has_scaling scaling_body None round (subst (IsLowestWith has_scaling round) none.scaling are.scaling)) tt;
}

-- one picture more
pub ends_more : (round : List Parts) (k : ℕ) (q : Parts) → k < length round → q ≡ get_or round k q → HasEnds q → AllByRecursion HasEnds (take k round) → AllByRecursion HasEnds (take (k + 1) round)
ends_more [] k q within at has all = absurd (omega (arith, within))
ends_more (x ∷ round) zero q within at has all = let same : q ≡ x = at in (subst HasEnds same has, tt)
ends_more (x ∷ round) (suc k) q within at has all =
    let next : suc k + 1 ≡ suc (k + 1) = omega arith in
    rw next (all.0, ends_more round k q (omega (arith, within)) at has all.1)

pub few_listed : (o : Option (List ℕ)) → length (option_to_list o) ≤ 1
few_listed None = omega arith
few_listed (Some b) = omega arith
