-- The sets that a written picture needs have a type and an id each, and its count is that of the picture it is written for.
use Rattle.std.proofs.Common.{◌≡◌, ℕ, ◌+◌, ◌^◌, ◌&&◌, Bool, true, false, not, List, [], ◌∷◌, ◌++◌, map, Option, Some, None, refl, ap, sym, subst, ◌∙◌, inl, inr}
use Rattle.std.specs.Prelude.{filter, flat_map}
use Rattle.std.proofs.lemmas.Bool.{and_parts, cases_Bool, not-true}
use Rattle.vx_bits.specs.declared.list.Item.{Item}
use Rattle.vx_aps.specs.declared.aps.Aps.{Aps}
use Rattle.vx_fields.specs.declared.sps.TheConstants as sps_fields
use Rattle.vx_table.specs.Scope.{fresh}
use Rattle.vx_pic.specs.Sets.{Slot, is_non_ref, lsb_of, max_lsb, msb_cycle}
use Rattle.vx_pic.specs.Readings.{Picture}
use Rattle.vx_pic.specs.Alike.{AlikeForCounts}
use Rattle.vx_pic.specs.Parts.{Parts, aps_at, parts_of}
use Rattle.vx_pic.specs.Written.{Plan, Set, a_pps, an_aps, an_sps}
use Rattle.vx_pic.specs.Resident.{is_resident, sent_before}
use Rattle.vx_extract.specs.Written.{IsExtracted, all_slots, aps_of_slot, is_named, needed_sets, same_type_and_id, set_of_slot}
use Rattle.vx_write.specs.Again.{SendsItsSets}
use Rattle.vx_write.proofs.OwnSets.{HaveOwn, IsAmong, Others, has_set, others_joined, own_units}
use Rattle.vx_extract.proofs.AgainSps.{sps_taken}

-- ---- types and ids

abbrev none_same : Slot → List Slot → Bool
none_same s [] = true
none_same s (t ∷ slots) = not (same_type_and_id s t) && none_same s slots

abbrev are_apart : List Slot → Bool
are_apart [] = true
are_apart (s ∷ slots) = none_same s slots && are_apart slots

all_apart : are_apart all_slots ≡ true
all_apart = refl

fewer_same : (p : Slot → Bool) (s : Slot) (slots : List Slot) → none_same s slots ≡ true → none_same s (filter p slots) ≡ true
fewer_same p s [] none = refl
fewer_same p s (t ∷ slots) none =
    let parts = and_parts (not (same_type_and_id s t)) (none_same s slots) none in
    elim (cases_Bool (p t)) [
      | inl on ↦ rw on (rw parts.0 (fewer_same p s slots parts.1))
      | inr off ↦ rw off (fewer_same p s slots parts.1)
    ]

fewer_apart : (p : Slot → Bool) (slots : List Slot) → are_apart slots ≡ true → are_apart (filter p slots) ≡ true
fewer_apart p [] all = refl
fewer_apart p (s ∷ slots) all =
    let parts = and_parts (none_same s slots) (are_apart slots) all in
    elim (cases_Bool (p s)) [
      | inl on ↦ rw on (rw (fewer_same p s slots parts.0) (fewer_apart p slots parts.1))
      | inr off ↦ rw off (fewer_apart p slots parts.1)
    ]

-- ---- their sets

-- a set of another type than adaptation parameter sets
other_sps : (q : Parts) (items : List Item) (slot : Slot) (found : Option Aps) → Others (an_sps items) (set_of_slot slot found)
other_sps q items slot None = tt
other_sps q items slot (Some a) = (refl, tt)

other_pps : (q : Parts) (items : List Item) (slot : Slot) (found : Option Aps) → Others (a_pps items) (set_of_slot slot found)
other_pps q items slot None = tt
other_pps q items slot (Some a) = (refl, tt)

no_sps : (q : Parts) (items : List Item) (slots : List Slot) → Others (an_sps items) (flat_map (aps_of_slot q) slots)
no_sps q items [] = tt
no_sps q items (s ∷ slots) = others_joined (an_sps items) (aps_of_slot q s) (flat_map (aps_of_slot q) slots) (other_sps q items s (aps_at q.bodies s.kind s.id)) (no_sps q items slots)

no_pps : (q : Parts) (items : List Item) (slots : List Slot) → Others (a_pps items) (flat_map (aps_of_slot q) slots)
no_pps q items [] = tt
no_pps q items (s ∷ slots) = others_joined (a_pps items) (aps_of_slot q s) (flat_map (aps_of_slot q) slots) (other_pps q items s (aps_at q.bodies s.kind s.id)) (no_pps q items slots)

-- and of another type and id
other_aps : (s t : Slot) (body : List ℕ) (found : Option Aps) → same_type_and_id s t ≡ false → Others (an_aps (record { kind = s.kind; id = s.id; body = body })) (set_of_slot t found)
other_aps s t body None other = tt
other_aps s t body (Some a) other = (other, tt)

no_aps : (q : Parts) (s : Slot) (body : List ℕ) (slots : List Slot) → none_same s slots ≡ true → Others (an_aps (record { kind = s.kind; id = s.id; body = body })) (flat_map (aps_of_slot q) slots)
no_aps q s body [] none = tt
no_aps q s body (t ∷ slots) none =
    let parts = and_parts (not (same_type_and_id s t)) (none_same s slots) none in
    others_joined (an_aps (record { kind = s.kind; id = s.id; body = body })) (aps_of_slot q t) (flat_map (aps_of_slot q) slots)
    (other_aps s t body (aps_at q.bodies t.kind t.id) (not-true (same_type_and_id s t) parts.0)) (no_aps q s body slots parts.1)

one_more : (q : Parts) (s : Slot) (found : Option Aps) (more : List Set) → ((body : List ℕ) → Others (an_aps (record { kind = s.kind; id = s.id; body = body })) more) → HaveOwn more → HaveOwn (set_of_slot s found ++ more)
one_more q s None more others own = own
one_more q s (Some a) more others own = (others a.body, own)

own_aps : (q : Parts) (slots : List Slot) → are_apart slots ≡ true → HaveOwn (flat_map (aps_of_slot q) slots)
own_aps q [] all = tt
own_aps q (s ∷ slots) all =
    let parts = and_parts (none_same s slots) (are_apart slots) all in
    one_more q s (aps_at q.bodies s.kind s.id) (flat_map (aps_of_slot q) slots) (λ body. no_aps q s body slots parts.0) (own_aps q slots parts.1)

own_sets : (q : Parts) (target : ℕ) (s p : List Item) → HaveOwn (needed_sets q target s p)
own_sets q target s p =
    let slots : List Slot = filter (is_named q target) all_slots in
    ((refl, no_sps q s slots), (no_pps q p slots, own_aps q slots (fewer_apart (is_named q target) all_slots all_apart)))

pub sends_again : (target : ℕ) (level : Option ℕ) (q : Parts) (done : List Plan) (p : Plan) → (ex : IsExtracted target level q done p) → SendsItsSets ex.needed done p
sends_again target level q done p ex =
    let tid : q.kind.temporal_id ≡ p.kind.temporal_id = ap (λ k. k.temporal_id) (sym ex.kind) in
    let sets : needed_sets q target p.begun.sps p.begun.pps ≡ map (λ u. u.set) ex.needed = sym ex.sets in
    record {
      sends = record {
        needed = ex.needed;
        slots = own_units ex.needed (subst HaveOwn sets (own_sets q target p.begun.sps p.begun.pps));
        sent = ex.sent ∙ ap (λ t. filter (λ x. not (is_resident t (sent_before done p) x)) ex.needed) tid;
      };
      same = refl;
      sps = has_set ex.needed (an_sps p.begun.sps) (subst (λ xs. IsAmong xs (an_sps p.begun.sps)) sets (inl refl));
      pps = has_set ex.needed (a_pps p.begun.pps) (subst (λ xs. IsAmong xs (a_pps p.begun.pps)) sets (inr (inl refl)));
    }

-- ---- counts

pub alike_again : (target : ℕ) (level : Option ℕ) (pic : Picture) (done : List Plan) (p : Plan) → IsExtracted target level (parts_of pic) done p → AlikeForCounts pic.begun p.begun
unfolding max_lsb fresh
alike_again target level pic done p ex = record {
  lsb = ap lsb_of (sym ex.header);
  cycle = ap msb_cycle (sym ex.header);
  non_ref = ap is_non_ref (sym ex.header);
  max = ap (λ n. 2 ^ (n + 4)) (sym (sps_taken (parts_of pic) target level p.begun.sps ex.sps sps_fields.sps_log2_max_pic_order_cnt_lsb_minus4 refl));
}
