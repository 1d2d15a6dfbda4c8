-- The id that the PPS takes is as its slot is to be taken.
use Rattle.std.proofs.Common.{◌≡◌, ℕ, ◌<◌, List, [], ◌∷◌, slice_index, Option, Some, None, refl, sym, subst, ◌∙◌, inl, inr, arith}
use Rattle.std.specs.Prelude.{unwrap_or}
use Rattle.vx_bits.specs.declared.list.Item.{Item}
use Rattle.vx_fit.specs.Lowest.{IsLowest, IsLowestAnswer}
use Rattle.vx_pps.specs.Pps.{ArePpsItems}
use Rattle.vx_pic.specs.Resident.{last_of}
use Rattle.vx_pic.specs.Written.{Set, a_pps, SetUnit}
use Rattle.vx_write.specs.Slots.{AreLastOf, Sent, a_pps_of, is_vacant, pps_with_id}
use Rattle.vx_write.proofs.Headed.{with_id_slot}
use Rattle.vx_write.proofs.Vacant.{none_sent_there, vacant_alike, vacant_there}
use Rattle.vx_frame.specs.Counts.{pps_slots}
use Rattle.vx_merge.specs.Slots.{Holds, IsHeld, IsTaken, TakeSlots, TakesFree}
use Rattle.vx_merge.specs.inner.Taking.{IsEmptyPps, IsHeldAs}

module _ (slots : List Sent) (t : ℕ) (pps : List Item) (is : ArePpsItems pps) (sent : List SetUnit) (last : AreLastOf sent slots) where
  abbrev at : ℕ → ℕ → Set
  at = λ k id. a_pps (pps_with_id id pps)

  -- nothing was sent with an id exactly where no PPS was
  vacant_is : (i : ℕ) → i < pps_slots → is_vacant (a_pps_of i) slots ≡ is_vacant (at 0 i) slots
  vacant_is i low = vacant_alike (a_pps_of i) (at 0 i) slots (with_id_slot i pps (omega (arith, low)) is)

  empty : (i : ℕ) → i < pps_slots → IsEmptyPps slots i → last_of (at 0 i) sent ≡ None
  empty i low none = none_sent_there sent slots (at 0 i) last (sym (vacant_is i low) ∙ none)

  empty_back : (i : ℕ) → i < pps_slots → last_of (at 0 i) sent ≡ None → IsEmptyPps slots i
  empty_back i low none = vacant_is i low ∙ vacant_there sent slots (at 0 i) last none

  only : (k : ℕ) → k < 1 → k ≡ 0
  only k less = omega (arith, less)

  -- one that is resident
  pub held_taken : (id : ℕ) → IsLowest pps_slots (IsHeldAs slots t pps) id → TakeSlots pps_slots 1 t sent at (id ∷ [])
  held_taken id low = record {
    one_each = refl;
    held = λ k within holding. subst (λ j. IsLowest pps_slots (Holds pps_slots 1 t sent at j) (slice_index (id ∷ []) j)) (sym (only k within))
        (record { in_range = low.in_range; breaks = sym (last t (at 0 id)) ∙ low.breaks; lower = λ j less holds. low.lower j less (last t (at 0 j) ∙ holds) });
    others = λ k within none. absurd (none (id, low.in_range, sym (last t (at k id)) ∙ low.breaks));
  }

  none_held : ((i : ℕ) → i < pps_slots → ¬ IsHeldAs slots t pps i) → (k : ℕ) → ¬ IsHeld pps_slots 1 t sent at k
  none_held none k holding = none holding.0 holding.1 (last t (at k holding.0) ∙ holding.2)

  none_taken : ((i : ℕ) → i < pps_slots → ¬ IsHeldAs slots t pps i) → (ids : List ℕ) (i : ℕ) → ¬ IsTaken pps_slots 1 t sent at ids 0 i
  none_taken none ids i (j, within, same, inl holding) = none_held none j holding
  none_taken none ids i (j, within, same, inr less) = omega (arith, less)

  -- the lowest empty id, or else 0
  takes_free : ((i : ℕ) → i < pps_slots → ¬ IsHeldAs slots t pps i) → (o : Option ℕ) → IsLowestAnswer pps_slots (IsEmptyPps slots) o
      → TakesFree pps_slots 1 t sent at (unwrap_or o 0 ∷ []) 0 (unwrap_or o 0)
  takes_free none (Some id) low = inl (record {
    in_range = low.in_range;
    breaks = (empty id low.in_range low.breaks, none_taken none (id ∷ []) id);
    lower = λ j less fresh. let top = low.in_range in low.lower j less (empty_back j (omega (arith, less, top)) fresh.0);
  })
  takes_free none None full = inr (
    λ i less fresh. full i less (empty_back i less fresh.0),
    record { in_range = omega arith; breaks = none_taken none (0 ∷ []) 0; lower = λ j less free. absurd (omega (arith, less)) },
  )

  pub free_taken : ((i : ℕ) → i < pps_slots → ¬ IsHeldAs slots t pps i) → (o : Option ℕ) → IsLowestAnswer pps_slots (IsEmptyPps slots) o
      → TakeSlots pps_slots 1 t sent at (unwrap_or o 0 ∷ [])
  free_taken none o lowest = record {
    one_each = refl;
    held = λ k within holding. absurd (none_held none k holding);
    others = λ k within isn't. subst (λ j. TakesFree pps_slots 1 t sent at (unwrap_or o 0 ∷ []) j (slice_index (unwrap_or o 0 ∷ []) j)) (sym (only k within)) (takes_free none o lowest);
  }

pub low_answer : (slots : List Sent) (o : Option ℕ) → IsLowestAnswer pps_slots (IsEmptyPps slots) o → unwrap_or o 0 < pps_slots
low_answer slots None none = omega arith
low_answer slots (Some id) low = low.in_range
