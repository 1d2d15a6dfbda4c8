-- Sets take their ids in one way.
use Rattle.std.proofs.Common.{◌≡◌, ℕ, zero, suc, ◌+◌, ◌<◌, List, [], ◌∷◌, slice_index, sym, ap, ◌∙◌, inl, inr, arith}
use Rattle.std.specs.Prelude.{◌⊎◌}
use Rattle.std.proofs.lemmas.Bool.{cases_eq}
use Rattle.std.proofs.lemmas.List.{ext_get_or}
use Rattle.vx_bits.specs.declared.list.Item.{Item}
use Rattle.vx_fit.specs.Lowest.{IsLowest}
use Rattle.vx_fit.proofs.Single.{lowest_one}
use Rattle.vx_pic.specs.Parts.{Parts}
use Rattle.vx_pic.specs.Written.{Set, SetUnit}
use Rattle.vx_merge.specs.Needed.{Ids, TakeIds}
use Rattle.vx_merge.specs.Slots.{Holds, IsFresh, IsHeld, IsTaken, TakeSlots, TakesFree}

lowest_alike : (count : ℕ) (P Q : ℕ → Type 0) (k : ℕ) → ((i : ℕ) → P i → Q i) → ((i : ℕ) → Q i → P i) → IsLowest count P k → IsLowest count Q k
lowest_alike count P Q k there back is = record { in_range = is.in_range; breaks = there k is.breaks; lower = λ j below breaks. is.lower j below (back j breaks) }

module _ (count n t : ℕ) (sent : List SetUnit) (at : ℕ → ℕ → Set) where
  -- the slots of those that a slot holds are the same, and of those before set k
  abbrev AreSameFor : List ℕ → List ℕ → ℕ → Type 0
  AreSameFor a b k = (j : ℕ) → j < n → IsHeld count n t sent at j ⊎ (j < k) → slice_index a j ≡ slice_index b j

  turned : (a b : List ℕ) (k : ℕ) → AreSameFor a b k → AreSameFor b a k
  turned a b k same j short why = sym (same j short why)

  taken_alike : (a b : List ℕ) (k i : ℕ) → AreSameFor a b k → IsTaken count n t sent at a k i → IsTaken count n t sent at b k i
  taken_alike a b k i same taken = (taken.0, taken.1, sym (same taken.0 taken.1 taken.3) ∙ taken.2, taken.3)

  fresh_alike : (a b : List ℕ) (k i : ℕ) → AreSameFor a b k → IsFresh count n t sent at a k i → IsFresh count n t sent at b k i
  fresh_alike a b k i same fresh = (fresh.0, λ taken. fresh.1 (taken_alike b a k i (turned a b k same) taken))

  free_one : (a b : List ℕ) (k x y : ℕ) → AreSameFor a b k → TakesFree count n t sent at a k x → TakesFree count n t sent at b k y → x ≡ y
  free_one a b k x y same first second =
      let back = turned a b k same in
      elim first [
        | inl fresh ↦ elim second [
          | inl too ↦ lowest_one count (IsFresh count n t sent at a k) x y fresh
              (lowest_alike count (IsFresh count n t sent at b k) (IsFresh count n t sent at a k) y (λ i. fresh_alike b a k i back) (λ i. fresh_alike a b k i same) too)
          | inr none ↦ absurd (none.0 x fresh.in_range (fresh_alike a b k x same fresh.breaks))
        ]
        | inr none ↦ elim second [
          | inl fresh ↦ absurd (none.0 y fresh.in_range (fresh_alike b a k y back fresh.breaks))
          | inr too ↦ lowest_one count (λ i. ¬ IsTaken count n t sent at a k i) x y none.1
              (lowest_alike count (λ i. ¬ IsTaken count n t sent at b k i) (λ i. ¬ IsTaken count n t sent at a k i) y
              (λ i free taken. free (taken_alike a b k i same taken)) (λ i free taken. free (taken_alike b a k i back taken)) too.1)
        ]
      ]

  module _ (a b : List ℕ) (first : TakeSlots count n t sent at a) (second : TakeSlots count n t sent at b) where
    held_one : (k : ℕ) → k < n → IsHeld count n t sent at k → slice_index a k ≡ slice_index b k
    held_one k short held = lowest_one count (Holds count n t sent at k) (slice_index a k) (slice_index b k) (first.held k short held) (second.held k short held)

    one_at : (k : ℕ) → k < n → ((j : ℕ) → j < k → j < n → slice_index a j ≡ slice_index b j) → slice_index a k ≡ slice_index b k
    one_at k short before =
        elim (cases_eq (slice_index a k) (slice_index b k)) [
          | inl same ↦ same
          | inr other ↦
              let same_for : AreSameFor a b k = λ j within why. elim why [ inl held ↦ held_one j within held | inr earlier ↦ before j earlier within ] in
              let not_held : ¬ IsHeld count n t sent at k = λ held. other (held_one k short held) in
              absurd (other (free_one a b k (slice_index a k) (slice_index b k) same_for (first.others k short not_held) (second.others k short not_held)))
        ]

    one_below : (m k : ℕ) → k < m → k < n → slice_index a k ≡ slice_index b k
    one_below zero k less short = absurd (omega (arith, less))
    one_below (suc m) k less short = one_at k short (λ j earlier within. one_below m j (omega (arith, earlier, less)) within)

    slots_one : a ≡ b
    slots_one = ext_get_or 0 a b (first.one_each ∙ sym second.one_each) (λ i within. one_below (i + 1) i (omega arith) (let size = first.one_each in omega (arith, within, size)))

pub ids_one : (round : List Parts) (t : ℕ) (sent : List SetUnit) (pps : List Item) (a b : Ids) → TakeIds round t sent pps a → TakeIds round t sent pps b → a ≡ b
ids_one round t sent pps a b first second =
    let of_pps = ap (λ ids. slice_index ids 0) (slots_one _ _ t sent _ (a.pps ∷ []) (b.pps ∷ []) first.of_pps second.of_pps) in
    let of_alf = slots_one _ _ t sent _ a.alf b.alf first.of_alf second.of_alf in
    let of_lmcs = slots_one _ _ t sent _ a.lmcs b.lmcs first.of_lmcs second.of_lmcs in
    let of_scaling = slots_one _ _ t sent _ a.scaling b.scaling first.of_scaling second.of_scaling in
    λ j. record { pps = of_pps j; alf = of_alf j; lmcs = of_lmcs j; scaling = of_scaling j }
