-- What the checks tell one behind another, and that a round that is verified has no mismatch.
use Rattle.std.proofs.Common.{◌≡◌, ◌≢◌, ℕ, suc, ◌<◌, List, length, slice_get, Option, Some, None, refl, sym, ap, subst, inl, inr, arith}
use Rattle.std.proofs.lemmas.Option.{slice_get_within}
use Rattle.vx_sps.specs.Subpictures.{subpics_of}
use Rattle.vx_fit.specs.Lowest.{IsLowest}
use Rattle.vx_pic.specs.Parts.{Parts}
use Rattle.vx_verify.specs.declared.spot.Spot.{Spot}
use Rattle.vx_verify.specs.declared.mismatch.Mismatch.{Mismatch}
use Rattle.vx_verify.specs.declared.mismatch.Mismatch.TheVariants as mismatches
use Rattle.vx_verify.specs.Verified.{HasAsMany, HasInputs, IsAlone, IsMismatch, IsRegion, IsVerified, StandsAtSpot, VerifiedHasNone, corner_check, count_check, slice_check}
use Rattle.vx_verify.specs.inner.Found.{AllOf, Finds, FindsInput}
use Rattle.vx_verify.proofs.Searching.{entry_at, never}

module _ (spots : List Spot) (finished : Parts) (round : List Parts) (places : length round ≡ length spots) where
  -- C1 passed
  abbrev Counted : Type 0
  Counted = (subpics_of finished.sps ≡ length round) × AllOf round IsAlone

  passed_counts : Counted → (k : ℕ) → k < suc (length round) → ¬ (count_check finished round).fails k
  passed_counts counted k low = never round IsAlone (subpics_of finished.sps ≢ length round) (λ other. other counted.0) counted.1 k

  passed_corners : AllOf spots (StandsAtSpot finished) → (k : ℕ) → k < suc (length round) → ¬ (corner_check spots finished).fails k
  passed_corners stand k low = never spots (StandsAtSpot finished) ⊥ (λ none. none) stand k

  passed_slices : AllOf round (HasAsMany finished) → (k : ℕ) → k < suc (length round) → ¬ (slice_check finished round).fails k
  passed_slices even k low = never round (HasAsMany finished) ⊥ (λ none. none) even k

  pub refused_count : (file : ℕ) → IsLowest (suc (length round)) (count_check finished round).fails file → IsMismatch spots finished round (mismatches.Count file)
  refused_count file lowest = inr (file, lowest, refl)

  pub refused_rect : Counted → (file : ℕ) → IsLowest (suc (length spots)) (corner_check spots finished).fails file → IsMismatch spots finished round (mismatches.Rect file)
  refused_rect counted file lowest =
      let own : IsLowest (suc (length round)) (corner_check spots finished).fails file = subst (λ n. IsLowest (suc n) (corner_check spots finished).fails file) (sym places) lowest in
      inl (passed_counts counted, inr (file, own, refl))

  pub refused_slices : Counted → AllOf spots (StandsAtSpot finished) → (file : ℕ) → IsLowest (suc (length round)) (slice_check finished round).fails file
      → IsMismatch spots finished round (mismatches.Slices file)
  refused_slices counted stand file lowest = inl (passed_counts counted, inl (passed_corners stand, inr (file, lowest, refl)))

  pub refused_input : Counted → AllOf spots (StandsAtSpot finished) → AllOf round (HasAsMany finished) → (m : Mismatch) → FindsInput finished round (Some m)
      → IsMismatch spots finished round m
  refused_input counted stand even m found = inl (passed_counts counted, inl (passed_corners stand, inl (passed_slices even, inr found)))

  pub accepted : Counted → AllOf spots (StandsAtSpot finished) → AllOf round (HasInputs finished) → IsVerified spots finished round
  accepted counted stand same = record {
    places = sym places;
    count = counted.0;
    each = λ k spot q there here. record { alone = counted.1 k q here; corner = stand k spot there; inputs = same k q here };
  }

  -- of what the last check tells
  pub found_last : Counted → AllOf spots (StandsAtSpot finished) → AllOf round (HasAsMany finished) → (found : Option Mismatch) → FindsInput finished round found
      → Finds spots finished round found
  found_last counted stand even None same = accepted counted stand same
  found_last counted stand even (Some m) found = refused_input counted stand even m found

-- ---- a round that is verified

module _ (spots : List Spot) (finished : Parts) (round : List Parts) (verified : IsVerified spots finished round) where
  region_of : (k : ℕ) (q : Parts) → slice_get round k ≡ Some q → (spot : Spot) × IsRegion finished k spot q
  region_of k q here =
      let there = entry_at spots k (omega (arith, slice_get_within round k q here, verified.places)) in
      (there.0, verified.each k there.0 q there.1 here)

  all_alone : AllOf round IsAlone
  all_alone k q here = (region_of k q here).1.alone

  all_stand : AllOf spots (StandsAtSpot finished)
  all_stand k spot there =
      let here = entry_at round k (omega (arith, slice_get_within spots k spot there, verified.places)) in
      (verified.each k spot here.0 there here.1).corner

  all_inputs : AllOf round (HasInputs finished)
  all_inputs k q here = (region_of k q here).1.inputs

  all_even : AllOf round (HasAsMany finished)
  all_even k q here = ap length (all_inputs k q here)

  none : (m : Mismatch) → ¬ IsMismatch spots finished round m
  none m (inr told) = never round IsAlone (subpics_of finished.sps ≢ length round) (λ other. other verified.count) all_alone told.0 told.1.breaks
  none m (inl (_, inr told)) = never spots (StandsAtSpot finished) ⊥ (λ none. none) all_stand told.0 told.1.breaks
  none m (inl (_, inl (_, inr told))) = never round (HasAsMany finished) ⊥ (λ none. none) all_even told.0 told.1.breaks
  none m (inl (_, inl (_, inl (_, inr told)))) = never round (HasInputs finished) ⊥ (λ none. none) all_inputs told.0 told.1.breaks
  none m (inl (_, inl (_, inl (_, inl told)))) = told.1

pub verified_has_none : VerifiedHasNone
verified_has_none spots finished round m verified = none spots finished round verified m
