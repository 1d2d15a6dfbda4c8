-- What is counted of a trial.
use Rattle.std.proofs.Common.{◌≡◌, ◌∙◌, ◌*◌, ◌++◌, ℕ, List, None, length, map, ap, sym, subst}
use Rattle.std.specs.List.{AllZip, concat, range_with_len}
use Rattle.std.proofs.lemmas.List.FromFn.{length-map-range_with_len}
use Rattle.vx_pic.specs.Parts.{parts_of}
use Rattle.vx_pic.specs.Rules.{Readers}
use Rattle.vx_extract.specs.Written.{IsExtraction}
use Rattle.vx_frame.specs.declared.corner.Corner.{Corner}
use Rattle.vx_gen.specs.Rounds.{corners, planned}
use Rattle.vx_gen.specs.Streams.{generated}
use Rattle.vx_trial.specs.declared.tally.Tally.{Tally}
use Rattle.vx_trial.specs.Trial.{IsTally, IsTrial, weight}
use Rattle.vx_trial.specs.inner.Laws.{IsTriedAgain, sources_of}
use Rattle.vx_trial.specs.inner.Merges.{CanBeTried, IsMergeOf}
use Rattle.vx_trial.specs.inner.Regions.{AllCanBeExtracted}

module _ (R : Readers) (seed n pictures : ℕ) (can : CanBeTried R (corners n) pictures (generated seed n pictures) (sources_of seed n pictures)) where
  -- they can be merged as they are made
  pub can_here : (at : List Corner) (streams : List (List ℕ)) → at ≡ corners n → streams ≡ generated seed n pictures
      → CanBeTried R at pictures streams (sources_of seed n pictures)
  can_here at streams same are =
      subst (λ (l : List Corner). CanBeTried R l pictures streams (sources_of seed n pictures)) (sym same)
      (subst (λ (l : List (List ℕ)). CanBeTried R (corners n) pictures l (sources_of seed n pictures)) (sym are) can)

  module _ (merged bytes : List ℕ) (made : IsMergeOf (corners n) (sources_of seed n pictures) merged) (again : IsTriedAgain R seed n pictures merged)
      (lent : bytes ≡ merged) where
    pub regions_here : AllCanBeExtracted R n pictures bytes again.merged
    regions_here = subst (λ (b : List ℕ). AllCanBeExtracted R n pictures b again.merged) (sym lent) again.regions

    module _ (parts : List (List ℕ)) (extracted : AllZip (λ k part. IsExtraction k None (map parts_of again.merged) part) (range_with_len 0 n) parts) where
      trial : IsTrial R (corners n) (generated seed n pictures) merged parts
      trial = record {
        sources = sources_of seed n pictures;
        read = can.read;
        done = made.done;
        rounds = made.rounds;
        written = made.written;
        pictures = again.merged;
        again = again.again;
        extracted = subst (λ (m : ℕ). AllZip (λ k part. IsExtraction k None (map parts_of again.merged) part) (range_with_len 0 m) parts)
            (sym (length-map-range_with_len (planned seed pictures) 0 n)) extracted;
      }

      pub is_tally : (t : Tally) → t.pictures ≡ pictures → t.slices ≡ n * pictures → t.bytes ≡ length merged → t.weight ≡ weight (bytes ++ concat parts)
          → IsTally R seed n pictures t
      is_tally t of_pictures slices size weight_is = record {
        merged = merged;
        parts = parts;
        is = trial;
        of_pictures = of_pictures;
        slices = slices;
        bytes = size;
        weight = weight_is ∙ ap (λ (b : List ℕ). weight (b ++ concat parts)) lent;
      }
