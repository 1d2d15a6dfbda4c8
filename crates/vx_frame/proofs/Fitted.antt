-- What is told of regions that fit together, and of those that don't.
use Rattle.std.proofs.Common.{◌≡◌, ℕ, ◌<◌, List, [], ◌∷◌, length, Some, None, ap, refl, inl, inr, arith}
use Rattle.vx_bits.specs.declared.refusal.Refusal.TheVariants.{Merge}
use Rattle.vx_bits.specs.declared.rules.TheConstants as rules
use Rattle.vx_fit.specs.declared.placed.FitFault.{FitFault}
use Rattle.vx_fit.specs.declared.placed.FitFault.TheVariants.{TooLarge, Geometry, Order}
use Rattle.vx_fit.specs.declared.placed.Placed.{Placed}
use Rattle.vx_fit.specs.FitFaults.{IsGeometryFault}
use Rattle.vx_layout.specs.declared.numbers.Numbers.{Numbers}
use Rattle.vx_layout.specs.declared.rect.Rect.{Rect}
use Rattle.vx_fit.specs.laws.Fitting.{FitFaultIsOne, FittingHasNoFault, KeepingHasNoFault, LinesFaultIsOne}
use Rattle.vx_fit.specs.FrameLines.{HaveLines, IsLinesFault}
use Rattle.vx_fit.specs.FitFaults.{IsFitFault}
use Rattle.vx_fit.specs.Placing.{FitTogether}
use Rattle.vx_frame.specs.Rules.{rules_of_fit, tile_lines}
use Rattle.vx_frame.specs.inner.Found.{Finds, fit_refusal}

pub fits_found : (placed : List Placed) (ctb : ℕ) → FittingHasNoFault → FitTogether placed ctb → Finds (length placed) (rules_of_fit placed ctb) None
fits_found placed ctb none fit = record {
  verdict = inl ((λ k short. none placed ctb TooLarge fit), inl ((λ k short. none placed ctb (Geometry k) fit), inl ((λ k short. none placed ctb (Order k) fit), refl)));
}

-- which kind of fault it is, and of which region
abbrev kind_of : FitFault → ℕ
kind_of TooLarge = 0
kind_of (Geometry k) = 1
kind_of (Order k) = 2

abbrev region_in : FitFault → ℕ
region_in TooLarge = 0
region_in (Geometry k) = k
region_in (Order k) = k

geometry_within : (placed : List Placed) (ctb k : ℕ) → 0 < length placed → IsGeometryFault placed ctb k → k < length placed
geometry_within placed ctb k some fault =
    elim fault.cause [
      | inl off ↦ off.in_range
      | inr (inl overlap) ↦ overlap.lowest.in_range
      | inr (inr gap) ↦ omega (arith, gap.first, some)
    ]

pub misfit_found : (placed : List Placed) (ctb : ℕ) (fault : FitFault) → 0 < length placed → FitFaultIsOne → IsFitFault placed ctb fault
    → Finds (length placed) (rules_of_fit placed ctb) (Some (fit_refusal fault))
misfit_found placed ctb TooLarge some one is =
    record { verdict = inr (0, record { in_range = some; breaks = is; lower = λ j less. absurd (omega (arith, less)) }, refl) }
misfit_found placed ctb (Geometry k) some one is =
    record {
      verdict = inl (
        (λ j short large. is.small large),
        inr (
          k,
          record {
            in_range = geometry_within placed ctb k some is;
            breaks = is;
            lower = λ j less other. let same : j ≡ k = ap region_in (one placed ctb (Geometry j) (Geometry k) other is) in omega (arith, same, less);
          },
          refl,
        ),
      );
    }
misfit_found placed ctb (Order k) some one is =
    record {
      verdict = inl (
        (λ j short large. is.small large),
        inl (
          (λ j short other. let same : 1 ≡ 2 = ap kind_of (one placed ctb (Geometry j) (Order k) other is) in omega (arith, same)),
          inr (
            k,
            record {
              in_range = is.lowest.in_range;
              breaks = is;
              lower = λ j less other. let same : j ≡ k = ap region_in (one placed ctb (Order j) (Order k) other is) in omega (arith, same, less);
            },
            refl,
          ),
        ),
      );
    }

-- ---- lines

pub lines_found : (columns rows : List ℕ) (corners : List Rect) (parts : List Numbers) → KeepingHasNoFault → HaveLines columns rows corners parts
    → Finds (length corners) (tile_lines corners parts ∷ []) None
lines_found columns rows corners parts none lines = record { verdict = inl ((λ k short fault. none columns rows corners parts k lines fault), refl) }

pub crossed_found : (corners : List Rect) (parts : List Numbers) (k : ℕ) → LinesFaultIsOne → IsLinesFault corners parts k
    → Finds (length corners) (tile_lines corners parts ∷ []) (Some (Merge rules.TILE_LINES k 0))
crossed_found corners parts k one fault = record {
  verdict = inr (
    k,
    record {
      in_range = fault.in_range;
      breaks = fault;
      lower = λ j less other. let same : j ≡ k = one corners parts j k other fault in omega (arith, same, less);
    },
    refl,
  );
}
