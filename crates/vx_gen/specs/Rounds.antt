-- Generated streams merged side by side. Our own.
use Rattle.std.specs.Prelude.{◌≡◌, ℕ, ◌+◌, ◌*◌, ◌<◌, ◌≤◌, List, [], ◌∷◌, length, map, option_map, reverse, slice_get, Some, None}
use Rattle.std.specs.List.{range_with_len}
use Rattle.vx_bits.specs.declared.refusal.Refusal.{Refusal}
use Rattle.vx_pic.specs.Parts.{Parts, parts_of}
use Rattle.vx_pic.specs.Readings.{Picture}
use Rattle.vx_pic.specs.Resident.{planned_of}
use Rattle.vx_pic.specs.Written.{Plan}
use Rattle.vx_frame.specs.declared.corner.Corner.{Corner}
use Rattle.vx_frame.specs.Corners.{AreCorners}
use Rattle.vx_frame.specs.Rules.{rules_of}
use Rattle.vx_frame.specs.Verdict.{IsVerdict}
use Rattle.vx_merge.specs.Merging.{IsBarred, Passes}
use Rattle.vx_gen.specs.Pictures.{plans}
use Rattle.vx_gen.specs.Shown.{generated_parts}

-- The corners of the sources, in luma samples.
abbrev pub corners : ℕ → List Corner
corners sources = map (λ k. record { x = 128 * k; y = 0 }) (range_with_len 0 sources)

-- Picture p of each source, each of which has `pictures` pictures.
abbrev pub round : (seed pictures sources p : ℕ) → List Parts
round seed pictures sources p = map (λ k. generated_parts seed (5 * (k * pictures) + 5 * p) k p) (range_with_len 0 sources)

-- The pictures of source k as they are read from its stream, the latest one first.
abbrev pub planned : (seed pictures k : ℕ) → List Picture
planned seed pictures k = planned_of (plans seed (5 * (k * pictures)) k pictures)

-- ---- what is known of them

-- These corners can be those of a merge.
pub record CanBeCorners (sources : ℕ) : Type 0 where
  pub are : AreCorners (corners sources)
  pub count : length (corners sources) ≡ sources

abbrev pub CornersAreThere : Type 0
CornersAreThere = (sources : ℕ) → 1 ≤ sources → sources ≤ 16 → CanBeCorners sources

-- Each source has `pictures` pictures, and picture p of each, in the order of the stream, makes round p.
abbrev pub PlannedAreSoMany : Type 0
PlannedAreSoMany = (seed pictures k : ℕ) → length (planned seed pictures k) ≡ pictures

abbrev pub PlannedMakeRounds : Type 0
PlannedMakeRounds = (seed pictures sources p : ℕ) → p < pictures
    → map (λ k. option_map parts_of (slice_get (reverse (planned seed pictures k)) p)) (range_with_len 0 sources)
    ≡ map (λ q. Some q) (round seed pictures sources p)

-- ---- what is written of them

-- They break no rule on merges.
abbrev pub GeneratedBreakNoRule : Type 0
GeneratedBreakNoRule = (seed pictures sources p : ℕ) → 1 ≤ sources → sources ≤ 16
    → IsVerdict sources (rules_of (corners sources) (round seed pictures sources p)) None

-- The first rounds, as many as plans, are written so, each after those before it; the latest plan comes first.
abbrev pub AreGeneratedRounds : (seed pictures sources : ℕ) → List Plan → Type 0
AreGeneratedRounds seed pictures sources [] = Unit {0}
AreGeneratedRounds seed pictures sources (p ∷ done) =
    Passes (corners sources) None (round seed pictures sources (length done)) done p × AreGeneratedRounds seed pictures sources done

-- The next one is never barred: no rule is broken, and no limit.
abbrev pub GeneratedAreNotBarred : Type 0
GeneratedAreNotBarred = (seed pictures sources : ℕ) (done : List Plan) (r : Refusal) → 1 ≤ sources → sources ≤ 16 → length done < 1000
    → AreGeneratedRounds seed pictures sources done
    → ¬ IsBarred (corners sources) None (round seed pictures sources (length done)) done r
