-- The first number of which a test tells that it holds.
use Rattle.std.proofs.Common.{ℕ, ◌<◌, Bool, true, false, Option, Some, None, refl, arith}
use Rattle.vx_fit.specs.Lowest.{IsLowestAnswer}
use Rattle.vx_frame.specs.inner.Found.{IsFirstTold}

pub lowest_told : (count : ℕ) (Breaks : ℕ → Type 0) (Told : ℕ → Bool → Type 0) (answer : Option ℕ) → IsFirstTold count Told answer
    → ((k : ℕ) → k < count → Told k true → Breaks k) → ((k : ℕ) → k < count → Told k false → ¬ Breaks k) → IsLowestAnswer count Breaks answer
lowest_told count Breaks Told None first breaks keeps = λ k within. keeps k within (first.lower k within)
lowest_told count Breaks Told (Some k) first breaks keeps =
    let found = first.found k refl in
    record { in_range = found.0; breaks = breaks k found.0 found.1; lower = λ j less. keeps j (omega (arith, less, found.0)) (first.lower j less) }
