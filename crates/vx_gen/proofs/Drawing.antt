-- What is drawn one after another.
use Rattle.std.proofs.Common.{◌≡◌, ℕ, ◌+◌, ◌*◌, ◌/◌, ◌%◌, refl, ap, ◌∙◌}
use Rattle.std.proofs.Math.Nat.{mod-add-mod, mul_comm}
use Rattle.vx_gen.specs.Draws.{byte_of, next}

-- the state as it is computed, where sums and products wrap
pub goes_on : (r : ℕ) → (r * 1664525 % 4294967296 + 1013904223) % 4294967296 ≡ next r
unfolding next
goes_on r = mod-add-mod (r * 1664525) 4294967296 1013904223 ∙ ap (λ x. (x + 1013904223) % 4294967296) (mul_comm r 1664525)

pub gives : (r : ℕ) → 1 + r / 65536 % 256 % 255 ≡ byte_of r
unfolding byte_of
gives r = refl
