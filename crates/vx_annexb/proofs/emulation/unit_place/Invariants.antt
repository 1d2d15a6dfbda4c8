use Rattle.std.proofs.Common.{ℕ, ◌≡◌, ◌+◌, ◌≤◌, ◌<◌, length, ◌-◌}
use Rattle.vx_annexb.specs.Emulation.{unescaped_to}
use Rattle.vx_annexb.proofs.emulation.unit_place.Given as goal

abbrev pub invariant-loop-left : goal.invariant-loop-left
invariant-loop-left l = (l.place ≤ length l.unit) × (length (unescaped_to l.unit l.place) + l.left ≡ l.n) × ((k : ℕ) → k < l.place → length (unescaped_to l.unit k) ≡ l.n → ⊥)

abbrev pub decreases-loop-left : goal.decreases-loop-left
decreases-loop-left l = length l.unit - l.place
