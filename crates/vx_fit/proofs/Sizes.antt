-- The greatest number that regions give.
use Rattle.std.proofs.Common.{◌≡◌, ℕ, zero, suc, ◌+◌, ◌<◌, ◌≤◌, max, List, [], ◌∷◌, length, get_or, take, arith, inl, inr}
use Rattle.std.proofs.lemmas.Bool.{cases_lt}
use Rattle.vx_fit.specs.declared.placed.Placed.{Placed}
use Rattle.vx_fit.specs.Placing.{greatest_by}

-- one region more
pub greatest_more : (f : Placed → ℕ) (ps : List Placed) (i : ℕ) (d : Placed) → i < length ps → greatest_by f (take (i + 1) ps) ≡ max (f (get_or ps i d)) (greatest_by f (take i ps))
greatest_more f [] i d short = absurd (omega arith)
greatest_more f (p ∷ ps) zero d short = omega arith
greatest_more f (p ∷ ps) (suc i) d short =
    let more = greatest_more f ps i d (omega arith) in
    let next : suc i + 1 ≡ suc (i + 1) = omega arith in
    rw next (omega (arith, more))

-- no region gives more
pub greatest_bounds : (f : Placed → ℕ) (ps : List Placed) (k : ℕ) (d : Placed) → k < length ps → f (get_or ps k d) ≤ greatest_by f ps
greatest_bounds f [] k d short = absurd (omega arith)
greatest_bounds f (p ∷ ps) zero d short = omega arith
greatest_bounds f (p ∷ ps) (suc k) d short = omega (arith, greatest_bounds f ps k d (omega arith))

-- what is below the greatest is below what one gives
pub greatest_above : (f : Placed → ℕ) (ps : List Placed) (n : ℕ) (d : Placed) → n < greatest_by f ps → (k : ℕ) × (k < length ps) × (n < f (get_or ps k d))
greatest_above f [] n d below = absurd (omega arith)
greatest_above f (p ∷ ps) n d below =
    elim (cases_lt n (f p)) [
      | inl first ↦ (0, omega arith, first)
      | inr later ↦ let rest = greatest_above f ps n d (omega arith) in (suc rest.0, omega (arith, rest.1), rest.2)
    ]
