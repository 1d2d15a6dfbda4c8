-- The lowest index at which something is broken. Our own. Contracts that name the lowest region or source rely on it.
use Rattle.std.specs.Prelude.{ℕ, ◌<◌, Option, None, Some}

-- k is the lowest of the indices below `count` that breaks the rule.
pub record IsLowest (count : ℕ) (Breaks : ℕ → Type 0) (k : ℕ) : Type 0 where
  pub in_range : k < count
  pub breaks : Breaks k
  pub lower : (j : ℕ) → j < k → ¬ Breaks j

-- That index, or none if none breaks it.
abbrev pub IsLowestAnswer : ℕ → (ℕ → Type 0) → Option ℕ → Type 0
IsLowestAnswer count Breaks None = (k : ℕ) → k < count → ¬ Breaks k
IsLowestAnswer count Breaks (Some k) = IsLowest count Breaks k
