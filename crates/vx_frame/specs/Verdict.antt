-- Rules that sources may break, and the verdict on them: the first rule in order that is broken, with the lowest source that breaks it.
-- Our own.
use Rattle.std.specs.Prelude.{◌≡◌, ℕ, ◌<◌, ◌⊎◌, List, [], ◌∷◌, Option, Some, None}
use Rattle.vx_bits.specs.declared.refusal.Refusal.{Refusal}
use Rattle.vx_fit.specs.Lowest.{IsLowest}

-- A rule: source k breaks it, and this is then the refusal.
pub record Rule : Type 1 where
  pub breaks : ℕ → Type 0
  pub tells : ℕ → Refusal

-- The verdict on n sources by rules in order. If no source breaks the first rule, it is that by the others; otherwise it is the refusal
-- for the lowest source that breaks it. It is none if no rule is broken.
abbrev pub IsVerdict : ℕ → List Rule → Option Refusal → Type 0
IsVerdict n [] answer = answer ≡ None
IsVerdict n (rule ∷ rules) answer =
    (((k : ℕ) → k < n → ¬ rule.breaks k) × IsVerdict n rules answer)
    ⊎ ((k : ℕ) × IsLowest n rule.breaks k × (answer ≡ Some (rule.tells k)))
