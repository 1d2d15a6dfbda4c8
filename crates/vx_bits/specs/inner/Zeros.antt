-- The zeros that a reader counts before a code of ue(v).
use Rattle.std.specs.Prelude.{ℕ, suc, Bool, true, false, List, [], ◌∷◌}

-- The number of zeros that come first.
abbrev pub zeros_in_front : List Bool → ℕ
zeros_in_front [] = 0
zeros_in_front (true ∷ bits) = 0
zeros_in_front (false ∷ bits) = suc (zeros_in_front bits)
