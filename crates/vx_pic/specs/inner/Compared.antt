-- Inputs that are compared part by part.
use Rattle.std.specs.Prelude.{ℕ, List, [], ◌∷◌, Option, Some, None}
use Rattle.vx_pic.specs.declared.compare.Difference.{Difference}
use Rattle.vx_pic.specs.Differences.{Part, DiffersFirst}

-- All are the same.
abbrev pub AreSame : List Part → Type 0
AreSame [] = Unit {0}
AreSame (p ∷ more) = p.same × AreSame more

-- The result for some of them, numbered from here on.
abbrev pub Compares : List Part → ℕ → Option Difference → Type 0
Compares parts n None = AreSame parts
Compares parts n (Some d) = DiffersFirst parts n d
