-- The invariants of a list of adaptation parameter sets.
use Rattle.std.specs.Prelude.{List, Option, IfSome}
use Rattle.std.specs.List.{AllByRecursion}
use Rattle.vx_aps.specs.declared.aps.Aps.{Aps}
use Rattle.vx_aps.specs.Aps.{IsValid}

-- Each of them is valid.
abbrev pub AreValid : List (Option Aps) → Type 0
AreValid sets = AllByRecursion (λ aps. IfSome aps IsValid) sets
