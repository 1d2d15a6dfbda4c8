-- The line that says why a pushed merge or extraction is stopped. Our own.
use Rattle.std.specs.Prelude.{◌≡◌, ℕ, List}
use Rattle.vx_run.specs.declared.stop.Stop.{Stop}
use Rattle.vx_run.specs.declared.stop.Stop.TheVariants.{Refused, NoMemory}
use Rattle.vx_run.specs.Conclusion.{line_of}

-- It is the program's line, for a refusal or lack of memory: nothing else stops these.
abbrev pub IsLineOf : Stop → List ℕ → Type 0
IsLineOf (Refused r place) line = line ≡ line_of (Refused r place)
IsLineOf NoMemory line = line ≡ line_of NoMemory
IsLineOf _ line = Unit {0}
