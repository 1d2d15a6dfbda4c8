-- The results of steps of an assembler.
use Rattle.std.specs.Prelude.{◌≡◌, Result, Ok, Err}
use Rattle.vx_bits.specs.declared.refusal.Refusal.{Refusal}
use Rattle.vx_bits.specs.declared.refusal.ReadError.{ReadError}
use Rattle.vx_bits.specs.declared.refusal.ReadError.TheVariants as errors

-- The answer of a rule is given, unless memory runs out.
abbrev pub Gives : {A : Type 0} → Result A Refusal → Result A ReadError → Type 0
Gives answer (Ok a) = answer ≡ Ok a
Gives answer (Err errors.Memory) = Unit {0}
Gives answer (Err (errors.Refused r)) = answer ≡ Err r
