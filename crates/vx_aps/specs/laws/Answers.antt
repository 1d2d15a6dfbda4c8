-- What follows from the definition of an adaptation parameter set, for any program.
use Rattle.std.specs.Prelude.{◌≡◌, ℕ, List, Option, Result}
use Rattle.vx_bits.specs.declared.refusal.Refusal.{Refusal}
use Rattle.vx_aps.specs.declared.aps.Aps.{Aps}
use Rattle.vx_aps.specs.Aps.{spelled, IsValid, IsAps, IsAnswer}

-- Bytes have one answer at most.
abbrev pub OneAnswer : Type 0
OneAnswer = (rbsp : List ℕ) (a b : Result (Option Aps) Refusal) → IsAnswer rbsp a → IsAnswer rbsp b → a ≡ b

-- A set is what its spelling is read as.
abbrev pub SpelledIsAps : Type 0
SpelledIsAps = (aps read : Aps) → IsValid aps → IsAps (spelled aps.kind aps.id aps.body) aps
    × (IsAps (spelled aps.kind aps.id aps.body) read → read ≡ aps)
