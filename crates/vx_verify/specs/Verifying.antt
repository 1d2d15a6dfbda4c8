-- A verifier: round after round is compared. Our own.
use Rattle.std.specs.Prelude.{List, Option, Result, Ok, Err}
use Rattle.vx_pic.specs.Parts.{Parts}
use Rattle.vx_verify.specs.declared.spot.Spot.{Spot}
use Rattle.vx_verify.specs.declared.mismatch.VerifyError.{VerifyError}
use Rattle.vx_verify.specs.declared.mismatch.VerifyError.TheVariants.{Memory, Refused, Stopped}
use Rattle.vx_verify.specs.declared.mismatch.VerifyFirst.{VerifyFirst}
use Rattle.vx_verify.specs.declared.mismatch.VerifyFirst.TheVariants as firsts
use Rattle.vx_verify.specs.Verified.{IsVerified, IsMismatch}

-- A verifier, as callers see it: the places of the sources, and its first error.
pub record Verifying : Type 0 where
  pub spots : List Spot
  pub first : Option VerifyFirst

-- The first error that kept rounds from being verified, after this result.
abbrev pub first_of : VerifyError → VerifyFirst
first_of Memory = firsts.Memory
first_of (Refused m) = firsts.Refused m
first_of (Stopped f) = f

-- The result of a round if there was no error before: it is verified, or this differs first; or there is no memory.
abbrev pub Judges : List Spot → Parts → List Parts → Result (Unit {0}) VerifyError → Type 0
Judges spots finished round (Ok _) = IsVerified spots finished round
Judges spots finished round (Err (Refused m)) = IsMismatch spots finished round m
Judges spots finished round (Err Memory) = Unit {0}
Judges spots finished round (Err (Stopped f)) = ⊥
