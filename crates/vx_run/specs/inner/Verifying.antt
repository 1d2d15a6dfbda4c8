-- The steps of `verify merge`: rounds that were verified. Our own.
use Rattle.std.specs.Prelude.{◌≡◌, ℕ, ◌<◌, List, length, Result, Ok, Err}
use Rattle.vx_pic.specs.Readings.{Picture}
use Rattle.vx_pic.specs.Rules.{Readers}
use Rattle.vx_pic.specs.Parts.{Parts}
use Rattle.vx_assemble.specs.Feed.{Feeding}
use Rattle.vx_verify.specs.declared.mismatch.VerifyError.{VerifyError}
use Rattle.vx_verify.specs.declared.mismatch.VerifyError.TheVariants as errors
use Rattle.vx_verify.specs.declared.spot.Spot.{Spot}
use Rattle.vx_verify.specs.Verified.{IsVerified, IsMismatch}
use Rattle.vx_run.specs.declared.stop.Stop.{Stop}
use Rattle.vx_run.specs.declared.stop.Stop.TheVariants.{NotUnderstood, Refused, Mismatched, ReadFault, WriteFault, NoMemory}
use Rattle.vx_run.specs.Change.{Sources, source_at, HasFault}
use Rattle.vx_run.specs.Conclusion.{Outcome}
use Rattle.vx_run.specs.Rounds.{NoneRefused, OfEachSource, IsRead, IsReadOut, IsReadInRound, OthersAreRead, AreReadToSource, Sees, WhereAllTold}
use Rattle.vx_run.specs.Verify.{OfRound, AreVerified, EndsVerified}
use Rattle.vx_run.specs.inner.Advancing.{AreWaiting, so_far}

-- Round n isn't verified.
abbrev pub stop_in : VerifyError → ℕ → Stop
stop_in (errors.Refused m) n = Mismatched m n
stop_in errors.Memory n = NoMemory
stop_in (errors.Stopped first) n = NoMemory

-- The result of round n.
abbrev pub VerifiesRound : List Spot → List Parts → ℕ → Outcome → Type 0
VerifiesRound spots round n (Ok _) = OfRound (IsVerified spots) round
VerifiesRound spots round n (Err (Mismatched m k)) = OfRound (λ finished sources. IsMismatch spots finished sources m) round × (k ≡ n)
VerifiesRound spots round n (Err NoMemory) = Unit {0}
VerifiesRound spots round n (Err _) = ⊥

-- How many rounds were verified, or what stopped that.
abbrev pub VerifiesRounds : {A : Type 0} → Readers → List Spot → Sources A → Result ℕ Stop → Type 0
VerifiesRounds R spots sources (Ok n) = OfEachSource sources IsReadOut × WhereAllTold R sources (λ ss. EndsVerified spots ss n (Ok tt))
VerifiesRounds R spots sources (Err (Mismatched m n)) =
    OfEachSource sources (IsReadInRound R n) × WhereAllTold R sources (λ ss. EndsVerified spots ss n (Err (Mismatched m n)))
VerifiesRounds R spots sources (Err (Refused r place)) =
    (n : ℕ) × AreReadToSource R n place sources × WhereAllTold R sources (λ ss. EndsVerified spots ss n (Err (Refused r place)))
VerifiesRounds R spots sources (Err (ReadFault k)) =
    (k < length sources.old) × HasFault (source_at sources k)
    × ((n : ℕ) × Sees R (source_at sources k) n × OthersAreRead R n k sources
    × WhereAllTold R sources (λ ss. AreVerified spots ss n × NoneRefused k ss n))
VerifiesRounds R spots sources (Err WriteFault) = ⊥
VerifiesRounds R spots sources (Err NoMemory) = OfEachSource sources IsRead
VerifiesRounds R spots sources (Err NotUnderstood) = ⊥

-- n rounds were verified.
pub record HasVerified {A : Type 0} (R : Readers) (spots : List Spot) (sources : Sources A) (feeds : List Feeding) (n : ℕ) : Type 0 where
  pub taken : List (List Picture)
  pub waiting : AreWaiting R sources feeds taken n
  pub verified : AreVerified spots (so_far taken) n
