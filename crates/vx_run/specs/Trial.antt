-- What `trial` does: it makes streams from a number, merges them, extracts each region, and reports the counts. Our own.
use Rattle.std.specs.Prelude.{ℕ, List, [], ◌∷◌, codes, decimal, Ok, Err}
use Rattle.std.specs.List.{concat}
use Rattle.vx_pic.specs.H266.{AreOfH266}
use Rattle.vx_pic.specs.Rules.{Readers}
use Rattle.vx_trial.specs.declared.tally.Tally.{Tally}
use Rattle.vx_trial.specs.Trial.{IsTally}
use Rattle.vx_run.specs.declared.stop.Stop.TheVariants.{WriteFault, NoMemory}
use Rattle.vx_run.specs.Change.{Change, IsUntouched, HasNoFault, HasFault, Gains, GainsFront}
use Rattle.vx_run.specs.Conclusion.{Outcome}

-- `trial pictures 10 slices 40 bytes 680 weight 83935609`
abbrev pub trial_text : Tally → List ℕ
trial_text t = concat
    (codes "trial pictures " ∷ decimal t.pictures
    ∷ codes " slices " ∷ decimal t.slices
    ∷ codes " bytes " ∷ decimal t.bytes
    ∷ codes " weight " ∷ decimal t.weight
    ∷ codes "\n" ∷ [])

-- Only a failed write of that line stops it, or lack of memory, in which case it writes nothing. No rule is broken, and no read fails.
abbrev pub EndsTrial : {K : Type 0} → Change K → Outcome → Type 0
EndsTrial out (Ok _) = HasNoFault out
EndsTrial out (Err WriteFault) = HasFault out
EndsTrial out (Err NoMemory) = IsUntouched out
EndsTrial out (Err _) = ⊥

-- It wrote the line of the merge and the extractions, or a prefix of it.
abbrev pub TellsTrial : {K : Type 0} → Readers → (seed sources pictures : ℕ) → Change K → Outcome → Type 0
TellsTrial R seed sources pictures out (Ok _) = (t : Tally) × IsTally R seed sources pictures t × Gains out (trial_text t)
TellsTrial R seed sources pictures out (Err WriteFault) = (t : Tally) × IsTally R seed sources pictures t × GainsFront out (trial_text t)
TellsTrial R seed sources pictures out (Err _) = Unit {0}

-- That holds for the readers of H.266.
pub record Trials {K : Type 0} (seed sources pictures : ℕ) (out : Change K) (outcome : Outcome) : Type 0 where
  pub ends : EndsTrial out outcome
  pub tells : (R : Readers) → AreOfH266 R → TellsTrial R seed sources pictures out outcome
