-- What a whole run of the program did: the command, and the last write after it. Our own. The contract of `run_whole` is stated with it.
use Rattle.std.specs.Prelude.{ℕ, List}
use Rattle.std.specs.Io.KnownBytes.{Keeps}
use Rattle.vx_run.specs.Change.{Change, Sources, change}
use Rattle.vx_run.specs.Conclusion.{Outcome, ExitsWith, Finishes}
use Rattle.vx_run.specs.Run.{Performs}

-- The outcome of the command, and its status; `out` and `err` as they were after it; and what the last write did to these. That write
-- leaves the bytes that `out` has gained, written or gathered, as they are.
pub record EndsWhole {K E : Type 0} (out : Change K) (status : ℕ) (err : Change E) : Type 0 where
  pub outcome : Outcome
  pub ended : ℕ
  pub made : K
  pub told : E
  pub exits : ExitsWith outcome ended (change err.bytes err.faults err.old told)
  pub finishes : Finishes ended (change out.bytes out.faults made out.new) status (change err.bytes err.faults told err.new)
  pub kept : Keeps (out.bytes made) (out.bytes out.new)

-- The command that the arguments ask for was done or stopped, and ended so.
pub record RunsWhole {A K E : Type 0} (words : List (List ℕ)) (sources : Sources A) (out : Change K) (status : ℕ) (err : Change E) : Type 0 where
  pub ends : EndsWhole out status err
  pub performs : Performs words sources (change out.bytes out.faults out.old ends.made) ends.outcome
