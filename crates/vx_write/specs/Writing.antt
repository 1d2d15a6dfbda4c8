-- Units that are written one after another. Our own.
use Rattle.std.specs.Prelude.{ℕ, List, Option, Result, OnOk, OnErr}
use Rattle.std.specs.Io.KnownBytes.{Appends}
use Rattle.vx_io.specs.Faults.{CountsFault}
use Rattle.vx_io.specs.Written.{AppendsFront}
use Rattle.vx_io.specs.declared.write.SinkFailed.{SinkFailed}
use Rattle.vx_annexb.specs.Laws.{written}

-- A sink took these units, or after a fault a proper prefix of them.
pub record Takes (bytes bytes' : Option (List ℕ)) (count count' : ℕ) (units : List (List ℕ)) (result : Result (Unit {0}) SinkFailed) : Type 0 where
  pub ok : OnOk result (Appends bytes bytes' (written units))
  pub err : OnErr result (AppendsFront bytes bytes' (written units))
  pub faults : CountsFault count count' result
