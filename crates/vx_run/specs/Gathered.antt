-- What contracts may say about a sink over a writer that gathers: the writer inside, its bytes, and the count of failed calls. Our own.
use Rattle.std.specs.Prelude.{ℕ, List, Option}
use Rattle.std.specs.Io.Buffered.{writer_contents}
use Rattle.std.specs.declared.alloc.Global.{Global}
use Rattle.std.specs.declared.io.buffered.BufWriter.{BufWriter}
use Rattle.vx_run.specs.declared.gather.GatherSink.{GatherSink}

-- The writer that gathers.
abbrev pub gatherer_of : {W : Type 0} → GatherSink W → BufWriter W Global
gatherer_of s = s.to

-- The bytes that the sink took, if those of its writer are known: the written ones and the gathered ones.
abbrev pub gathered_bytes : {W : Type 0} → (W → Option (List ℕ)) → GatherSink W → Option (List ℕ)
gathered_bytes contents s = writer_contents contents s.to

-- How many of its writes have failed.
abbrev pub gather_faults : {W : Type 0} → GatherSink W → ℕ
gather_faults s = s.faults
