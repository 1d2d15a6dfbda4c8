-- What stops a command: a feed that stops, or a picture or a round that isn't written. Our own.
use Rattle.std.specs.Prelude.{◌≡◌, ℕ, Result, Ok, Err}
use Rattle.vx_assemble.specs.declared.feed.FeedFault.{FeedFault}
use Rattle.vx_assemble.specs.declared.feed.FeedFault.TheVariants as feed
use Rattle.vx_write.specs.declared.fault.WriteError.{WriteError}
use Rattle.vx_write.specs.declared.fault.WriteError.TheVariants as errors
use Rattle.vx_run.specs.declared.stop.Place.TheVariants as places
use Rattle.vx_run.specs.declared.stop.Stop.{Stop}
use Rattle.vx_run.specs.declared.stop.Stop.TheVariants.{Refused, ReadFault, WriteFault, NoMemory}
use Rattle.vx_run.specs.Conclusion.{Outcome}

-- The feed of source k stops after n units.
abbrev pub stop_of_feed : FeedFault → (k n : ℕ) → Stop
stop_of_feed (feed.Refused r) k n = Refused r (places.Unit k n)
stop_of_feed feed.SourceFailed k n = ReadFault k
stop_of_feed feed.Memory k n = NoMemory
stop_of_feed (feed.Stopped first) k n = NoMemory

-- Picture, or round, n isn't written.
abbrev pub stop_of_write : WriteError → ℕ → Stop
stop_of_write (errors.Refused r) n = Refused r (places.Picture n)
stop_of_write errors.SinkFailed n = WriteFault
stop_of_write errors.Memory n = NoMemory
stop_of_write (errors.Stopped first) n = NoMemory

-- The outcome of these results.
abbrev pub ComesOf : (Result (Unit {0}) WriteError → Type 0) → ℕ → Outcome → Type 0
ComesOf Answers n (Ok _) = Answers (Ok tt)
ComesOf Answers n (Err (Refused r place)) = Answers (Err (errors.Refused r)) × (place ≡ places.Picture n)
ComesOf Answers n (Err WriteFault) = Answers (Err errors.SinkFailed)
ComesOf Answers n (Err NoMemory) = Answers (Err errors.Memory)
ComesOf Answers n (Err _) = ⊥
