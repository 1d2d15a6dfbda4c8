use Rattle.std.proofs.Common.{◌≡◌, ◌+◌, ◌-◌, ◌^◌, length, vec_len}
use Rattle.vx_pic.specs.Rules.{Readers}
use Rattle.vx_pic.specs.H266.{AreOfH266}
use Rattle.vx_run.specs.Change.{change, sources_change}
use Rattle.vx_run.specs.inner.Merging.{HasDone}
use Rattle.vx_run.proofs.merge.take_by.Given as goal

-- the rounds so far were checked or written
abbrev pub invariant-loop-ended : goal.invariant-loop-ended
invariant-loop-ended g l =
    ((l.merger.corners ≡ l.fn.merger.corners) × (l.merger.level ≡ l.fn.merger.level))
    × ((vec_len l.sources ≡ length l.fn.merger.corners) × (vec_len l.feeds ≡ length l.fn.merger.corners) × (vec_len l.ended ≡ length l.fn.merger.corners))
    × ((R : Readers) → AreOfH266 R → HasDone R l.fn.work l.fn.merger.corners l.fn.merger.level (sources_change (λ s. (goal.Source-dyn g (s.vtable, s.value)).bytes_left s.value) (λ s. (goal.Source-dyn g (s.vtable, s.value)).read_faults s.value) l.fn.sources.items l.sources.items)
    (change g.K.Sink.bytes_taken g.K.Sink.write_faults l.fn.out l.out) l.feeds.items l.merger l.rounds)

abbrev pub decreases-loop-ended : goal.decreases-loop-ended
decreases-loop-ended g l = 2 ^ 40 + 1 - l.rounds
