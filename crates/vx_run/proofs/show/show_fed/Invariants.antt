use Rattle.vx_annexb.specs.Held.{IsSought}
use Rattle.vx_pic.specs.Rules.{Readers}
use Rattle.vx_pic.specs.H266.{AreOfH266}
use Rattle.vx_assemble.specs.Feed.{IsOpen}
use Rattle.vx_run.specs.Change.{change}
use Rattle.vx_run.specs.Show.{teller}
use Rattle.vx_run.specs.inner.Showing.{HasShown, left_to_read}
use Rattle.vx_run.proofs.show.show_fed.Given as goal

-- all units that are seen were shown
abbrev pub invariant-loop-alloc : goal.invariant-loop-alloc
invariant-loop-alloc g l =
    (IsOpen l.feed → IsSought l.feed.reader.splitter)
    × ((R : Readers) (h : AreOfH266 R) → HasShown R (teller l.fields l.inputs R h) (change (λ s. (goal.Source-dyn g (s.vtable, s.value)).bytes_left s.value) (λ s. (goal.Source-dyn g (s.vtable, s.value)).read_faults s.value) l.fn.source l.source) (change g.K.Sink.bytes_taken g.K.Sink.write_faults l.fn.out l.out) l.feed l.pictures)

abbrev pub decreases-loop-alloc : goal.decreases-loop-alloc
decreases-loop-alloc g l = left_to_read l.feed.reader.closed l.feed.reader.taken
