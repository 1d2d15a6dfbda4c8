use Rattle.std.proofs.Common.{◌≡◌, List, ℕ, length}
use Rattle.vx_annexb.specs.ByteStream.{UnitPlace}
use Rattle.vx_annexb.specs.Held.{is_all}
use Rattle.vx_pic.specs.Readings.{Reading, pictures}
use Rattle.vx_pic.specs.Rules.{Readers}
use Rattle.vx_pic.specs.H266.{AreOfH266}
use Rattle.vx_assemble.specs.Feed.{HasFed, left_to_take}
use Rattle.vx_run.specs.Show.{teller}
use Rattle.vx_run.specs.inner.Showing.{HasGathered}
use Rattle.vx_run.proofs.show.gather.Given as goal

-- the lines of units were gathered, with so many pictures
abbrev pub invariant-loop-next : goal.invariant-loop-next
invariant-loop-next l =
    (l.feed.reader.taken ≡ l.initial.feed.reader.taken)
    × (l.feed.reader.closed ≡ l.initial.feed.reader.closed)
    × (is_all l.feed.reader.splitter ≡ is_all l.initial.feed.reader.splitter)
    × ((R : Readers) (h : AreOfH266 R) (g : List ℕ) (units : List UnitPlace) (before : List Reading) → HasFed R l.initial.feed g units before → l.pictures ≡ length (pictures before)
    → HasGathered R (teller l.fields l.inputs R h) g units before l.feed l.initial.lines.items l.lines.items l.count)

abbrev pub decreases-loop-next : goal.decreases-loop-next
decreases-loop-next l = left_to_take l.feed
