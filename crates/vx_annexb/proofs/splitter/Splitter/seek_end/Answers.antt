use Rattle.std.proofs.Common.{◌+◌}
use Rattle.vx_annexb.proofs.Steps.{Stands-no_end, ends_at_mark, ends_at_zeros}
use Rattle.vx_annexb.proofs.splitter.Splitter.seek_end.Goals as goal
use Rattle.vx_annexb.proofs.splitter.Splitter.seek_end.Goals.{in-Some, in-None}

pub returns-in-None-2-clause-answer : goal.returns-in-None-2-clause-answer
returns-in-None-2-clause-answer c g units s =
    rw (← c.self.view_is) (Stands-no_end _ g units c.self.invariant c.args.start (rw (← c.self.view_is) at c.requires.begun) (rw (← c.self.view_is) at c.requires.open)
    (rw (← c.self.view_is) at s) c.if-self.false (rw c.as_slice.ensures at (c.in-None.ensures)) (c.self.inside.base + c.max.result))

pub returns-clause-answer : goal.returns-clause-answer
returns-clause-answer c g units s = (
  s,
  elim c.match-find_mark.branch [
    | in-Some w ↦ rw (← c.self.view_is, w.end-is) (ends_at_mark _ g units c.self.invariant c.args.start (rw (← c.self.view_is) at c.requires.begun) (rw (← c.self.view_is) at c.requires.open)
        (rw (← c.self.view_is) at s) w.in-Some.end (rw c.as_slice.ensures at (w.in-Some.ensures)))
    | in-None w ↦ rw (← c.self.view_is, w.end-is) (ends_at_zeros _ g units c.self.invariant c.args.start (rw (← c.self.view_is) at c.requires.begun) (rw (← c.self.view_is) at c.requires.open)
        (rw (← c.self.view_is) at s) w.trim_zeros-end.result w.if-self.true (rw c.as_slice.ensures at (w.in-None.ensures)) (rw w.as_slice-in-None.ensures at w.trim_zeros-end.ensures))
  ],
)
