use Rattle.std.proofs.Common.{refl}
use Rattle.vx_annexb.proofs.Steps.{Stands-refused, Stands-given}
use Rattle.vx_annexb.proofs.splitter.Splitter.give.Goals as goal

pub returns-in-Some-clause-answer : goal.returns-in-Some-clause-answer
returns-in-Some-clause-answer c g units s first =
    Stands-refused _ g units c.self.invariant c.args.start (rw (← c.self.view_is) at c.requires.begun) (rw (← c.self.view_is) at c.requires.open)
    (rw (← c.self.view_is) at s) c.args.end (rw (← c.self.view_is) at first) c.in-Some.refusal (c.in-Some.ensures.answer g units s c.requires.open)

pub returns-clause-answer : goal.returns-clause-answer
returns-clause-answer c g units s first =
    Stands-given _ g units c.self.invariant c.args.start (rw (← c.self.view_is) at c.requires.begun) (rw (← c.self.view_is) at c.requires.open)
    (rw (← c.self.view_is) at s) c.args.end (rw (← c.self.view_is) at first) (rw (← c.self.view_is) at c.in_default.ensures.whole) (rw (← c.self.view_is) at c.in_default.ensures.sound) _ refl refl refl
