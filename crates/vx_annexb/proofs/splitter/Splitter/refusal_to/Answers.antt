use Rattle.vx_annexb.proofs.Doomed.{doomed_longer, doomed_at, doomed_still}
use Rattle.vx_annexb.proofs.splitter.Splitter.refusal_to.Goals as goal

pub returns-in-Some-emulation_fault-clause-answer : goal.returns-in-Some-emulation_fault-clause-answer
returns-in-Some-emulation_fault-clause-answer c g units s open_ =
    doomed_at _ c.self.invariant c.args.start (rw (← c.self.view_is) at c.requires.begun) c.args.end (rw (← c.self.view_is) at c.requires.sought) (rw (← c.self.view_is) at c.requires.within)
    g units (rw (← c.self.view_is) at s) (rw (← c.self.view_is) at open_) c.in-Some.refusal c.in-Some.is c.in-Limit.code c.in-Limit.is
    c.in-Some-emulation_fault.fault (rw c.as_slice-in-Limit.ensures at (c.in-Some-emulation_fault.ensures))

pub returns-in-None-emulation_fault-clause-answer : goal.returns-in-None-emulation_fault-clause-answer
returns-in-None-emulation_fault-clause-answer c g units s open_ =
    doomed_still _ c.self.invariant c.args.start (rw (← c.self.view_is) at c.requires.begun) c.args.end (rw (← c.self.view_is) at c.requires.sought) (rw (← c.self.view_is) at c.requires.within)
    g units (rw (← c.self.view_is) at s) (rw (← c.self.view_is) at open_) c.in-Some.refusal c.in-Some.is c.in-Limit.code c.in-Limit.is
    (rw c.as_slice-in-Limit.ensures at (c.in-None-emulation_fault.ensures))

pub returns-in_default : goal.returns-in_default
returns-in_default c = record {
  answer = λ g units s open_.
      doomed_longer _ c.self.invariant c.args.start (rw (← c.self.view_is) at c.requires.begun) c.args.end (rw (← c.self.view_is) at c.requires.sought) (rw (← c.self.view_is) at c.requires.within)
      g units (rw (← c.self.view_is) at s) (rw (← c.self.view_is) at open_) c.in-Some.refusal c.in-Some.is (c.in_default.not-Limit _);
  whole = tt;
  sound = tt;
}
