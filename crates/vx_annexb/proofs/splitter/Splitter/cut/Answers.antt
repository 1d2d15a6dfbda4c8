use Rattle.std.proofs.Common.{arith}
use Rattle.vx_annexb.proofs.Doomed.{cut_doomed}
use Rattle.vx_annexb.proofs.splitter.Splitter.cut.Goals as goal

pub returns-clause-cut : goal.returns-clause-cut
returns-clause-cut c =
    rw (← c.self.view_is) (cut_doomed _ c.self.invariant c.in-Some.start c.in-Some.is c.if-self-start.false (omega (arith, c.if-self-len-gt2.false, c.len.ensures))
    c.refusal_to.result (rw (← c.self.view_is) at c.refusal_to.ensures.answer) (rw (← c.self.view_is) at c.refusal_to.ensures.whole) (rw (← c.self.view_is) at c.refusal_to.ensures.sound))
