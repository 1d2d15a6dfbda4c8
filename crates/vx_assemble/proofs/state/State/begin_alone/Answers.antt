use Rattle.std.proofs.Common.{subst}
use Rattle.std.specs.Prelude.{None}
use Rattle.vx_pic.specs.Rules.{begins}
use Rattle.vx_assemble.specs.inner.Held.{begun_of}
use Rattle.vx_assemble.specs.inner.Takes.{Gives, answer_by}
use Rattle.vx_assemble.proofs.Fronts.{begun_on}
use Rattle.vx_assemble.proofs.state.State.begin_alone.Goals as goal

pub returns-in-Ok-clause-answer : goal.returns-in-Ok-clause-answer
returns-in-Ok-clause-answer c R h before held =
    let u = c.args.unit in
    begun_on R before u.front.bytes.now u.bytes.now (begun_of c.in-Ok.begun None) h u.begins u.front.sound.header (c.in-Ok.ensures.answer R h before held)

pub returns-clause-answer : goal.returns-clause-answer
returns-clause-answer c R h before held =
    subst (λ x. Gives (begins R before x None) (answer_by (λ b. begun_of b None) c.begin-2.result)) c.whole-whole.ensures (c.begin-2.ensures.answer R h before held)
