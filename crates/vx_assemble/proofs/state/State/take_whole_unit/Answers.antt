use Rattle.std.proofs.Common.{subst}
use Rattle.vx_pic.specs.Rules.{reads_as}
use Rattle.vx_assemble.specs.inner.Classes.{class_seen}
use Rattle.vx_assemble.specs.inner.Takes.{TakesUnit}
use Rattle.vx_assemble.proofs.state.State.take_whole_unit.Goals as goal

pub returns-clause-answer : goal.returns-clause-answer
returns-clause-answer c R h before held =
    subst (λ u. TakesUnit (reads_as R (class_seen c.args.class) before u) before c.take_class.new.self c.take_class.result) c.new-whole.ensures
    (c.take_class.ensures.answer R h before held)
