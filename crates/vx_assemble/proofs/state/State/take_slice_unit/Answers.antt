use Rattle.std.proofs.Common.{subst}
use Rattle.vx_pic.specs.Rules.{reads_as}
use Rattle.vx_pic.specs.Units.{slice_unit}
use Rattle.vx_assemble.specs.inner.Takes.{TakesUnit}
use Rattle.vx_assemble.proofs.state.State.take_slice_unit.Goals as goal

pub returns-clause-answer : goal.returns-clause-answer
returns-clause-answer c R h before held =
    subst (λ u. TakesUnit (reads_as R slice_unit before u) before c.take_slice.new.self c.take_slice.result) c.new-slice.ensures
    (c.take_slice.ensures.answer R h before held)
