use Rattle.std.proofs.Common.{rules}
use Rattle.vx_assemble.specs.declared.unit.UnitClass.TheVariants as classes
use Rattle.vx_assemble.proofs.Taking.{plain_takes}
use Rattle.vx_assemble.proofs.state.State.take.Goals as goal

pub returns-in-Slice-clause-answer : goal.returns-in-Slice-clause-answer
returns-in-Slice-clause-answer c R h before held =
    plain_takes R before c.args.unit.now c.nal_header-header.result classes.Slice c.take_slice_unit.new.self c.take_slice_unit.result (search rules) (search rules)
    (search rules) (search rules) (c.take_slice_unit.ensures.answer R h before held)

pub returns-clause-answer : goal.returns-clause-answer
returns-clause-answer c R h before held =
    plain_takes R before c.args.unit.now c.nal_header-header.result c.class_of-class.result c.take_whole_unit.new.self c.take_whole_unit.result (search rules) (search rules)
    (search rules) c.class_of-class.ensures (c.take_whole_unit.ensures.answer R h before held)
