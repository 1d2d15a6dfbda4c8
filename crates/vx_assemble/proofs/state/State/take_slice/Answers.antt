use Rattle.vx_assemble.proofs.Slicing.{slice_alone, slice_follows}
use Rattle.vx_assemble.proofs.state.State.take_slice.Goals as goal

pub returns-then-has_header_inside-clause-answer : goal.returns-then-has_header_inside-clause-answer
returns-then-has_header_inside-clause-answer c R h before held =
    slice_alone R c.take_alone.new.self before c.args.unit.bytes.now c.take_alone.result c.has_header_inside.result c.has_header_inside.ensures
    c.if-has_header_inside.true (c.take_alone.ensures.answer R h before held)

pub returns-clause-answer : goal.returns-clause-answer
returns-clause-answer c R h before held =
    slice_follows R c.take_following.new.self before c.args.unit.bytes.now c.take_following.result c.has_header_inside.result c.has_header_inside.ensures
    c.if-has_header_inside.false (c.take_following.ensures.answer R h before held)
