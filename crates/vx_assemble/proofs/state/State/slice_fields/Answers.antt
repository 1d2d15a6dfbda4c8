use Rattle.vx_assemble.proofs.Looking.{with_inside, without_inside}
use Rattle.vx_assemble.proofs.state.State.slice_fields.Goals as goal

pub returns-then-has_header_inside : goal.returns-then-has_header_inside
returns-then-has_header_inside c R h before held =
    rw c.fields_of.ensures (with_inside R h before c.args.unit.bytes.now c.has_header_inside.result c.in_ok-items.items c.has_header_inside.ensures c.if-has_header_inside.true
    (c.in_ok-items.ensures R h before held.apart))

pub returns : goal.returns
returns c R h before held =
    without_inside R h before c.args.unit.bytes.now c.has_header_inside.result c.in_ok-read.read c.has_header_inside.ensures c.if-has_header_inside.false (c.in_ok-read.ensures R h before held)
