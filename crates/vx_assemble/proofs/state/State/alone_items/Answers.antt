use Rattle.std.proofs.Common.{ap}
use Rattle.std.specs.Prelude.{None}
use Rattle.std.proofs.lemmas.Result.{IfOk-weaker}
use Rattle.vx_assemble.specs.inner.Held.{begun_of}
use Rattle.vx_assemble.proofs.Looking.{alone_begun, alone_refused}
use Rattle.vx_assemble.proofs.state.State.alone_items.Goals as goal

pub returns-in-Err-Refused : goal.returns-in-Err-Refused
returns-in-Err-Refused c =
    IfOk-weaker c.whole_header_items.result _ _ (λ items are R h before apart.
    alone_refused R h before c.args.unit.bytes.now _ items (rw c.in-Err-Refused.field-0-is at (c.in-Err-Refused.ensures.answer R h before apart)) (are R h before apart))
    c.whole_header_items.ensures

pub returns-in-Ok : goal.returns-in-Ok
returns-in-Ok c =
    IfOk-weaker c.slice_items.result _ _ (λ items are R h before apart.
    alone_begun R h before c.args.unit.bytes.now (begun_of c.in-Ok.begun None) c.args.unit.header.nal_type items (c.in-Ok.ensures.answer R h before apart)
    (ap (λ x. x.nal_type) c.args.unit.heads) (are R h None))
    c.slice_items.ensures
