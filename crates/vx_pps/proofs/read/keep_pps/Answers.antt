use Rattle.vx_pps.proofs.Sets.{from_each, kept, never_unkept}
use Rattle.vx_pps.proofs.read.keep_pps.Goals as goal

pub memory_of-requires : goal.memory_of-requires
memory_of-requires c = λ none.
    let walked = from_each c.new-kept.ensures c.len.ensures c.new-items.ensures c.code_pps.ensures in
    never_unkept _ _ _ c.fields-fields.ensures.set (rw (c.in-Err.is, none) at walked)

pub returns-in-Ok : goal.returns-in-Ok
returns-in-Ok c =
    let walked = from_each c.new-kept.ensures c.len.ensures c.new-items.ensures c.code_pps.ensures in
    rw (← c.fields-fields.ensures.items) (kept _ _ _ c.in-Ok.field-0 c.fields-fields.ensures.set (rw c.in-Ok.is at walked))
