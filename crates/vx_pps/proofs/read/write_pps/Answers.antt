use Rattle.std.proofs.Common.{◌∙◌}
use Rattle.vx_pps.proofs.Sets.{from_all, is_aligned, never_unspelled, spelled}
use Rattle.vx_pps.proofs.read.write_pps.Goals as goal

pub into_bytes-requires : goal.into_bytes-requires
into_bytes-requires c =
    let walked = from_all c.new-bits.ensures c.len.ensures c.new-items.ensures c.code_pps.ensures in
    is_aligned _ _ _ c.in-Ok.field-0 c.fields-fields.ensures.set (rw c.in-Ok.is at walked)

pub memory_of-requires : goal.memory_of-requires
memory_of-requires c = λ none.
    let walked = from_all c.new-bits.ensures c.len.ensures c.new-items.ensures c.code_pps.ensures in
    never_unspelled _ _ _ c.fields-fields.ensures.set (rw (c.in-Err.is, none) at walked)

pub returns-in-Ok : goal.returns-in-Ok
returns-in-Ok c =
    let walked = from_all c.new-bits.ensures c.len.ensures c.new-items.ensures c.code_pps.ensures in
    let set = c.fields-fields.ensures.set in
    let bits = spelled _ _ _ c.in-Ok.field-0 set (rw c.in-Ok.is at walked) in
    rw (← c.fields-fields.ensures.items) (record { is = set; bits = c.into_bytes.ensures ∙ bits })
