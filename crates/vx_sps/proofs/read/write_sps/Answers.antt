use Rattle.std.proofs.Common.{◌∙◌}
use Rattle.vx_sps.proofs.Written.{from_all, is_aligned, is_no_value, spelled}
use Rattle.vx_sps.proofs.read.write_sps.Goals as goal

pub into_bytes-requires : goal.into_bytes-requires
into_bytes-requires c =
    let written = from_all c.write_fields.result _ _ _ _ _ c.len.result c.new-bits.ensures c.len.ensures c.new-items.ensures c.write_fields.ensures in
    is_aligned _ _ c.in-Ok.field-0 _ c.fields-fields.ensures.set (rw c.in-Ok.is at written)

pub only_memory-requires : goal.only_memory-requires
only_memory-requires c = λ none.
    let written = from_all c.write_fields.result _ _ _ _ _ c.len.result c.new-bits.ensures c.len.ensures c.new-items.ensures c.write_fields.ensures in
    is_no_value _ _ _ c.fields-fields.ensures.set (rw (c.in-Err.is, none) at written)

pub returns-in-Ok : goal.returns-in-Ok
returns-in-Ok c =
    let written = from_all c.write_fields.result _ _ _ _ _ c.len.result c.new-bits.ensures c.len.ensures c.new-items.ensures c.write_fields.ensures in
    let set = c.fields-fields.ensures.set in
    let bits = spelled _ _ c.in-Ok.field-0 _ set (rw c.in-Ok.is at written) in
    rw (← c.fields-fields.ensures.items) (record { set = set; bits = c.into_bytes.ensures ∙ bits })
