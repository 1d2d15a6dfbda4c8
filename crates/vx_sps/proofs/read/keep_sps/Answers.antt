use Rattle.vx_sps.proofs.Sifted.{from_all, is_no_value, sifted}
use Rattle.vx_sps.proofs.read.keep_sps.Goals as goal

pub only_memory-requires : goal.only_memory-requires
only_memory-requires c = λ none.
    let kept = from_all c.keep_fields.result _ _ _ _ _ c.len.result c.new-kept.ensures c.len.ensures c.new-items.ensures c.keep_fields.ensures in
    is_no_value _ _ _ c.fields-fields.ensures.set (rw (c.in-Err.is, none) at kept)

pub returns-in-Ok : goal.returns-in-Ok
returns-in-Ok c =
    let kept = from_all c.keep_fields.result _ _ _ _ _ c.len.result c.new-kept.ensures c.len.ensures c.new-items.ensures c.keep_fields.ensures in
    rw (← c.fields-fields.ensures.items) (sifted _ _ _ c.in-Ok.field-0 c.fields-fields.ensures.set (rw c.in-Ok.is at kept))
