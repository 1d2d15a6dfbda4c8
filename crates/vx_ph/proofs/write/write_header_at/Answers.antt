use Rattle.std.proofs.Common.{◌∙◌}
use Rattle.vx_ph.proofs.Spelling.{from_all, spelled, has_value_left}
use Rattle.vx_ph.proofs.write.write_header_at.Goals as goal

pub only_memory-requires : goal.only_memory-requires
only_memory-requires c = λ none.
    let items = c.new-items.ensures ∙ from_all c.len.result c.args.header.now.fields c.len.ensures in
    let f = c.requires.fields in
    has_value_left _ f.values f.end _ _ _ _ f.follows f.all (rw (c.in-Err.is, none, items) at c.write_fields.ensures)

pub returns-in-Ok-clause-ok : goal.returns-in-Ok-clause-ok
returns-in-Ok-clause-ok c =
    let items = c.new-items.ensures ∙ from_all c.len.result c.args.header.now.fields c.len.ensures in
    let f = c.requires.fields in
    record { fields = f; gained = spelled _ f.values f.end _ _ _ _ c.in-Ok.field-0 f.follows f.all (rw (c.in-Ok.is, items) at c.write_fields.ensures) }
