use Rattle.std.proofs.Common.{◌∙◌}
use Rattle.vx_ph.proofs.Spelling.{from_all, spelled, has_value_left, unit_of, is_aligned}
use Rattle.vx_ph.proofs.write.write_unit_at.Goals as goal

pub into_bytes-requires : goal.into_bytes-requires
into_bytes-requires c =
    let items = c.new-items.ensures ∙ from_all c.len.result c.args.header.now.fields c.len.ensures in
    let u = unit_of c.args.table.now c.args.scope.now c.args.header.now.fields c.requires.fields in
    is_aligned c.args.table.now c.args.scope.now u.values u.end _ u.follows
    (spelled _ u.values u.end _ _ _ _ c.in-Ok.field-0 u.follows u.all (rw (c.in-Ok.is, c.new-bits.ensures, items) at c.write_unit.ensures))

pub only_memory-requires : goal.only_memory-requires
only_memory-requires c = λ none.
    let items = c.new-items.ensures ∙ from_all c.len.result c.args.header.now.fields c.len.ensures in
    let u = unit_of c.args.table.now c.args.scope.now c.args.header.now.fields c.requires.fields in
    has_value_left _ u.values u.end _ _ _ _ u.follows u.all (rw (c.in-Err.is, none, items) at c.write_unit.ensures)

pub returns-in-Ok : goal.returns-in-Ok
returns-in-Ok c =
    let items = c.new-items.ensures ∙ from_all c.len.result c.args.header.now.fields c.len.ensures in
    let u = unit_of c.args.table.now c.args.scope.now c.args.header.now.fields c.requires.fields in
    let bits = spelled _ u.values u.end _ _ _ _ c.in-Ok.field-0 u.follows u.all (rw (c.in-Ok.is, c.new-bits.ensures, items) at c.write_unit.ensures) in
    record { values = u.values; end = u.end; follows = u.follows; all = u.all; bits = c.into_bytes.ensures ∙ bits }
