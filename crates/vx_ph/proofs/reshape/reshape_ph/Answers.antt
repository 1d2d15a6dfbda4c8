use Rattle.vx_ph.proofs.Reshaping.{are_fields, lists_are}
use Rattle.vx_ph.proofs.reshape.reshape_ph.Goals as goal

pub returns-clause-reshaped : goal.returns-clause-reshaped
returns-clause-reshaped c =
    let lists = rw (c.in_ok-lists.was, c.table.ensures, c.in_force.ensures, c.as_slice.ensures) at c.resolve_lists.ensures in
    lists_are c.args.source.now c.args.shape.now c.args.sps.now c.args.pps.now c.requires.shape c.requires.source _ c.in_ok-fields.ensures
    (record { fields = are_fields c.args.source.now c.args.shape.now c.args.sps.now c.args.pps.now c.in_ok-fields.fields c.in_ok-fields.ensures; lists = lists })

pub returns-clause-header : goal.returns-clause-header
returns-clause-header c =
    let lists = rw (c.in_ok-lists.was, c.table.ensures, c.in_force.ensures, c.as_slice.ensures) at c.resolve_lists.ensures in
    record { fields = are_fields c.args.source.now c.args.shape.now c.args.sps.now c.args.pps.now c.in_ok-fields.fields c.in_ok-fields.ensures; lists = lists }
