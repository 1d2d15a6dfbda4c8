use Rattle.std.proofs.lemmas.Result.{err_from_is_err_and}
use Rattle.vx_assemble.proofs.Named.{small_names, filters_bad, lmcs_bad, scaling_said}
use Rattle.vx_assemble.proofs.join.check_bodies.Goals as goal

pub check_filters-requires : goal.check_filters-requires
check_filters-requires c = rw c.filter_items.ensures (small_names c.args.pps.now c.args.header.now c.args.slice.now c.requires).filters_small

pub check_named-requires-clause-small : goal.check_named-requires-clause-small
check_named-requires-clause-small c = (small_names c.args.pps.now c.args.header.now c.args.slice.now c.requires).lmcs_small

pub check_named-requires-2-clause-small : goal.check_named-requires-2-clause-small
check_named-requires-2-clause-small c = (small_names c.args.pps.now c.args.header.now c.args.slice.now c.requires).scaling_small

pub returns-in_err-check_filters : goal.returns-in_err-check_filters
returns-in_err-check_filters c =
    let p = err_from_is_err_and c.from_residual.result c.from_residual.ensures.1 in
    rw (p.1, p.2) (filters_bad c.args.bodies.now c.args.pps.now c.args.header.now c.args.slice.now _ (rw c.filter_items.ensures at c.in_err-check_filters.ensures))

pub returns-in_err-check_named : goal.returns-in_err-check_named
returns-in_err-check_named c =
    let p = err_from_is_err_and c.from_residual-in_err-check_named.result c.from_residual-in_err-check_named.ensures.1 in
    rw (p.1, p.2) (lmcs_bad c.args.bodies.now c.args.pps.now c.args.header.now c.args.slice.now _ (rw c.filter_items.ensures at c.in_ok-check_filters.ensures) c.in_err-check_named.ensures)

pub returns : goal.returns
returns c =
    scaling_said c.args.bodies.now c.args.pps.now c.args.header.now c.args.slice.now _ (rw c.filter_items.ensures at c.in_ok-check_filters.ensures) c.in_ok-check_named.ensures c.check_named-2.ensures
