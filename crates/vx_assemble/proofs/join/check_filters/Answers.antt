use Rattle.std.proofs.lemmas.Result.{err_from_is_err_and}
use Rattle.vx_assemble.proofs.Named.{small_filters, luma_bad, chroma_bad, cb_bad, cr_said}
use Rattle.vx_assemble.proofs.join.check_filters.Goals as goal

pub check_named-requires-clause-small : goal.check_named-requires-clause-small
check_named-requires-clause-small c = (small_filters c.args.items.now c.requires).luma_small

pub check_named-requires-2-clause-small : goal.check_named-requires-2-clause-small
check_named-requires-2-clause-small c = (small_filters c.args.items.now c.requires).chroma_small

pub check_named-requires-3-clause-small : goal.check_named-requires-3-clause-small
check_named-requires-3-clause-small c = (small_filters c.args.items.now c.requires).cb_small

pub check_named-requires-4-clause-small : goal.check_named-requires-4-clause-small
check_named-requires-4-clause-small c = (small_filters c.args.items.now c.requires).cr_small

pub returns-in_err-check_named : goal.returns-in_err-check_named
returns-in_err-check_named c =
    let p = err_from_is_err_and c.from_residual.result c.from_residual.ensures.1 in
    rw (p.1, p.2) (luma_bad c.args.bodies.now c.args.items.now _ c.in_err-check_named.ensures)

pub returns-in_err-check_named-2 : goal.returns-in_err-check_named-2
returns-in_err-check_named-2 c =
    let p = err_from_is_err_and c.from_residual-in_err-check_named-2.result c.from_residual-in_err-check_named-2.ensures.1 in
    rw (p.1, p.2) (chroma_bad c.args.bodies.now c.args.items.now _ c.in_ok-check_named.ensures c.in_err-check_named-2.ensures)

pub returns-in_err-check_named-3 : goal.returns-in_err-check_named-3
returns-in_err-check_named-3 c =
    let p = err_from_is_err_and c.from_residual-in_err-check_named-3.result c.from_residual-in_err-check_named-3.ensures.1 in
    rw (p.1, p.2) (cb_bad c.args.bodies.now c.args.items.now _ c.in_ok-check_named.ensures c.in_ok-check_named-2.ensures c.in_err-check_named-3.ensures)

pub returns : goal.returns
returns c =
    cr_said c.args.bodies.now c.args.items.now _ c.in_ok-check_named.ensures c.in_ok-check_named-2.ensures c.in_ok-check_named-3.ensures c.check_named-4.ensures
