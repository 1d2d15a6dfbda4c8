use Rattle.std.proofs.Common.{Err}
use Rattle.std.proofs.lemmas.Result.{err_from_is_err_and}
use Rattle.vx_table.proofs.Readings.{reads}
use Rattle.vx_table.proofs.Steps.{then, stop}
use Rattle.vx_sh.specs.Whole.{header_inside, behind_header, slice_form}
use Rattle.vx_sh.proofs.read.read_all.Goals as goal

pub returns-in_err-code_header_inside : goal.returns-in_err-code_header_inside
unfolding slice_form
returns-in_err-code_header_inside c =
    let n = c.args.n.now in
    let p = err_from_is_err_and c.from_residual.result c.from_residual.ensures.1 in
    let first = rw c.in_err-code_header_inside.was at c.code_header_inside.ensures in
    rw (p.1, p.2) (reads c.args.scope.now (Err _) (stop (behind_header n.table.now n.ids.now n.layout.now) (stop (header_inside n.table.now n.sets.now) first)))

pub returns-in_err-code_inside : goal.returns-in_err-code_inside
unfolding slice_form
returns-in_err-code_inside c =
    let n = c.args.n.now in
    let p = err_from_is_err_and c.from_residual-in_err-code_inside.result c.from_residual-in_err-code_inside.ensures.1 in
    let first = rw c.in_ok-code_header_inside.was at c.code_header_inside.ensures in
    let inside = rw c.in_err-code_inside.was at c.code_inside.ensures in
    rw (p.1, p.2) (reads c.args.scope.now (Err _) (stop (behind_header n.table.now n.ids.now n.layout.now) (then (header_inside n.table.now n.sets.now) first inside)))

pub returns : goal.returns
unfolding slice_form
returns c =
    let n = c.args.n.now in
    let first = rw c.in_ok-code_header_inside.was at c.code_header_inside.ensures in
    let inside = rw c.in_ok-code_inside.was at c.code_inside.ensures in
    reads c.code_behind.new.scope c.code_behind.result (then (behind_header n.table.now n.ids.now n.layout.now) (then (header_inside n.table.now n.sets.now) first inside) c.code_behind.ensures)
