use Rattle.std.proofs.lemmas.Result.{err_from_is_err_and}
use Rattle.vx_sh.specs.Whole.{at_of}
use Rattle.vx_sh.proofs.Parts.{stops_first, stops_inside, stops_behind, reads_all}
use Rattle.vx_sh.proofs.read.read_fields.Goals as goal

pub returns-in_err-code_header_inside : goal.returns-in_err-code_header_inside
returns-in_err-code_header_inside c =
    let p = err_from_is_err_and c.from_residual.result c.from_residual.ensures.1 in
    let first = rw (c.in_err-code_header_inside.was, c.requires) at c.code_header_inside.ensures in
    rw (p.1, p.2) (stops_first (at_of c.args.n.now c.args.scope.now) _ first)

pub returns-in_err-pass_inside : goal.returns-in_err-pass_inside
returns-in_err-pass_inside c =
    let p = err_from_is_err_and c.from_residual-in_err-pass_inside.result c.from_residual-in_err-pass_inside.ensures.1 in
    let first = rw (c.in_ok-code_header_inside.was, c.requires) at c.code_header_inside.ensures in
    let inside = rw c.in_err-pass_inside.was at c.pass_inside.ensures in
    rw (p.1, p.2) (stops_inside (at_of c.args.n.now c.args.scope.now) _ _ c.code_header_inside.new.scope _ first inside)

pub returns-in_err-code_behind : goal.returns-in_err-code_behind
returns-in_err-code_behind c =
    let p = err_from_is_err_and c.from_residual-in_err-code_behind.result c.from_residual-in_err-code_behind.ensures.1 in
    let first = rw (c.in_ok-code_header_inside.was, c.requires) at c.code_header_inside.ensures in
    let inside = rw c.in_ok-pass_inside.was at c.pass_inside.ensures in
    let behind = rw c.in_err-code_behind.was at c.code_behind.ensures in
    rw (p.1, p.2) (stops_behind (at_of c.args.n.now c.args.scope.now) c.code_header_inside.new.scope _ first inside behind)

pub returns : goal.returns
returns c =
    let first = rw (c.in_ok-code_header_inside.was, c.requires) at c.code_header_inside.ensures in
    let inside = rw c.in_ok-pass_inside.was at c.pass_inside.ensures in
    let behind = rw c.in_ok-code_behind.was at c.code_behind.ensures in
    reads_all (at_of c.args.n.now c.args.scope.now) c.code_header_inside.new.scope c.code_behind.new.scope first inside behind
