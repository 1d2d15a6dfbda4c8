use Rattle.std.proofs.Common.{◌∙◌}
use Rattle.std.proofs.lemmas.Result.{err_from_is_err_and}
use Rattle.vx_sh.specs.Whole.{at_of}
use Rattle.vx_sh.proofs.Written.{from_all, parts_written, first_written, inside_written, behind_written}
use Rattle.vx_sh.proofs.write.write_fields.Goals as goal

pub returns-in_err-code_header_inside : goal.returns-in_err-code_header_inside
returns-in_err-code_header_inside c =
    let p = err_from_is_err_and c.from_residual.result c.from_residual.ensures.1 in
    let own = c.new-own.ensures ∙ from_all c.len.result c.args.fields.now c.len.ensures in
    let first = first_written (at_of c.args.n.now c.args.scope.now) c.args.fields.now c.args.inside.now c.requires.slice c.code_header_inside.new.scope _ _ _ _ c.code_header_inside.result c.requires.bits own c.code_header_inside.ensures in
    rw (p.1, p.2) (rw c.in_err-code_header_inside.was at first)

pub returns-in_err-code_inside : goal.returns-in_err-code_inside
returns-in_err-code_inside c =
    let p = err_from_is_err_and c.from_residual-in_err-code_inside.result c.from_residual-in_err-code_inside.ensures.1 in
    let own = c.new-own.ensures ∙ from_all c.len.result c.args.fields.now c.len.ensures in
    let header = c.new-header.ensures ∙ from_all c.len-2.result c.args.inside.now c.len-2.ensures in
    let first = rw c.in_ok-code_header_inside.was at (first_written (at_of c.args.n.now c.args.scope.now) c.args.fields.now c.args.inside.now c.requires.slice c.code_header_inside.new.scope _ _ _ _ c.code_header_inside.result c.requires.bits own c.code_header_inside.ensures) in
    let inside = inside_written (at_of c.args.n.now c.args.scope.now) c.args.fields.now c.args.inside.now c.requires.slice c.code_header_inside.new.scope _ _ _ _ c.code_inside.result first.ends header c.code_inside.ensures in
    rw (p.1, p.2) (rw c.in_err-code_inside.was at inside)

pub returns-in_err-code_behind : goal.returns-in_err-code_behind
returns-in_err-code_behind c =
    let p = err_from_is_err_and c.from_residual-in_err-code_behind.result c.from_residual-in_err-code_behind.ensures.1 in
    let own = c.new-own.ensures ∙ from_all c.len.result c.args.fields.now c.len.ensures in
    let first = rw c.in_ok-code_header_inside.was at (first_written (at_of c.args.n.now c.args.scope.now) c.args.fields.now c.args.inside.now c.requires.slice c.code_header_inside.new.scope _ _ _ _ c.code_header_inside.result c.requires.bits own c.code_header_inside.ensures) in
    let behind = behind_written (at_of c.args.n.now c.args.scope.now) c.args.fields.now c.args.inside.now c.requires.slice c.code_header_inside.new.scope c.code_behind.new.scope _ _ _ _ c.code_behind.result first.ends first.items c.code_behind.ensures in
    rw (p.1, p.2) (rw c.in_err-code_behind.was at behind)

pub returns : goal.returns
returns c =
    let own = c.new-own.ensures ∙ from_all c.len.result c.args.fields.now c.len.ensures in
    let header = c.new-header.ensures ∙ from_all c.len-2.result c.args.inside.now c.len-2.ensures in
    let first = rw c.in_ok-code_header_inside.was at (first_written (at_of c.args.n.now c.args.scope.now) c.args.fields.now c.args.inside.now c.requires.slice c.code_header_inside.new.scope _ _ _ _ c.code_header_inside.result c.requires.bits own c.code_header_inside.ensures) in
    let inside = rw c.in_ok-code_inside.was at (inside_written (at_of c.args.n.now c.args.scope.now) c.args.fields.now c.args.inside.now c.requires.slice c.code_header_inside.new.scope _ _ _ _ c.code_inside.result first.ends header c.code_inside.ensures) in
    let behind = rw c.in_ok-code_behind.was at (behind_written (at_of c.args.n.now c.args.scope.now) c.args.fields.now c.args.inside.now c.requires.slice c.code_header_inside.new.scope c.code_behind.new.scope _ _ _ _ c.code_behind.result first.ends first.items c.code_behind.ensures) in
    (c.requires.slice, parts_written (at_of c.args.n.now c.args.scope.now) c.args.fields.now c.args.inside.now c.requires.slice _ _ _ first.bits inside.bits behind.bits)
