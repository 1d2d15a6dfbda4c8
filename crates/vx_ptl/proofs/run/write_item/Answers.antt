use Rattle.std.proofs.Common.{rules, w64}
use Rattle.std.proofs.lemmas.Int.{to_z-of_z}
use Rattle.std.proofs.lemmas.Result.{err_from_is_err_and}
use mir.Val.{SFits}
use Rattle.vx_ptl.proofs.Runs.{item_written, item_interrupted}
use Rattle.vx_ptl.proofs.run.write_item.Goals as goal

pub returns-clause-ok : goal.returns-clause-ok
returns-clause-ok c =
    let fits : SFits w64 c.args.item.value = search rules in
    let coded = rw (to_z-of_z w64 c.args.item.value fits) at c.in_ok-write_code-in-Some.ensures.ok in
    let gapped = rw c.code_of-code.ensures.code at c.in_ok-write_gap.ensures.ok in
    let is = rw c.code_of-code.ensures.code at c.in-Some.is in
    item_written c.args.before c.args.item c.args.bits.now c.write_gap.new.bits c.write_code.new.bits c.in-Some.coding is gapped coded

pub returns-in_err-write_code-in-Some-clause-err : goal.returns-in_err-write_code-in-Some-clause-err
returns-in_err-write_code-in-Some-clause-err c =
    let gapped = rw c.code_of-code.ensures.code at c.in_ok-write_gap.ensures.ok in
    let p = err_from_is_err_and c.from_residual-in_err-write_code-in-Some.result c.from_residual-in_err-write_code-in-Some.ensures.1 in
    rw p.1 (item_interrupted c.args.before c.args.item c.args.bits.now c.write_gap.new.bits c.write_code.new.bits gapped c.in_err-write_code-in-Some.ensures.err)
