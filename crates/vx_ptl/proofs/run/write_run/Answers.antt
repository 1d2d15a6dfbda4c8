use Rattle.std.proofs.Common.{◌≡◌, ◌-◌, ◌∙◌, ◌++◌, ap, arith}
use Rattle.std.proofs.lemmas.Result.{err_from_is_err_and}
use Rattle.vx_table.proofs.Items.{unwritten_next}
use Rattle.vx_ptl.proofs.Structured.{runs_spelled}
use Rattle.vx_ptl.proofs.Runs.{run_over, run_step, run_stopped, first_run, rest_run}
use Rattle.vx_ptl.proofs.run.write_run.Goals as goal

pub write_item-requires-clause-codes : goal.write_item-requires-clause-codes
write_item-requires-clause-codes c = c.field_codes-codes.ensures

pub write_item-requires-clause-item : goal.write_item-requires-clause-item
write_item-requires-clause-item c =
    let next = unwritten_next c.args.items.now c.loop-i.i c.args.to c.item-item.result c.loop-i-test.true c.requires.within c.item-item.ensures.index in
    first_run _ _ _ next c.loop-i.invariant.1

pub loop-i-preserved : goal.loop-i-preserved
loop-i-preserved c =
    let next = unwritten_next c.args.items.now c.loop-i.i c.args.to c.item-item.result c.loop-i-test.true c.requires.within c.item-item.ensures.index in
    let before = rw next at c.loop-i.invariant.0 in
    (run_step _ _ _ _ _ _ _ before c.in_ok-write_item.ensures.ok, rest_run _ _ _ next c.loop-i.invariant.1)

pub returns-in_err-write_item-clause-err : goal.returns-in_err-write_item-clause-err
returns-in_err-write_item-clause-err c =
    let next = unwritten_next c.args.items.now c.loop-i.i c.args.to c.item-item.result c.loop-i-test.true c.requires.within c.item-item.ensures.index in
    let before = rw next at c.loop-i.invariant.0 in
    let p = err_from_is_err_and c.from_residual.result c.from_residual.ensures.1 in
    rw p.1 (run_stopped _ _ _ _ _ _ _ before c.in_err-write_item.ensures.err)

pub returns : goal.returns
returns c =
    let none : c.args.to - c.loop-i.i ≡ 0 = omega (arith, c.loop-i-test.false) in
    let all = rw none at c.loop-i.invariant.0 in
    let written = run_over _ _ _ _ _ all in
    record { bits = written; err = tt; structures = λ bits spelled. written ∙ ap (λ run. c.args.bits.now ++ run) ((runs_spelled _ _ bits spelled).1 0) }
