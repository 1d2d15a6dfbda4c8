use Rattle.std.proofs.Common.{arith}
use Rattle.vx_annexb.proofs.Zeros.{no_mark_at_all, past_search}
use Rattle.vx_annexb.proofs.search.find_mark.Goals as goal

pub returns-in_err-zeros : goal.returns-in_err-zeros
returns-in_err-zeros c =
    rw c.from_residual.ensures (no_mark_at_all c.args.most c.args.bytes.now c.args.from c.loop-zeros.zeros c.step_to_mark-at.result c.loop-zeros.invariant.3 c.step_to_mark-at.ensures.none c.in_err-zeros.ensures)

pub loop-zeros-preserved-then-zeros-at-lt-NEAR : goal.loop-zeros-preserved-then-zeros-at-lt-NEAR
loop-zeros-preserved-then-zeros-at-lt-NEAR c =
    past_search c.args.most c.args.bytes.now c.args.from c.loop-zeros.zeros c.step_to_mark-at.result 64 c.in_ok-zeros.zeros (omega (arith, c.loop-zeros.invariant, c.step_to_mark-at.ensures.order)) (omega arith)
    c.loop-zeros.invariant.3 c.step_to_mark-at.ensures.none c.in_ok-zeros.ensures

pub loop-zeros-preserved : goal.loop-zeros-preserved
loop-zeros-preserved c =
    past_search c.args.most c.args.bytes.now c.args.from c.loop-zeros.zeros c.step_to_mark-at.result 1 c.in_ok-zeros.zeros (omega (arith, c.loop-zeros.invariant, c.step_to_mark-at.ensures.order)) (omega arith)
    c.loop-zeros.invariant.3 c.step_to_mark-at.ensures.none c.in_ok-zeros.ensures
