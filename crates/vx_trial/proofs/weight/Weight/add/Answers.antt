-- One more.
use Rattle.vx_trial.proofs.Weights.{weighs_next}
use Rattle.vx_trial.proofs.weight.Weight.add.Goals as goal

pub loop-byte-preserved : goal.loop-byte-preserved
loop-byte-preserved c before is =
    weighs_next before c.args.bytes.now c.loop-byte.byte-index c.from.result c.loop-byte.self c.loop-byte-test.true c.from.ensures (c.loop-byte.invariant before is)
