use Rattle.std.proofs.Common.{◌++◌, ap, sym, ◌∙◌}
use Rattle.vx_frame.proofs.Gathered.{flat_read}
use Rattle.vx_merge.specs.inner.Making.{payloads_in}
use Rattle.vx_merge.proofs.round.payloads.Goals as goal

pub loop-k-preserved : goal.loop-k-preserved
loop-k-preserved c =
    c.in_ok-add_payloads.ensures
    ∙ (ap (λ us. us ++ payloads_in c.index-round-k.result) c.loop-k.invariant
    ∙ sym (flat_read payloads_in c.args.round.now c.loop-k.k c.index-round-k.result c.loop-k-test.true c.index-round-k.is))
