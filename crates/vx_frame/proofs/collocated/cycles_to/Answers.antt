use Rattle.std.proofs.Common.{◌+◌, ◌∙◌, ap, sym, take, arith}
use Rattle.vx_frame.specs.Collocated.{cycles_to}
use Rattle.vx_frame.proofs.Deltas.{cycles_more}
use Rattle.vx_frame.proofs.collocated.cycles_to.Goals as goal

pub loop-i-preserved : goal.loop-i-preserved
loop-i-preserved c =
    let list = c.args.list.now in
    let i = c.loop-i.i in
    record {
      value = ap (λ s. s + c.cycles_of-sum.result) c.loop-i.invariant.value
          ∙ (ap (λ d. cycles_to (take i list) + d) c.cycles_of-sum.ensures.value ∙ sym (cycles_more list i c.item.result c.item.ensures));
      high = omega (arith, c.loop-i.invariant.high, c.cycles_of-sum.ensures.high);
    }
