use Rattle.std.proofs.Common.{ap, sym, subst, ◌∙◌, length, arith}
use Rattle.std.proofs.lemmas.List.{take_all}
use Rattle.std.proofs.lemmas.List.Sums.{sum_by_more}
use Rattle.std.specs.List.{sum_by}
use Rattle.std.specs.Prelude.{All}
use Rattle.vx_pic.specs.Parts.{Parts}
use Rattle.vx_frame.specs.inner.Geometry.{IsWhole}
use Rattle.vx_frame.proofs.Layouts.{each_more}
use Rattle.vx_frame.proofs.regions.slice_count.Goals as goal

pub loop-k-preserved : goal.loop-k-preserved
loop-k-preserved c =
    let more = sum_by_more (λ (q : Parts). length q.slices) c.args.round.now c.loop-k.k c.index-round-k.result c.loop-k-test.true in
    let size = ap (λ (q : Parts). length q.slices) c.index-round-k.is in (
      omega (arith, more, size, c.loop-k.invariant.0, c.slice_count-count.ensures.number),
      omega (arith, c.loop-k.invariant.1, c.slice_count-count.ensures.few),
      each_more IsWhole c.args.round.now c.loop-k.k c.index-round-k.result c.loop-k-test.true c.index-round-k.is c.loop-k.invariant.2
          (sym c.slice_count-count.ensures.number ∙ c.slice_count-count.ensures.whole),
    )

pub returns-clause-count : goal.returns-clause-count
returns-clause-count c = c.loop-k.invariant.0 ∙ ap (sum_by (λ (q : Parts). length q.slices)) (take_all c.loop-k.k c.args.round.now (omega arith))

pub returns-clause-whole : goal.returns-clause-whole
returns-clause-whole c = subst (All IsWhole) (take_all c.loop-k.k c.args.round.now (omega arith)) c.loop-k.invariant.2
