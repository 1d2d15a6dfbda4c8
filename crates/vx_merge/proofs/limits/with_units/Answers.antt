use Rattle.std.proofs.Common.{◌+◌, length, map, ap, subst, ◌∙◌}
use Rattle.vx_bits.specs.Codes.{AreBytes}
use Rattle.vx_frame.proofs.Gathered.{all_more}
use Rattle.vx_merge.specs.inner.Making.{capped}
use Rattle.vx_merge.proofs.Limiting.{capped_more, mapped_at}
use Rattle.vx_merge.proofs.limits.with_units.Goals as goal

pub loop-k-preserved : goal.loop-k-preserved
loop-k-preserved c =
    let at = mapped_at (λ u. u.items) c.args.units.now c.loop-k.k c.index-units-k.result c.loop-k-test.true c.index-units-k.is in
    let sum = c.with_unit-sum.ensures.count ∙ (ap (λ us. capped (c.loop-k.sum + (4 + length us))) c.as_slice.ensures.value
    ∙ (ap (λ n. capped (n + (4 + length c.index-units-k.result.items))) c.loop-k.invariant.0
    ∙ capped_more c.args.total 4 c.loop-k.k (map (λ u. u.items) c.args.units.now) c.index-units-k.result.items at)) in
    let bytes = subst AreBytes c.as_slice.ensures.value c.with_unit-sum.ensures.bytes in
    (sum, all_more AreBytes (map (λ u. u.items) c.args.units.now) c.loop-k.k c.index-units-k.result.items at c.loop-k.invariant.1 bytes)
