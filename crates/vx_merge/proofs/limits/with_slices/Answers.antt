use Rattle.std.proofs.Common.{◌≤◌, ◌+◌, ◌++◌, length, ap, subst, ◌∙◌, arith}
use Rattle.std.specs.List.{AllByRecursion}
use Rattle.std.proofs.lemmas.List.{take_all}
use Rattle.vx_bits.specs.Codes.{AreBytes}
use Rattle.vx_frame.proofs.Gathered.{all_more}
use Rattle.vx_merge.specs.inner.Making.{capped, size_of, slice_units}
use Rattle.vx_merge.proofs.Limiting.{capped_more, slices_past}
use Rattle.vx_merge.proofs.limits.with_slices.Goals as goal

pub loop-i-preserved : goal.loop-i-preserved
loop-i-preserved c =
    let sum = c.with_slice-sum.ensures.count
    ∙ (ap (λ n. capped (n + (c.args.each + length (c.slice-slice.result.front.now ++ c.slice-slice.result.payload.now)))) c.loop-i.invariant.0
    ∙ capped_more c.args.total c.args.each c.loop-i.i (slice_units c.args.units.now) _ c.slice-slice.ensures) in
    (sum, all_more AreBytes (slice_units c.args.units.now) c.loop-i.i _ c.slice-slice.ensures c.loop-i.invariant.1 c.with_slice-sum.ensures.bytes)

pub returns-clause-count : goal.returns-clause-count
returns-clause-count c =
    let past : length (slice_units c.args.units.now) ≤ c.loop-i.i = slices_past c.args.units.now c.loop-i.i c.requires (omega arith) in
    c.loop-i.invariant.0 ∙ ap (λ us. capped (c.args.total + size_of c.args.each us)) (take_all c.loop-i.i (slice_units c.args.units.now) past)

pub returns-clause-bytes : goal.returns-clause-bytes
returns-clause-bytes c =
    let past : length (slice_units c.args.units.now) ≤ c.loop-i.i = slices_past c.args.units.now c.loop-i.i c.requires (omega arith) in
    subst (AllByRecursion AreBytes) (take_all c.loop-i.i (slice_units c.args.units.now) past) c.loop-i.invariant.1
