use Rattle.std.proofs.Common.{◌≤◌, ◌<◌, ◌+◌, ◌^◌, length, sym, ap, subst, ◌∙◌, arith}
use Rattle.vx_annexb.specs.ByteStream.{source_limit}
use Rattle.vx_pic.specs.Rules.{picture_limit}
use Rattle.vx_merge.specs.inner.Making.{capped, size_of, slice_units, units_made}
use Rattle.vx_merge.proofs.Limiting.{breaks_picture, breaks_stream, breaks_unit, capped_over, capped_within, keeps_limits, own_length}
use Rattle.vx_merge.proofs.limits.bytes_within.Goals as goal

pub returns-then-has_long_unit-clause-broken : goal.returns-then-has_long_unit-clause-broken
returns-then-has_long_unit-clause-broken c =
    λ n some. breaks_unit n some (units_made c.args.units.now) _ _ (sym c.has_long_unit.ensures ∙ c.if-has_long_unit.true)

pub returns-then-with_slices-clause-broken : goal.returns-then-with_slices-clause-broken
unfolding picture_limit
returns-then-with_slices-clause-broken c =
    let size = c.with_slices.ensures.count ∙ ap (λ n. capped (n + size_of 0 (slice_units c.args.units.now))) (c.len.ensures ∙ own_length c.args.units.now.header) in
    let over : 2 ^ 25 < capped (length c.args.units.now.header.items + size_of 0 (slice_units c.args.units.now)) = subst (λ n. 2 ^ 25 < n) size c.if-with_slices.true in
    λ n some. breaks_picture n some (units_made c.args.units.now) _ _ (sym c.has_long_unit.ensures ∙ c.if-has_long_unit.false)
    (capped_over _ (2 ^ 25) (omega arith) over)

pub returns-then-total-gt-SOURCE_LIMIT-clause-broken : goal.returns-then-total-gt-SOURCE_LIMIT-clause-broken
unfolding picture_limit source_limit
returns-then-total-gt-SOURCE_LIMIT-clause-broken c =
    let size = c.with_slices.ensures.count ∙ ap (λ n. capped (n + size_of 0 (slice_units c.args.units.now))) (c.len.ensures ∙ own_length c.args.units.now.header) in
    let few : capped (length c.args.units.now.header.items + size_of 0 (slice_units c.args.units.now)) ≤ 2 ^ 25 = subst (λ n. n ≤ 2 ^ 25) size c.if-with_slices.false in
    let over : 2 ^ 40 < capped (c.args.bytes + size_of 4 (units_made c.args.units.now)) = subst (λ n. 2 ^ 40 < n) c.with_round-total.ensures.count c.if-total-gt-SOURCE_LIMIT.true in
    λ n some. breaks_stream n some (units_made c.args.units.now) _ _ (sym c.has_long_unit.ensures ∙ c.if-has_long_unit.false)
    (capped_within _ (2 ^ 25) (omega arith) few).0 (capped_over _ (2 ^ 40) (omega arith) over)

pub returns-clause-total : goal.returns-clause-total
returns-clause-total c =
    let within : capped (c.args.bytes + size_of 4 (units_made c.args.units.now)) ≤ 2 ^ 40 = subst (λ n. n ≤ 2 ^ 40) c.with_round-total.ensures.count c.if-total-gt-SOURCE_LIMIT.false in
    c.with_round-total.ensures.count ∙ (capped_within _ (2 ^ 40) (omega arith) within).1

pub returns-clause-within : goal.returns-clause-within
unfolding picture_limit source_limit
returns-clause-within c =
    let size = c.with_slices.ensures.count ∙ ap (λ n. capped (n + size_of 0 (slice_units c.args.units.now))) (c.len.ensures ∙ own_length c.args.units.now.header) in
    let few : capped (length c.args.units.now.header.items + size_of 0 (slice_units c.args.units.now)) ≤ 2 ^ 25 = subst (λ n. n ≤ 2 ^ 25) size c.if-with_slices.false in
    let within : capped (c.args.bytes + size_of 4 (units_made c.args.units.now)) ≤ 2 ^ 40 = subst (λ n. n ≤ 2 ^ 40) c.with_round-total.ensures.count c.if-total-gt-SOURCE_LIMIT.false in
    λ n some. keeps_limits n some (units_made c.args.units.now) _ _ (sym c.has_long_unit.ensures ∙ c.if-has_long_unit.false)
    (capped_within _ (2 ^ 25) (omega arith) few).0 (capped_within _ (2 ^ 40) (omega arith) within).0
