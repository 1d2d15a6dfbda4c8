use Rattle.std.proofs.Common.{◌≡◌, true, false, map, ap, sym, ◌∙◌}
use Rattle.std.proofs.lemmas.List.{append-nil}
use Rattle.vx_merge.specs.inner.Making.{is_long}
use Rattle.vx_merge.proofs.Limiting.{any_found, mapped_at, none_more}
use Rattle.vx_merge.proofs.limits.has_long.Goals as goal

pub returns-then-is_long : goal.returns-then-is_long
returns-then-is_long c =
    let at = mapped_at (λ u. u.items) c.args.units.now c.loop-k.k c.index-units-k.result c.loop-k-test.true c.index-units-k.is in
    let long : true ≡ is_long c.index-units-k.result.items =
    sym c.if-is_long.true ∙ (c.is_long.ensures ∙ ap is_long (append-nil c.as_slice.result.now ∙ c.as_slice.ensures.value)) in
    sym (any_found is_long (map (λ u. u.items) c.args.units.now) c.loop-k.k c.index-units-k.result.items at (sym long))

pub loop-k-preserved : goal.loop-k-preserved
loop-k-preserved c =
    let at = mapped_at (λ u. u.items) c.args.units.now c.loop-k.k c.index-units-k.result c.loop-k-test.true c.index-units-k.is in
    let short : false ≡ is_long c.index-units-k.result.items =
    sym c.if-is_long.false ∙ (c.is_long.ensures ∙ ap is_long (append-nil c.as_slice.result.now ∙ c.as_slice.ensures.value)) in
    none_more is_long (map (λ u. u.items) c.args.units.now) c.loop-k.k c.index-units-k.result.items at (sym short) c.loop-k.invariant
