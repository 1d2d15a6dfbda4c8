use Rattle.std.proofs.Common.{◌≡◌, ap, ◌∙◌, rules, w64, to_z, of_z}
use Rattle.vx_table.specs.Scope.{natural}
use Rattle.vx_extract.specs.inner.Needed.{marked}
use Rattle.vx_extract.proofs.Naming.{mark_on}
use Rattle.vx_extract.proofs.needed.NamedAps.mark_named.Goals as goal

pub loop-i-preserved : goal.loop-i-preserved
loop-i-preserved c =
    let is : c.item-item.result.field ≡ c.args.field = search rules in
    let whole : to_z w64 (of_z w64 c.item-item.result.value) ≡ c.item-item.result.value = search rules in
    mark_on c.args.self.now c.loop-i.self c.mark.new.self c.args.kind c.args.field c.args.items.now c.loop-i.i c.item-item.result c.item-item.ensures.value is
    c.loop-i.invariant (c.mark.ensures ∙ ap (λ n. marked c.loop-i.self (record { kind = c.args.kind; id = n })) (c.natural.ensures ∙ ap natural whole))
