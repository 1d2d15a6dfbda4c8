use Rattle.std.proofs.Common.{◌≡◌, [], ◌∷◌, ◌++◌, ◌∙◌, ap, arith}
use Rattle.std.proofs.lemmas.List.{length-append}
use Rattle.vx_rpl.specs.HeaderLists.{entry_told}
use Rattle.vx_rpl.proofs.Told.{told_more}
use Rattle.vx_rpl.proofs.lists.told.Goals as goal

pub loop-i-preserved : goal.loop-i-preserved
loop-i-preserved c =
    let entry = entry_told c.args.structure.now.in_header c.item-entry.result c.loop-i.left.now in
    let pushed : c.push.new.self ≡ c.loop-i.list ++ entry ∷ [] = c.in_ok-push.ensures.ok ∙ ap (λ e. c.loop-i.list ++ e ∷ []) c.entry_told.ensures in
    rw (pushed, c.behind_entry-left.ensures) (
      omega (arith, length-append c.loop-i.list (entry ∷ []), c.loop-i.invariant.0),
      told_more c.args.structure.now.in_header c.loop-i.list c.args.structure.now.entries _ c.loop-i.i c.item-entry.result c.loop-i.left.now c.item-entry.ensures c.loop-i.invariant.1,
    )
