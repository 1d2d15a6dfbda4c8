use Rattle.std.proofs.Common.{ap, sym, ◌∙◌, ◌++◌, ◌∷◌, []}
use Rattle.vx_table.proofs.Gathering.{shown_more, shown_passed}
use Rattle.vx_pic.proofs.kept_fields.kept_among.Goals.{then-contains+in_ok-push, else-contains}
use Rattle.vx_pic.proofs.kept_fields.kept_among.Goals as goal

pub loop-i-preserved : goal.loop-i-preserved
loop-i-preserved c =
    let names = c.args.fields.now in
    let items = c.args.items.now in
    let item = c.item-item.result in
    elim c.if-contains.branch [
      | then-contains+in_ok-push w ↦
          let is = sym c.contains.ensures.value ∙ w.if-contains.true in
          w.kept-is ∙ (w.in_ok-push.ensures.ok ∙ (ap (λ xs. xs ++ item ∷ []) c.loop-i.invariant
          ∙ sym (shown_more names items c.loop-i.i item c.item-item.ensures.value is)))
      | else-contains w ↦
          let is = sym c.contains.ensures.value ∙ w.if-contains.false in
          w.kept-is ∙ (c.loop-i.invariant ∙ sym (shown_passed names items c.loop-i.i item c.item-item.ensures.value is))
    ]
