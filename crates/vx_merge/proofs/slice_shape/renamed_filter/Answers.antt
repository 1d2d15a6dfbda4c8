use Rattle.std.proofs.Common.{◌≡◌, ◌++◌, [], ◌∷◌, true, false, take, ap, sym, ◌∙◌, arith}
use Rattle.vx_bits.specs.declared.list.Item.{Item}
use Rattle.vx_fields.specs.declared.alf.TheConstants as alf
use Rattle.vx_table.specs.Depends.{has}
use Rattle.vx_ph.specs.Filter.{filter_of, with_ids}
use Rattle.vx_merge.specs.inner.Fronts.{new_id}
use Rattle.vx_merge.proofs.SliceFilters.{renamed_all, renamed_more, renamed_passed}
use Rattle.vx_merge.proofs.slice_shape.renamed_filter.Goals.{then-is_of_filter+in_ok-push, else-is_of_filter}
use Rattle.vx_merge.proofs.slice_shape.renamed_filter.Goals as goal

pub loop-i-preserved : goal.loop-i-preserved
loop-i-preserved c =
    let ids = new_id c.args.named.now c.args.picture.now in
    let items = c.args.items.now in
    let item : Item = c.item-item.result in
    elim c.if-is_of_filter.branch [
      | then-is_of_filter+in_ok-push w ↦
          let is : has alf.ALL item.field ≡ true = sym c.is_of_filter.ensures ∙ w.if-is_of_filter.true in
          w.made-is ∙ (w.in_ok-push.ensures.ok ∙ (ap (λ m. m ++ w.renamed.result ∷ []) c.loop-i.invariant
          ∙ (ap (λ x. with_ids ids (filter_of (take c.loop-i.i items)) ++ x ∷ []) w.renamed.ensures
          ∙ sym (renamed_more alf.ALL ids items c.loop-i.i item c.item-item.ensures.value is))))
      | else-is_of_filter w ↦
          let is : has alf.ALL item.field ≡ false = sym c.is_of_filter.ensures ∙ w.if-is_of_filter.false in
          w.made-is ∙ (c.loop-i.invariant ∙ sym (renamed_passed alf.ALL ids items c.loop-i.i item c.item-item.ensures.value is))
    ]

pub returns : goal.returns
returns c = c.loop-i.invariant ∙ renamed_all alf.ALL (new_id c.args.named.now c.args.picture.now) c.args.items.now c.loop-i.i
    (omega arith)
