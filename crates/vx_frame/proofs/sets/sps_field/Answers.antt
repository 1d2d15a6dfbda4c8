use Rattle.std.proofs.Common.{ap, sym, ◌∙◌}
use Rattle.vx_pic.specs.Sets.{same_items}
use Rattle.vx_frame.proofs.Differing.{alike_sps}
use Rattle.vx_frame.proofs.sets.sps_field.Goals as goal

pub returns-then-same_items : goal.returns-then-same_items
returns-then-same_items c =
    alike_sps c.args.sps.now c.args.first.now
    (ap (λ xs. same_items c.args.sps.now xs) (sym (c.as_slice-2.ensures ∙ c.fields-2.ensures.items))
    ∙ (ap (λ xs. same_items xs c.as_slice-2.result.now) (sym (c.as_slice.ensures ∙ c.fields.ensures.items)) ∙ (sym c.same_items.ensures ∙ c.if-same_items.true)))
