use Rattle.std.proofs.Common.{ap, sym, ◌∙◌}
use Rattle.vx_pic.specs.Sets.{same_items}
use Rattle.vx_frame.proofs.Differing.{alike_pps}
use Rattle.vx_frame.proofs.sets.pps_field.Goals as goal

pub returns-then-same_items : goal.returns-then-same_items
returns-then-same_items c =
    alike_pps c.args.pps.now c.args.first.now c.args.kept.now c.requires
    (ap (λ xs. same_items c.args.pps.now xs) (sym (c.as_slice-2.ensures ∙ c.fields-2.ensures.items))
    ∙ (ap (λ xs. same_items xs c.as_slice-2.result.now) (sym (c.as_slice.ensures ∙ c.fields.ensures.items)) ∙ (sym c.same_items.ensures ∙ c.if-same_items.true)))
