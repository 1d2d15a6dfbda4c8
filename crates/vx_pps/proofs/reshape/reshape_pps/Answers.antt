use Rattle.std.proofs.Common.{◌∙◌}
use Rattle.vx_pps.proofs.Remade.{remade_from, reshaped_none, reshaped_some}
use Rattle.vx_pps.proofs.reshape.reshape_pps.Goals as goal

pub unreachable-requires : goal.unreachable-requires
unreachable-requires c =
    let made = remade_from c.args.pps.now c.fields-fields.result.now c.args.shape.now c.as_slice-names.result.now c.in_ok-shown.shown c.in_ok-others.others c.in_ok-set.set c.fields-fields.ensures.set c.fields-fields.ensures.items c.requires
    (c.as_slice-names.ensures ∙ c.in_ok-list.ensures) c.in_ok-shown.ensures c.in_ok-others.ensures c.in_ok-set.ensures in
    reshaped_none c.args.pps.now c.args.shape.now c.in_ok-set.set c.in-None.is made

pub returns : goal.returns
returns c =
    let made = remade_from c.args.pps.now c.fields-fields.result.now c.args.shape.now c.as_slice-names.result.now c.in_ok-shown.shown c.in_ok-others.others c.in_ok-set.set c.fields-fields.ensures.set c.fields-fields.ensures.items c.requires
    (c.as_slice-names.ensures ∙ c.in_ok-list.ensures) c.in_ok-shown.ensures c.in_ok-others.ensures c.in_ok-set.ensures in
    reshaped_some c.args.pps.now c.args.shape.now c.in-Some.set c.in_ok-set.set c.in-Some.is made
