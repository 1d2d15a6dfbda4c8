use Rattle.std.proofs.Common.{◌∙◌, length, ap}
use Rattle.vx_pps.specs.Pps.{ArePpsItems}
use Rattle.vx_pic.proofs.Ids.{ids_count}
use Rattle.vx_pic.proofs.layouts.picture_ids.Goals as goal

pub returns-clause-one_each : goal.returns-clause-one_each
returns-clause-one_each c = λ agree.
    let set : ArePpsItems c.args.pps.now = rw c.fields-set.ensures.items at c.fields-set.ensures.set in
    ap length c.in_ok-ids.ensures ∙ ids_count c.args.sps.now c.args.pps.now set agree
