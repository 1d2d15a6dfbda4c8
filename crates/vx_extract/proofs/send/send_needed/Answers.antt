use Rattle.std.proofs.Common.{[], ◌∷◌, refl}
use Rattle.vx_pic.specs.Written.{an_sps}
use Rattle.vx_write.proofs.SetBySet.{none_more}
use Rattle.vx_extract.proofs.send.send_needed.Goals as goal

pub returns : goal.returns
returns c before last =
    let first = c.in_ok-send.ensures.sent before []
    (rw c.new-units.ensures.items (none_more c.kind-temporal_id.result.temporal_id before c.args.slots.now last)) tt in
    let second = c.in_ok-send-2.ensures.sent before (an_sps c.args.sps.now ∷ []) first (refl, tt) in
    c.in_ok-send_named.ensures before c.args.sps.now c.args.pps.now (rw c.kind-temporal_id.ensures.value at second)
