use Rattle.std.proofs.Common.{[], ◌∷◌, refl}
use Rattle.vx_pic.specs.Written.{an_sps, a_pps}
use Rattle.vx_write.proofs.SetBySet.{none_more}
use Rattle.vx_merge.proofs.Owning.{apart_ids}
use Rattle.vx_merge.proofs.send.send_needed.Goals as goal

pub returns : goal.returns
returns c corners level round frame sent last needed =
    let n = c.args.needed.now in
    let first = c.in_ok-send.ensures.sent sent [] (rw c.new-units.ensures.items (none_more c.args.temporal_id sent c.args.slots.now last)) tt in
    let second = c.in_ok-send-2.ensures.sent sent (an_sps n.sps.now ∷ []) first (refl, tt) in
    let third = c.in_ok-send_bodies.ensures sent (an_sps n.sps.now ∷ a_pps n.pps.now ∷ []) (apart_ids corners level round frame sent n needed) second (λ kind id. (refl, (refl, tt))) in
    rw (← needed.alf, ← needed.lmcs, ← needed.scaling) third
