use Rattle.std.proofs.Common.{◌≡◌, true, false, refl}
use Rattle.vx_write.specs.Sets.{set_lent}
use Rattle.vx_write.specs.Slots.{Sent, held_serves}
use Rattle.vx_write.proofs.SetBySet.{kept_more, sent_more, pushed}
use Rattle.vx_write.proofs.sending.send.Goals as goal

pub returns-then-serves-clause-sent : goal.returns-then-serves-clause-sent
returns-then-serves-clause-sent c before sets sent others =
    let is : held_serves c.args.temporal_id (set_lent c.args.set) c.args.slots.now ≡ true = cc in
    kept_more c.args.temporal_id before sets c.args.slots.now _ (set_lent c.args.set) sent others is c.requires.set

pub returns-clause-sent : goal.returns-clause-sent
returns-clause-sent c before sets sent others =
    let isn't : held_serves c.args.temporal_id (set_lent c.args.set) c.args.slots.now ≡ false = cc in
    let y : Sent = record { set = set_lent c.args.set; temporal_id = c.tid_of_unit.result } in
    sent_more c.args.temporal_id before sets c.args.slots.now c.put.new.self _ _ (set_lent c.args.set) c.in_ok-unit.unit.items y c.requires.tid
    sent others isn't c.in_ok-unit.ensures refl c.tid_of_unit.ensures c.in_ok-put.ensures.put (pushed _ _ _ _ c.in_ok-push.ensures.items)
