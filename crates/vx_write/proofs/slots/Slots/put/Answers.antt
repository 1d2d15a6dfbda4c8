use Rattle.vx_write.specs.Slots.{Sent}
use Rattle.vx_write.specs.Sets.{set_lent}
use Rattle.vx_write.proofs.Held.{put_there, put_behind}
use Rattle.vx_write.proofs.slots.Slots.put.Goals as goal

pub returns-in-Some-clause-put : goal.returns-in-Some-clause-put
returns-in-Some-clause-put c =
    let sent : Sent = record { set = set_lent c.args.set; temporal_id = c.args.temporal_id } in
    rw (c.replace.ensures, c.in_ok-sent.ensures, c.self.view_is) (put_there c.args.self.now c.in-Some.i sent c.in-Some.ensures)

pub returns-in_ok-push-in-None-clause-put : goal.returns-in_ok-push-in-None-clause-put
returns-in_ok-push-in-None-clause-put c =
    let sent : Sent = record { set = set_lent c.args.set; temporal_id = c.args.temporal_id } in
    rw (c.in_ok-push-in-None.ensures.items, c.in_ok-sent.ensures, c.self.view_is) (put_behind c.args.self.now sent c.in-None.ensures)
