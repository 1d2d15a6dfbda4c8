use Rattle.vx_sh.proofs.Sending.{sent_apart}
use Rattle.vx_sh.proofs.send.SliceSender.send_fields.Goals as goal

pub returns : goal.returns
returns c =
    rw (← c.self.view_is) (sent_apart c.self.inside.numbers c.self.invariant c.args.stated.now c.args.source.now c.code_apart.new.scope c.code_apart.result
    c.table.ensures c.len.ensures c.new.ensures c.len-2.ensures c.new-2.ensures c.new-sender.ensures c.requires c.code_apart.ensures)
