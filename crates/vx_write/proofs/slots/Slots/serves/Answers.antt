use Rattle.std.proofs.Common.{sym, ◌∙◌}
use Rattle.vx_write.specs.Sets.{set_lent}
use Rattle.vx_write.proofs.Held.{none_serves, one_serves}
use Rattle.vx_write.proofs.slots.Slots.serves.Goals as goal

pub returns-in-Some : goal.returns-in-Some
returns-in-Some c =
    c.serves.ensures
    ∙ sym (one_serves c.args.temporal_id (set_lent c.args.set) c.args.self.now c.in-Some.i c.index.result.now c.in-Some.ensures (rw c.self.view_is at c.index.ensures))

pub returns-in-None : goal.returns-in-None
returns-in-None c = sym (none_serves c.args.temporal_id (set_lent c.args.set) c.args.self.now c.in-None.ensures)
