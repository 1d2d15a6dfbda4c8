use Rattle.std.proofs.Common.{inl, inr}
use Rattle.vx_merge.proofs.ids.new_id.Goals as goal

pub returns-in-Some : goal.returns-in-Some
returns-in-Some c = inl (rw c.in-Some.is at c.lowest_open.ensures)

pub returns-in-None : goal.returns-in-None
returns-in-None c = inr ((rw c.in-None.is at c.lowest_open.ensures), c.lowest_free.ensures c.args.slots.now)
