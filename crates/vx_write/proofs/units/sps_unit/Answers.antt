use Rattle.vx_write.proofs.Ending.{sps_ends}
use Rattle.vx_write.proofs.units.sps_unit.Goals as goal

pub plain_unit-requires-clause-ends : goal.plain_unit-requires-clause-ends
plain_unit-requires-clause-ends c = rw c.deref.ensures.value (sps_ends c.args.sps.now c.in_ok-rbsp.rbsp.items c.in_ok-rbsp.ensures)
