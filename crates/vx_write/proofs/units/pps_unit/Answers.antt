use Rattle.vx_write.proofs.Ending.{pps_ends}
use Rattle.vx_write.proofs.units.pps_unit.Goals as goal

pub plain_unit-requires-clause-ends : goal.plain_unit-requires-clause-ends
plain_unit-requires-clause-ends c = rw c.deref.ensures.value (pps_ends c.args.pps.now c.in_ok-rbsp.rbsp.items c.in_ok-rbsp.ensures)
