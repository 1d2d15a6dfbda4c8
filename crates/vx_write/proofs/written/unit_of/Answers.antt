use Rattle.vx_write.proofs.written.unit_of.Goals as goal

pub returns-in-Sps : goal.returns-in-Sps
returns-in-Sps c = rw c.in-Sps.is (c.sps_unit.ensures c.args.temporal_id)
