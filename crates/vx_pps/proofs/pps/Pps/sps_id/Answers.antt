use Rattle.std.proofs.Common.{◌<◌, arith}
use Rattle.vx_pps.proofs.Ids.{sps_id_below}
use Rattle.vx_pps.proofs.pps.Pps.sps_id.Goals as goal

pub overflow_cast-result : goal.overflow_cast-result
overflow_cast-result c =
    let below : c.latest.result < 16 = rw (c.latest.ensures, c.deref.ensures, c.self.invariant.1) (sps_id_below c.self.inside.fields (record { end = c.self.inside.partition; set = c.self.invariant.0 })) in
    omega (arith, below)

pub returns-clause-low : goal.returns-clause-low
returns-clause-low c =
    rw (c.latest.ensures, c.deref.ensures, c.self.invariant.1) (sps_id_below c.self.inside.fields (record { end = c.self.inside.partition; set = c.self.invariant.0 }))
