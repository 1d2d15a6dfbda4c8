use Rattle.std.proofs.Common.{◌<◌, arith}
use Rattle.vx_sps.proofs.Bounded.{id_below}
use Rattle.vx_sps.proofs.sps.Sps.sps_id.Goals as goal

pub overflow_cast-result : goal.overflow_cast-result
overflow_cast-result c =
    let below : c.latest.result < 16 = rw (c.latest.ensures, c.deref.ensures, c.self.invariant.numbers) (id_below c.self.inside.fields c.self.invariant.set) in
    omega (arith, below)

pub returns-clause-low : goal.returns-clause-low
returns-clause-low c =
    rw (c.latest.ensures, c.deref.ensures, c.self.invariant.numbers) (id_below c.self.inside.fields c.self.invariant.set)
