use Rattle.std.proofs.Common.{◌<◌, arith}
use Rattle.vx_sps.proofs.Bounded.{subpics_below}
use Rattle.vx_sps.proofs.sps.Sps.subpics.Goals as goal

pub overflow_add-result : goal.overflow_add-result
overflow_add-result c =
    let below : c.latest.result < 1000 = rw (c.latest.ensures, c.deref.ensures, c.self.invariant.numbers) (subpics_below c.self.inside.fields c.self.invariant.set) in
    omega (arith, below)

pub returns-clause-most : goal.returns-clause-most
returns-clause-most c =
    let below : c.latest.result < 1000 = rw (c.latest.ensures, c.deref.ensures, c.self.invariant.numbers) (subpics_below c.self.inside.fields c.self.invariant.set) in
    omega (arith, below)
