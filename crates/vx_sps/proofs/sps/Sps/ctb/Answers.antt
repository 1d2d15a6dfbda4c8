use Rattle.vx_sps.proofs.Bounded.{ctu_below}
use Rattle.vx_sps.proofs.sps.Sps.ctb.Goals as goal

pub ctb_size-requires : goal.ctb_size-requires
ctb_size-requires c = rw (c.deref.ensures, c.self.invariant.numbers) (ctu_below c.self.inside.fields c.self.invariant.set)
