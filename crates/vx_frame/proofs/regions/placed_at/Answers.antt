use Rattle.std.proofs.Common.{subst, sym}
use Rattle.vx_fit.specs.Placing.{IsInRange}
use Rattle.vx_frame.proofs.Sized.{in_range}
use Rattle.vx_frame.proofs.regions.placed_at.Goals as goal

pub returns-clause-range : goal.returns-clause-range
returns-clause-range c = subst IsInRange (sym c.region_at.ensures) (in_range c.args.corner c.args.picture.now c.requires.corner c.requires.sets)
