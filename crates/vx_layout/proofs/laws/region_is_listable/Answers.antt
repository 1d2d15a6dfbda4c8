use Rattle.vx_layout.proofs.RegionShapes.{region-listable}
use Rattle.vx_layout.proofs.laws.region_is_listable.Goals as goal

pub returns : goal.returns
returns c = region-listable
