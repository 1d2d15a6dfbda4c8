use Rattle.vx_layout.proofs.Nested.{cut_nested, region_of-region}
use Rattle.vx_layout.proofs.laws.regions_nest.Goals as goal

pub returns-clause-bounds : goal.returns-clause-bounds
returns-clause-bounds c = cut_nested

pub returns-clause-region : goal.returns-clause-region
returns-clause-region c = region_of-region
