use Rattle.vx_layout.proofs.ReadBack.{bounds_of-all, tile_sizes-all}
use Rattle.vx_layout.proofs.laws.listed_are_sizes.Goals as goal

pub returns-clause-sizes : goal.returns-clause-sizes
returns-clause-sizes c = tile_sizes-all

pub returns-clause-bounds : goal.returns-clause-bounds
returns-clause-bounds c = bounds_of-all
