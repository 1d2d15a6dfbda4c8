use Rattle.vx_layout.proofs.ReadBack.{bounds_of-sizes, length-sizes_between, sizes_between-some, sizes_between-sums, sum-sizes_between}
use Rattle.vx_layout.proofs.laws.bounds_by_sizes.Goals as goal

pub returns-clause-count : goal.returns-clause-count
returns-clause-count c = length-sizes_between

pub returns-clause-some : goal.returns-clause-some
returns-clause-some c = sizes_between-some

pub returns-clause-total : goal.returns-clause-total
returns-clause-total c = sum-sizes_between

pub returns-clause-bounds : goal.returns-clause-bounds
returns-clause-bounds c = bounds_of-sizes

pub returns-clause-sizes : goal.returns-clause-sizes
returns-clause-sizes c = sizes_between-sums
