use Rattle.vx_layout.proofs.Counted.{ctus-region, slice_at-region}
use Rattle.vx_layout.proofs.laws.region_keeps_slices.Goals as goal

pub returns-clause-slices : goal.returns-clause-slices
returns-clause-slices c = slice_at-region

pub returns-clause-ctus : goal.returns-clause-ctus
returns-clause-ctus c = ctus-region
