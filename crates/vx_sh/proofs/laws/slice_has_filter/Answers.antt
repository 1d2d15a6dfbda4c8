use Rattle.vx_sh.proofs.Filtering.{slice_has_filter}
use Rattle.vx_sh.proofs.laws.slice_has_filter.Goals as goal

pub returns : goal.returns
returns c = slice_has_filter
