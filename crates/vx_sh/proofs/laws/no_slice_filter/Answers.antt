use Rattle.vx_sh.proofs.Enabled.{no_slice_filter}
use Rattle.vx_sh.proofs.laws.no_slice_filter.Goals as goal

pub returns : goal.returns
returns c = no_slice_filter
