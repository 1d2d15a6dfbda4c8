use Rattle.vx_sh.proofs.Elsewhere as elsewhere
use Rattle.vx_sh.proofs.laws.slice_read_elsewhere.Goals as goal

pub returns : goal.returns
returns c = elsewhere.slice_read_elsewhere
