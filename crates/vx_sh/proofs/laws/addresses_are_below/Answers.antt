use Rattle.vx_sh.proofs.Addressed as addressed
use Rattle.vx_sh.proofs.laws.addresses_are_below.Goals as goal

pub returns : goal.returns
returns c = addressed.addresses_are_below
