use Rattle.vx_sps.proofs.Sifted.{kept_are_sifted}
use Rattle.vx_sps.proofs.laws.kept_are_sifted.Goals as goal

pub returns : goal.returns
returns c = kept_are_sifted
