use Rattle.vx_sh.proofs.SameScopes.{slices_agree_on_kept}
use Rattle.vx_sh.proofs.laws.slices_agree_on_kept.Goals as goal

pub returns : goal.returns
returns c = slices_agree_on_kept
