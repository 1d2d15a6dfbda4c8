use Rattle.vx_sh.proofs.Kept.{kept_depend, all_depend}
use Rattle.vx_sh.proofs.laws.slices_depend.Goals as goal

pub returns : goal.returns
returns c = record { kept = kept_depend; all = all_depend }
