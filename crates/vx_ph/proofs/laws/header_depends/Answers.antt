use Rattle.vx_ph.proofs.Carrying.{kept_depend, all_depend}
use Rattle.vx_ph.proofs.laws.header_depends.Goals as goal

pub returns : goal.returns
returns c = record { kept = kept_depend; all = all_depend }
