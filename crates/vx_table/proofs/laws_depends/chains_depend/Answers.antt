use Rattle.vx_table.proofs.Chains.{chains_depend}
use Rattle.vx_table.proofs.laws_depends.chains_depend.Goals as goal

pub returns : goal.returns
returns c = chains_depend
