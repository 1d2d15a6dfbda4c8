use Rattle.vx_layout.proofs.Lowest.{layout-faultless, lowest-one}
use Rattle.vx_layout.proofs.laws.lowest_fault_is_one.Goals as goal

pub returns-clause-one : goal.returns-clause-one
returns-clause-one c = lowest-one

pub returns-clause-none : goal.returns-clause-none
returns-clause-none c = layout-faultless
