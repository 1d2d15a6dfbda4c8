use Rattle.vx_fit.proofs.Single.{fault_one, fitting_faultless}
use Rattle.vx_fit.proofs.laws.fit_fault_is_one.Goals as goal

pub returns-clause-one : goal.returns-clause-one
returns-clause-one c = fault_one

pub returns-clause-none : goal.returns-clause-none
returns-clause-none c = fitting_faultless
