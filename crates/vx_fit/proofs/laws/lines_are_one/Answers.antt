use Rattle.vx_fit.proofs.Single.{keeping_faultless, lines_fault_one, lines_one}
use Rattle.vx_fit.proofs.laws.lines_are_one.Goals as goal

pub returns-clause-one : goal.returns-clause-one
returns-clause-one c = lines_fault_one

pub returns-clause-none : goal.returns-clause-none
returns-clause-none c = keeping_faultless

pub returns-clause-bounds : goal.returns-clause-bounds
returns-clause-bounds c = lines_one
