use Rattle.vx_write.proofs.Standing.{eos_stands, unit_stands}
use Rattle.vx_write.proofs.laws.units_stand.Goals as goal

pub returns-clause-units : goal.returns-clause-units
returns-clause-units c = unit_stands

pub returns-clause-end : goal.returns-clause-end
returns-clause-end c = eos_stands
