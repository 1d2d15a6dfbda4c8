use Rattle.vx_layout.proofs.Corners.{slices-inside, slices-run}
use Rattle.vx_layout.proofs.laws.slices_run_right_and_down.Goals as goal

pub returns-clause-inside : goal.returns-clause-inside
returns-clause-inside c = slices-inside

pub returns-clause-order : goal.returns-clause-order
returns-clause-order c = slices-run
