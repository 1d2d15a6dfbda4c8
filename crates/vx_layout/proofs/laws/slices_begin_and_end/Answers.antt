use Rattle.vx_layout.proofs.Corners.{slice-begins, slice-ends}
use Rattle.vx_layout.proofs.laws.slices_begin_and_end.Goals as goal

pub returns-clause-first : goal.returns-clause-first
returns-clause-first c = slice-begins

pub returns-clause-last : goal.returns-clause-last
returns-clause-last c = slice-ends
