use Rattle.vx_layout.proofs.Corners.{first-begins, last-ends}
use Rattle.vx_layout.proofs.laws_frames.first_begins_and_last_ends.Goals as goal

pub returns-clause-first : goal.returns-clause-first
returns-clause-first c = first-begins

pub returns-clause-last : goal.returns-clause-last
returns-clause-last c = last-ends
