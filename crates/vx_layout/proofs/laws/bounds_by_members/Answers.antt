use Rattle.vx_layout.proofs.Members.{Rises-members}
use Rattle.vx_layout.proofs.laws.bounds_by_members.Goals as goal

pub returns : goal.returns
returns c = Rises-members
