use Rattle.vx_pic.proofs.Joining.{begins_where_first}
use Rattle.vx_pic.proofs.laws_joined.begins_where_first.Goals as goal

pub returns : goal.returns
returns c = begins_where_first
