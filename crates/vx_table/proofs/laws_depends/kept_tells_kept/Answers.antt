use Rattle.vx_table.proofs.Starred.{kept_tells_kept}
use Rattle.vx_table.proofs.laws_depends.kept_tells_kept.Goals as goal

pub returns : goal.returns
returns c = kept_tells_kept
