use Rattle.vx_table.proofs.Rewriting.{rewrites_one_way}
use Rattle.vx_table.proofs.laws_rewritten.rewrites_one_way.Goals as goal

pub returns : goal.returns
returns c = rewrites_one_way
