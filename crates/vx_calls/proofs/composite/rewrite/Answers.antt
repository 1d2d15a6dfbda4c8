use Rattle.vx_table.proofs.Rewriting.{rewrites}
use Rattle.vx_calls.proofs.composite.rewrite.Goals as goal

pub returns : goal.returns
returns c = rewrites c.code_composite.new.scope c.code_composite.result c.code_composite.ensures
