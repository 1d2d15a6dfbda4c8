use Rattle.vx_table.proofs.Rewriting.{rewrites}
use Rattle.vx_table.proofs.rewriter.rewrite_table.Goals as goal

pub returns : goal.returns
returns c = rewrites c.code_table.new.scope c.code_table.result c.code_table.ensures
