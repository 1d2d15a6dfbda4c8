use Rattle.vx_table.proofs.Rewriting.{rewrites}
use Rattle.vx_table.proofs.rewriter.rewrite_parts.Goals as goal

pub returns : goal.returns
returns c = rewrites c.code_parts.new.scope c.code_parts.result c.code_parts.ensures
