use Rattle.vx_table.proofs.Rewriting.{makes_rewritten, made_is_rewritten}
use Rattle.vx_table.proofs.laws_rewritten.makes_rewritten.Goals as goal

pub returns : goal.returns
returns c = record { makes = makes_rewritten; made = made_is_rewritten }
