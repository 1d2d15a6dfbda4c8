use Rattle.vx_table.proofs.Keeping.{rewritten_keeps, sections_fill_none}
use Rattle.vx_table.proofs.laws_rewritten.rewritten_keeps.Goals as goal

pub returns : goal.returns
returns c = record { keeps = rewritten_keeps; test = sections_fill_none }
