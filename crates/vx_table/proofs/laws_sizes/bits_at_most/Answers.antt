use Rattle.vx_table.proofs.Sizes.{tables_are_short, sections_are_short}
use Rattle.vx_table.proofs.laws_sizes.bits_at_most.Goals as goal

pub returns : goal.returns
returns c = record { table = tables_are_short; sections = sections_are_short }
