use Rattle.vx_table.proofs.Joined.{follows_together, items_together, bits_together, spells_together}
use Rattle.vx_table.proofs.laws_spelling.one_behind_another.Goals as goal

pub returns : goal.returns
returns c = record { values = follows_together; items = items_together; bits = bits_together; spellings = spells_together }
