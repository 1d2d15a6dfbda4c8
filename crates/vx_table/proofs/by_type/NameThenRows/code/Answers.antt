use Rattle.vx_table.proofs.ByType.{name_then}
use Rattle.vx_table.proofs.by_type.NameThenRows.code.Goals as goal

pub returns : goal.returns
returns g c = name_then _ _ _ _ (rw (c.set.ensures, c.number_inlined-number.ensures, c.get.ensures) at c.code.ensures)
