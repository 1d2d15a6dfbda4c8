use Rattle.vx_table.proofs.Again.{tables_show, sections_show}
use Rattle.vx_table.proofs.laws_again.tables_show.Goals as goal

pub returns : goal.returns
returns c = record { table = tables_show; sections = sections_show }
