use Rattle.vx_table.proofs.Loading.{tables_load, sections_load, loads_together}
use Rattle.vx_table.proofs.laws_loaded.items_load.Goals as goal

pub returns : goal.returns
returns c = record { table = tables_load; sections = sections_load; together = loads_together }
