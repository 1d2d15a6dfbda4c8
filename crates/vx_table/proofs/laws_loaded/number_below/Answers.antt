use Rattle.vx_table.proofs.Loading.{items_below, number_below, tables_stay_below, sections_stay_below}
use Rattle.vx_table.proofs.laws_loaded.number_below.Goals as goal

pub returns : goal.returns
returns c = record { items = items_below; form = number_below; table = tables_stay_below; sections = sections_stay_below }
