use Rattle.vx_table.proofs.Loading.{number_of_last, number_of_none, number_of_shown}
use Rattle.vx_table.proofs.laws_loaded.number_of_items.Goals as goal

pub returns : goal.returns
returns c = record { last = number_of_last; none = number_of_none; shown = number_of_shown }
