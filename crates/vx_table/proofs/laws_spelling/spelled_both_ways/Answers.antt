use Rattle.vx_table.proofs.Spelled.{both_ways, reached_both_ways}
use Rattle.vx_table.proofs.laws_spelling.spelled_both_ways.Goals as goal

pub returns : goal.returns
returns c = record { values = both_ways; fronts = reached_both_ways }
