use Rattle.vx_rpl.proofs.Lengths.{entries_are_counted}
use Rattle.vx_rpl.proofs.laws.entries_are_counted.Goals as goal

pub returns : goal.returns
returns c = entries_are_counted
