use Rattle.vx_table.proofs.Rewrites.{values_take, takes_again, takes_together, turns_take}
use Rattle.vx_table.proofs.laws_rewritten.items_take.Goals as goal

pub returns : goal.returns
returns c = record { values = values_take; again = takes_again; together = takes_together; turns = turns_take }
