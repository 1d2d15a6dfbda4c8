-- Both laws are lemmas.
use Rattle.vx_gen.proofs.InOrder.{make_rounds, so_many}
use Rattle.vx_gen.proofs.laws.planned_make_rounds.Goals as goal

pub returns : goal.returns
returns c = record { count = so_many; rounds = make_rounds }
