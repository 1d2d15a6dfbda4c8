use Rattle.vx_rpl.specs.Lists.{chosen_form}
use Rattle.vx_rpl.proofs.walk.code_chosen.Goals as goal

pub returns : goal.returns
unfolding chosen_form
returns g c = rw c.pick.ensures at c.code_structure.ensures
