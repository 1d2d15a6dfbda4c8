use Rattle.vx_rpl.specs.Lists.{choice_form}
use Rattle.vx_rpl.proofs.walk.code_choice.Goals as goal

pub returns : goal.returns
unfolding choice_form
returns g c = rw c.begin.ensures at c.code.ensures
