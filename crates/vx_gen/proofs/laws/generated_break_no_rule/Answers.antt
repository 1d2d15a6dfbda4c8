-- The law is a lemma.
use Rattle.vx_gen.proofs.Unbroken.{break_none}
use Rattle.vx_gen.proofs.laws.generated_break_no_rule.Goals as goal

pub returns : goal.returns
returns c = break_none
