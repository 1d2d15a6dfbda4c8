use Rattle.vx_frame.specs.Rules.{rules_of}
use Rattle.vx_frame.proofs.Verdicts.{verdict_one}
use Rattle.vx_frame.proofs.laws.verdict_is_one.Goals as goal

pub returns : goal.returns
returns c = λ corners round n a b first second. verdict_one n (rules_of corners round) a b first second
