use Rattle.vx_verify.proofs.OneMismatch.{mismatch_one}
use Rattle.vx_verify.proofs.laws.mismatch_is_one.Goals as goal

pub returns : goal.returns
returns c = mismatch_one
