use Rattle.vx_verify.proofs.Verdicts.{verified_has_none}
use Rattle.vx_verify.proofs.OneMismatch.{mismatch_one}
use Rattle.vx_run.proofs.VerifyOnce.{verify_once}
use Rattle.vx_run.proofs.laws.verify_ends_once.Goals as goal

pub returns : goal.returns
returns c = verify_once verified_has_none mismatch_one
