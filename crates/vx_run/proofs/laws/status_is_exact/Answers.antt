use Rattle.vx_merge.proofs.OnePlan.{merged_one}
use Rattle.vx_verify.proofs.OneMismatch.{mismatch_one}
use Rattle.vx_verify.proofs.Verdicts.{verified_has_none}
use Rattle.vx_run.proofs.Ending.{status_exact}
use Rattle.vx_run.proofs.Once.{ends_once}
use Rattle.vx_run.proofs.PlayOnce.{play_once}
use Rattle.vx_run.proofs.VerifyOnce.{verify_once}
use Rattle.vx_run.proofs.laws.status_is_exact.Goals as goal

pub returns : goal.returns
returns g c = status_exact (ends_once merged_one) (play_once merged_one) (verify_once verified_has_none mismatch_one)
