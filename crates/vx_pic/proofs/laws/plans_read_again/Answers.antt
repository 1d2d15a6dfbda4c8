use Rattle.vx_pic.proofs.Again.{plan_reads_again}
use Rattle.vx_pic.proofs.laws.plans_read_again.Goals as goal

pub returns : goal.returns
returns c = plan_reads_again
