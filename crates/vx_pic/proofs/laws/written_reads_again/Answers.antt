use Rattle.vx_pic.proofs.Sent.{written_reads_again}
use Rattle.vx_pic.proofs.laws.written_reads_again.Goals as goal

pub returns : goal.returns
returns c = written_reads_again
