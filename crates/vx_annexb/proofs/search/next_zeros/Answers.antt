use Rattle.vx_annexb.proofs.Zeros.{no_zeros, first_zeros}
use Rattle.vx_annexb.proofs.search.next_zeros.Goals as goal

pub returns-in_err-skip : goal.returns-in_err-skip
returns-in_err-skip c = rw c.from_residual.ensures (no_zeros c.args.bytes.now c.args.from c.requires c.in_err-skip.ensures)

pub returns : goal.returns
returns c = first_zeros c.args.bytes.now c.args.from c.requires c.in_ok-skip.skip c.in_ok-skip.ensures
