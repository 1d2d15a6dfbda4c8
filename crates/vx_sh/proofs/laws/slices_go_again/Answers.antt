use Rattle.vx_sh.proofs.Rewritten.{slices_read_again, slices_rewrite}
use Rattle.vx_sh.proofs.laws.slices_go_again.Goals as goal

pub returns : goal.returns
returns c = record { read = slices_read_again; rewritten = slices_rewrite }
