use Rattle.vx_annexb.proofs.Written.{written_is_annex_b}
use Rattle.vx_annexb.proofs.laws.written_is_annex_b.Goals as goal

pub returns : goal.returns
returns c = written_is_annex_b
