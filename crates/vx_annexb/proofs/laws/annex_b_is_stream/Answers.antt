use Rattle.vx_annexb.proofs.AnnexB.{annex_b_is_stream}
use Rattle.vx_annexb.proofs.laws.annex_b_is_stream.Goals as goal

pub returns : goal.returns
returns c = annex_b_is_stream
