use Rattle.vx_annexb.proofs.AnnexB.{stream_is_annex_b}
use Rattle.vx_annexb.proofs.laws.stream_is_annex_b.Goals as goal

pub returns : goal.returns
returns c = stream_is_annex_b
