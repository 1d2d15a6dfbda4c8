use Rattle.std.proofs.Common.{ap, ◌∙◌, arith}
use Rattle.vx_sps.specs.Set.{ctb_size_of}
use Rattle.vx_pic.proofs.PictureSizes.{large}
use Rattle.vx_frame.proofs.Reading.{picture_read}
use Rattle.vx_frame.proofs.geometry.ctb_of.Goals as goal

pub returns-clause-value : goal.returns-clause-value
returns-clause-value c =
    c.ctb.ensures ∙ (ap ctb_size_of c.sps.ensures ∙ ap (λ q. ctb_size_of q.sps) (picture_read c.args.round.now 0 c.index-round-0.result c.requires c.index-round-0.is))

pub returns-clause-some : goal.returns-clause-some
returns-clause-some c = omega (arith, c.ctb.ensures, large c.sps.result.now)
