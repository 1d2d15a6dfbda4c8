use Rattle.std.proofs.Common.{ap, sym, ◌∙◌, arith}
use Rattle.vx_pic.specs.Inputs as inputs
use Rattle.vx_frame.proofs.Differing.{tells_sps_read}
use Rattle.vx_frame.proofs.Reading.{picture_read}
use Rattle.vx_frame.proofs.sets.sps_field_at.Goals as goal

pub sps_field-requires : goal.sps_field-requires
sps_field-requires c =
    c.requires.kept ∙ sym (ap inputs.sps_fields (c.sps-2.ensures ∙ ap (λ q. q.sps) (picture_read c.args.round.now 0 c.index-round-0.result (omega (arith, c.requires.k)) c.index-round-0.is)))

pub returns : goal.returns
returns c =
    tells_sps_read c.args.round.now c.args.k c.index-round-k.result c.index-round-0.result c.sps.result.now c.sps-2.result.now c.in_ok-field.field
    c.requires.k (omega (arith, c.requires.k)) c.index-round-k.is c.index-round-0.is c.sps.ensures c.sps-2.ensures c.in_ok-field.ensures
