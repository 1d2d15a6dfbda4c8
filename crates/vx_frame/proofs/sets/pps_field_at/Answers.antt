use Rattle.std.proofs.Common.{ap, sym, ◌∙◌, arith}
use Rattle.vx_pic.specs.Differences.{differing_field}
use Rattle.vx_pic.specs.Inputs as inputs
use Rattle.vx_frame.specs.Rounds.{picture_at}
use Rattle.vx_frame.proofs.Differing.{tells_pps}
use Rattle.vx_frame.proofs.Reading.{picture_read}
use Rattle.vx_frame.proofs.sets.pps_field_at.Goals as goal

pub pps_field-requires : goal.pps_field-requires
pps_field-requires c =
    c.requires.kept ∙ sym (ap inputs.pps_fields (c.pps-2.ensures ∙ ap (λ q. q.pps) (picture_read c.args.round.now 0 c.index-round-0.result (omega (arith, c.requires.k)) c.index-round-0.is)))

pub returns : goal.returns
returns c =
    tells_pps c.args.round.now c.args.k c.in_ok-field.field
    (c.in_ok-field.ensures
    ∙ (ap (λ s. differing_field (inputs.pps_fields s) c.args.kept.now) c.pps.ensures
    ∙ (ap (λ q. differing_field (inputs.pps_fields q.pps) c.args.kept.now) (picture_read c.args.round.now c.args.k c.index-round-k.result c.requires.k c.index-round-k.is)
    ∙ ap (λ items. differing_field (inputs.pps_fields (picture_at c.args.round.now c.args.k).pps) items) c.requires.kept)))
