use Rattle.std.proofs.Common.{◌≡◌, ap, sym, ◌∙◌, subst}
use Rattle.std.proofs.lemmas.Result.{IfOk-weaker}
use Rattle.vx_ph.specs.Reshaped.{GoesUnder, IsReshapedPictureHeader, IsShape}
use Rattle.vx_frame.specs.Rounds.{picture_at}
use Rattle.vx_frame.proofs.Reading.{picture_read}
use Rattle.vx_merge.specs.Headers.{ph_shape}
use Rattle.vx_merge.specs.inner.Ready.{ids_in}
use Rattle.vx_merge.proofs.KeptSame.{some_picture}
use Rattle.vx_merge.proofs.OneHeader.{goes_under, is_shape}
use Rattle.vx_merge.proofs.picture_header.picture_header.Goals as goal

pub bounds-round-0 : goal.bounds-round-0
bounds-round-0 c = let r = c.requires.ready in some_picture r.0 c.args.round.now r.1.0 r.1.1.0 c.args.needed.now r.1.1.1

pub shape_of-shape-requires : goal.shape_of-shape-requires
shape_of-shape-requires c = c.requires.ready.1.1.1.needed.scales

pub reshape_ph-requires-clause-shape : goal.reshape_ph-requires-clause-shape
reshape_ph-requires-clause-shape c =
    let r = c.requires.ready in
    subst IsShape (sym c.shape_of-shape.ensures) (is_shape r.0 c.args.round.now r.1.0 r.1.1.0 c.args.needed.now r.1.1.1)

pub reshape_ph-requires-clause-source : goal.reshape_ph-requires-clause-source
reshape_ph-requires-clause-source c =
    let r = c.requires.ready in
    let round = c.args.round.now in
    let needed = c.args.needed.now in
    let q = c.index-round-0.result in
    let first : q ≡ picture_at round 0 = picture_read round 0 q (some_picture r.0 round r.1.0 r.1.1.0 needed r.1.1.1) c.index-round-0.is in
    subst (λ h. GoesUnder h needed.sps.now needed.pps.now) (sym c.header.ensures.value)
    (goes_under r.0 round r.1.0 r.1.1.0 needed r.1.1.1 q.header q first c.header.ensures.read)

pub returns-clause-says : goal.returns-clause-says
returns-clause-says c =
    let r = c.requires.ready in
    let round = c.args.round.now in
    let needed = c.args.needed.now in
    let q = c.index-round-0.result in
    let first : q ≡ picture_at round 0 = picture_read round 0 q (some_picture r.0 round r.1.0 r.1.1.0 needed r.1.1.1) c.index-round-0.is in
    let source : c.header.result.now ≡ (picture_at round 0).header = c.header.ensures.value ∙ ap (λ x. x.header) first in
    IfOk-weaker c.reshape_ph.result _ _
    (λ header says.
    let shaped = subst (λ s. IsReshapedPictureHeader c.header.result.now s needed.sps.now needed.pps.now header) c.shape_of-shape.ensures says in
    subst (λ s. IsReshapedPictureHeader s (ph_shape round (ids_in needed)) needed.sps.now needed.pps.now header) source shaped)
    c.reshape_ph.ensures.reshaped
