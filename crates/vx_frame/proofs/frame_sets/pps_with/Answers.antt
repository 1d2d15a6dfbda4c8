use Rattle.std.proofs.Common.{◌≡◌, ap, sym, ◌∙◌, subst}
use Rattle.std.proofs.lemmas.Result.{IfOk-weaker}
use Rattle.vx_pps.specs.Reshaped.{IsReshapedPps, IsShape}
use Rattle.vx_frame.specs.Rounds.{picture_at}
use Rattle.vx_frame.specs.Shapes.{frame_pps_shape}
use Rattle.vx_frame.specs.inner.Geometry.{OfGeometry}
use Rattle.vx_frame.proofs.Reading.{picture_read}
use Rattle.vx_frame.proofs.frame_sets.pps_with.Goals as goal

pub bounds-round-0 : goal.bounds-round-0
bounds-round-0 c = c.requires.frame.1.some

pub reshape_pps-requires : goal.reshape_pps-requires
reshape_pps-requires c =
    let corners = c.requires.frame.0 in
    let round = c.args.round.now in
    let is = c.requires.frame.1 in
    let pps_is : c.pps.result.now ≡ (picture_at round 0).pps = c.pps.ensures ∙ ap (λ q. q.pps) (picture_read round 0 c.index-round-0.result is.some c.index-round-0.is) in
    let shape_is : c.pps_shape-shape.result ≡ frame_pps_shape corners round c.args.frame.now.numbers c.args.id = c.pps_shape-shape.ensures corners is in
    subst (λ s. IsShape s c.pps_shape-shape.result) (sym pps_is) (subst (IsShape (picture_at round 0).pps) (sym shape_is) (is.shapes.pps c.args.id c.requires.id))

pub returns : goal.returns
returns c =
    let round = c.args.round.now in
    let frame = c.args.frame.now in
    IfOk-weaker c.reshape_pps.result (IsReshapedPps c.pps.result.now c.pps_shape-shape.result)
    (λ pps. OfGeometry round frame (λ corners. IsReshapedPps (picture_at round 0).pps (frame_pps_shape corners round frame.numbers c.args.id) pps))
    (λ pps made corners is.
    let pps_is : c.pps.result.now ≡ (picture_at round 0).pps = c.pps.ensures ∙ ap (λ q. q.pps) (picture_read round 0 c.index-round-0.result is.some c.index-round-0.is) in
    let shape_is : c.pps_shape-shape.result ≡ frame_pps_shape corners round frame.numbers c.args.id = c.pps_shape-shape.ensures corners is in
    subst (λ s. IsReshapedPps s (frame_pps_shape corners round frame.numbers c.args.id) pps) pps_is (subst (λ s. IsReshapedPps c.pps.result.now s pps) shape_is made))
    c.reshape_pps.ensures
