use Rattle.std.proofs.Common.{◌≡◌, ap, sym, ◌∙◌, subst}
use Rattle.std.proofs.lemmas.Result.{IfOk-weaker}
use Rattle.vx_sps.specs.Set.{ctb_size_of}
use Rattle.vx_sps.specs.Reshaped.{IsReshapedSps, IsShape}
use Rattle.vx_frame.specs.Regions.{ctb_of}
use Rattle.vx_frame.specs.Rounds.{picture_at}
use Rattle.vx_frame.specs.Shapes.{frame_sps_shape}
use Rattle.vx_frame.specs.inner.Geometry.{OfGeometry}
use Rattle.vx_frame.proofs.Reading.{picture_read}
use Rattle.vx_frame.proofs.frame_sets.frame_sps.Goals as goal

pub bounds-round-0 : goal.bounds-round-0
bounds-round-0 c = c.requires.1.some

pub reshape_sps-requires : goal.reshape_sps-requires
reshape_sps-requires c =
    let corners = c.requires.0 in
    let round = c.args.round.now in
    let is = c.requires.1 in
    let sps_is : c.sps.result.now ≡ (picture_at round 0).sps = c.sps.ensures ∙ ap (λ q. q.sps) (picture_read round 0 c.index-round-0.result is.some c.index-round-0.is) in
    let shape_is : c.in_ok-shape.shape ≡ frame_sps_shape corners round c.args.level = c.in_ok-shape.ensures corners is in
    subst (λ s. IsShape (ctb_size_of s) c.in_ok-shape.shape) (sym sps_is) (subst (IsShape (ctb_of round)) (sym shape_is) (is.shapes.sps c.args.level))

pub returns : goal.returns
returns c =
    let round = c.args.round.now in
    IfOk-weaker c.reshape_sps.result (IsReshapedSps c.sps.result.now c.in_ok-shape.shape)
    (λ sps. OfGeometry round c.args.frame.now (λ corners. IsReshapedSps (picture_at round 0).sps (frame_sps_shape corners round c.args.level) sps))
    (λ sps made corners is.
    let sps_is : c.sps.result.now ≡ (picture_at round 0).sps = c.sps.ensures ∙ ap (λ q. q.sps) (picture_read round 0 c.index-round-0.result is.some c.index-round-0.is) in
    let shape_is : c.in_ok-shape.shape ≡ frame_sps_shape corners round c.args.level = c.in_ok-shape.ensures corners is in
    subst (λ s. IsReshapedSps s (frame_sps_shape corners round c.args.level) sps) sps_is (subst (λ s. IsReshapedSps c.sps.result.now s sps) shape_is made))
    c.reshape_sps.ensures
