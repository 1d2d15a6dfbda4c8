use Rattle.std.proofs.Common.{◌≡◌, ap, sym, ◌∙◌, length, subst}
use Rattle.std.specs.Prelude.{All}
use Rattle.vx_sps.specs.declared.shape.SubpicPlan.TheVariants.{Many}
use Rattle.vx_fit.specs.Placing.{IsInRange, frame_height, frame_width}
use Rattle.vx_frame.specs.Regions.{corners_in, placed_in}
use Rattle.vx_frame.specs.Shapes.{frame_dpb, frame_level, frame_window}
use Rattle.vx_frame.proofs.FrameShaping.{placed_count}
use Rattle.vx_frame.proofs.frame_sets.sps_shape.Goals as goal

pub window-requires-clause-same : goal.window-requires-clause-same
window-requires-clause-same c =
    let is = c.requires.1 in
    ap length (c.as_slice-placed.ensures.value ∙ is.placed) ∙ placed_count c.requires.0 c.args.round.now is.same

pub window-requires-clause-range : goal.window-requires-clause-range
window-requires-clause-range c = subst (All IsInRange) (sym c.as_slice-placed.ensures.value) c.requires.1.range

pub window-requires-clause-wide : goal.window-requires-clause-wide
window-requires-clause-wide c = let is = c.requires.1 in is.width ∙ ap frame_width (sym (c.as_slice-placed.ensures.value ∙ is.placed))

pub window-requires-clause-high : goal.window-requires-clause-high
window-requires-clause-high c = let is = c.requires.1 in is.height ∙ ap frame_height (sym (c.as_slice-placed.ensures.value ∙ is.placed))

pub returns : goal.returns
returns c = λ corners is.
    let round = c.args.round.now in
    let window_is : c.window.result ≡ frame_window (placed_in corners round) round = c.window.ensures ∙ ap (λ p. frame_window p round) (c.as_slice-placed.ensures.value ∙ is.placed) in
    let level_is : c.level_of.result ≡ frame_level round c.args.level = c.level_of.ensures in
    let dpb_is : c.dpb.result ≡ frame_dpb round = c.dpb.ensures in
    let regions_is : c.in_ok-regions.regions ≡ corners_in corners round = c.in_ok-regions.ensures ∙ ap (λ n. n.subpics) is.is.pictures in
    λ j. record {
      id = 0;
      width = is.width j;
      height = is.height j;
      window = window_is j;
      level = level_is j;
      dpb = dpb_is j;
      subpics = Many (regions_is j);
    }
