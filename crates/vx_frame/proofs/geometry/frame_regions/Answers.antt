use Rattle.std.proofs.Common.{◌≡◌, ℕ, List, ◌∷◌, [], ap, sym, ◌∙◌, subst, length, None, Err, refl, arith}
use Rattle.std.proofs.lemmas.Result.{err_from_is_err_and}
use Rattle.std.specs.List.{AllZip}
use Rattle.std.specs.Prelude.{All}
use Rattle.vx_fit.specs.FrameLines.{HaveLines}
use Rattle.vx_fit.specs.Placing.{IsInRange}
use Rattle.vx_fit.specs.Sources.{IsSized}
use Rattle.vx_frame.specs.Regions.{corners_in, ctb_of, layouts_in, placed_in}
use Rattle.vx_frame.specs.Rules.{rules_of_fit, tile_lines}
use Rattle.vx_frame.specs.inner.Geometry.{AreRegionsOf, IsFitSize}
use Rattle.vx_frame.proofs.Framing.{all_fit, fit_made, fit_of_frame, lines_made, lines_of_frame, regions_count, regions_of_frame}
use Rattle.vx_frame.proofs.Sized.{all_sized, placed_length}
use Rattle.vx_frame.proofs.Verdicts.{passed_all, tries_behind, tries_front}
use Rattle.vx_frame.proofs.geometry.frame_regions.Goals as goal

pub placed-requires-clause-corners : goal.placed-requires-clause-corners
placed-requires-clause-corners c = c.requires.corners.each

pub ctb_of-ctb-requires : goal.ctb_of-ctb-requires
ctb_of-ctb-requires c = let some = c.requires.corners.some in omega (arith, some, c.requires.same)

pub frame_size-requires-clause-count : goal.frame_size-requires-clause-count
frame_size-requires-clause-count c =
    let size : length c.as_slice-areas.result.now ≡ length c.args.round.now = ap length (c.as_slice-areas.ensures.value ∙ c.in_ok-placed.ensures.placed) ∙ placed_length c.args.corners.now c.args.round.now c.requires.same in
    (omega (arith, size, c.requires.same, c.requires.corners.some), omega (arith, size, c.requires.same, c.requires.corners.few))

pub frame_size-requires-clause-numbers : goal.frame_size-requires-clause-numbers
frame_size-requires-clause-numbers c = subst (All IsInRange) (sym c.as_slice-areas.ensures.value) c.in_ok-placed.ensures.range

pub returns-in_err-width : goal.returns-in_err-width
returns-in_err-width c =
    let corners = c.args.corners.now in
    let round = c.args.round.now in
    let p = err_from_is_err_and c.from_residual-in_err-width.result c.from_residual-in_err-width.ensures.1 in
    rw (p.1, p.2)
    (tries_front (length round) (rules_of_fit (placed_in corners round) (ctb_of round)) (tile_lines (corners_in corners round) (layouts_in round) ∷ [])
    (IsFitSize (placed_in corners round) (ctb_of round)) (AreRegionsOf corners round) _
    (fit_of_frame corners round c.as_slice-areas.result.now c.ctb_of-ctb.result (Err _) c.requires.same (c.as_slice-areas.ensures.value ∙ c.in_ok-placed.ensures.placed) c.ctb_of-ctb.ensures.value c.in_err-width.ensures))

pub frame_lines-requires-clause-count : goal.frame_lines-requires-clause-count
frame_lines-requires-clause-count c =
    let regions_is = regions_of_frame c.args.corners.now c.args.round.now _ _ _ (c.as_slice-areas.ensures.value ∙ c.in_ok-placed.ensures.placed) c.ctb_of-ctb.ensures.value (c.as_slice.ensures.value ∙ c.in_ok-regions.ensures) in
    let size : length c.as_slice.result.now ≡ length c.args.round.now = regions_count c.args.corners.now c.args.round.now c.as_slice.result.now c.requires.same regions_is in
    (omega (arith, size, c.requires.same, c.requires.corners.some), omega (arith, size, c.requires.same, c.requires.corners.few))

pub frame_lines-requires-clause-sized : goal.frame_lines-requires-clause-sized
frame_lines-requires-clause-sized c =
    let corners = c.args.corners.now in
    let round = c.args.round.now in
    let regions_is = regions_of_frame corners round _ _ _ (c.as_slice-areas.ensures.value ∙ c.in_ok-placed.ensures.placed) c.ctb_of-ctb.ensures.value (c.as_slice.ensures.value ∙ c.in_ok-regions.ensures) in
    let sized = all_sized c.sets_tell_partitions.ensures corners round (ctb_of round) c.requires.same (all_fit round (ctb_of round) c.requires.sets c.requires.alone c.requires.alike refl) in
    subst (λ l. AllZip IsSized c.as_slice.result.now l) (sym c.requires.layouts) (subst (λ r. AllZip IsSized r (layouts_in round)) (sym regions_is) sized)

pub frame_lines-requires-clause-fitted : goal.frame_lines-requires-clause-fitted
frame_lines-requires-clause-fitted c = record {
  placed = c.as_slice-areas.result.now;
  ctb = c.ctb_of-ctb.result;
  some = omega (arith, c.ctb_of-ctb.ensures.some);
  fit = c.in_ok-width.ensures.1.fit;
  ctus = c.as_slice.ensures.value ∙ c.in_ok-regions.ensures;
}

pub returns-in_err-columns : goal.returns-in_err-columns
returns-in_err-columns c =
    let corners = c.args.corners.now in
    let round = c.args.round.now in
    let placed_is = c.as_slice-areas.ensures.value ∙ c.in_ok-placed.ensures.placed in
    let regions_is = regions_of_frame corners round _ _ _ placed_is c.ctb_of-ctb.ensures.value (c.as_slice.ensures.value ∙ c.in_ok-regions.ensures) in
    let fit = fit_made corners round c.as_slice-areas.result.now c.ctb_of-ctb.result _ c.requires.same placed_is c.ctb_of-ctb.ensures.value c.in_ok-width.ensures in
    let lines = lines_of_frame corners round c.as_slice.result.now c.args.layouts.now (Err _) c.requires.same regions_is c.requires.layouts c.in_err-columns.ensures in
    let p = err_from_is_err_and c.from_residual-in_err-columns.result c.from_residual-in_err-columns.ensures.1 in
    rw (p.1, p.2)
    (tries_behind (length round) (rules_of_fit (placed_in corners round) (ctb_of round)) (tile_lines (corners_in corners round) (layouts_in round) ∷ [])
    (λ (lines : List ℕ × List ℕ). HaveLines lines.0 lines.1 (corners_in corners round) (layouts_in round)) (AreRegionsOf corners round) _ fit.0 lines)

pub returns : goal.returns
returns c =
    let corners = c.args.corners.now in
    let round = c.args.round.now in
    let placed_is = c.as_slice-areas.ensures.value ∙ c.in_ok-placed.ensures.placed in
    let regions_is = regions_of_frame corners round _ _ _ placed_is c.ctb_of-ctb.ensures.value (c.as_slice.ensures.value ∙ c.in_ok-regions.ensures) in
    let fit = fit_made corners round c.as_slice-areas.result.now c.ctb_of-ctb.result _ c.requires.same placed_is c.ctb_of-ctb.ensures.value c.in_ok-width.ensures in
    let lines = lines_made corners round c.as_slice.result.now c.args.layouts.now _ _ c.requires.same regions_is c.requires.layouts c.in_ok-columns.ensures in (
      passed_all (length round) (rules_of_fit (placed_in corners round) (ctb_of round)) (tile_lines (corners_in corners round) (layouts_in round) ∷ []) None fit.0 lines.0,
      record {
        placed = c.in_ok-placed.ensures.placed;
        range = c.in_ok-placed.ensures.range;
        regions = sym c.as_slice.ensures.value ∙ regions_is;
        width = fit.1.width;
        height = fit.1.height;
        fit = fit.1.fit;
        lines = lines.1;
      },
    )
