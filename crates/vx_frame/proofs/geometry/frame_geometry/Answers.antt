use Rattle.std.proofs.Common.{◌≡◌, ap, sym, ◌∙◌, subst, length, arith}
use Rattle.std.proofs.lemmas.Result.{err_from_is_err_and}
use Rattle.std.specs.Prelude.{All}
use Rattle.std.specs.List.{AllZip}
use Rattle.vx_layout.specs.Frames.{frame_of}
use Rattle.vx_layout.specs.Rects.{IsPart}
use Rattle.vx_frame.specs.Regions.{corners_in, layouts_in}
use Rattle.vx_frame.specs.Rules.{rules_of_sets}
use Rattle.vx_frame.specs.inner.Geometry.{HaveRegions, IsRoundGeometry, MakeFrame}
use Rattle.vx_frame.proofs.Joining.{FillsOwn, fills_of, layouts_count, made_of, parts_of}
use Rattle.vx_frame.proofs.Verdicts.{tries_other}
use Rattle.vx_frame.proofs.geometry.frame_geometry.Goals as goal

pub tried_regions-requires-clause-layouts : goal.tried_regions-requires-clause-layouts
tried_regions-requires-clause-layouts c = c.as_slice-parts.ensures.value ∙ c.in_ok-layouts.ensures.layouts

pub returns-in_err-tried : goal.returns-in_err-tried
returns-in_err-tried c =
    let round = c.args.round.now in
    let corners = c.args.corners.now in
    let p = err_from_is_err_and c.from_residual-in_err-tried.result c.from_residual-in_err-tried.ensures.1 in
    rw (p.1, p.2) (tries_other (length round) (rules_of_sets corners round) (HaveRegions corners round) (IsRoundGeometry corners round) _ c.in_err-tried.ensures)

pub numbers_of-requires-clause-same : goal.numbers_of-requires-clause-same
numbers_of-requires-clause-same c =
    let have = c.in_ok-tried.ensures.1 in
    let parts_is = c.as_slice-parts.ensures.value ∙ c.in_ok-layouts.ensures.layouts in
    ap length (c.as_slice.ensures.value ∙ have.are.regions) ∙ (layouts_count c.args.corners.now c.args.round.now have.can ∙ sym (ap length parts_is))

pub numbers_of-requires-clause-parts : goal.numbers_of-requires-clause-parts
numbers_of-requires-clause-parts c =
    let corners = c.args.corners.now in
    let round = c.args.round.now in
    let have = c.in_ok-tried.ensures.1 in
    let made = made_of corners round have.can _ _ have.are.fit have.are.lines c.in_ok-layouts.ensures.sets in
    let shapes = c.frames_have_shapes.ensures corners round _ made in
    subst (All (IsPart 512 512)) (sym (c.as_slice.ensures.value ∙ have.are.regions)) (parts_of corners round have.can _ _ shapes)

pub numbers_of-requires-clause-fill : goal.numbers_of-requires-clause-fill
numbers_of-requires-clause-fill c =
    let corners = c.args.corners.now in
    let round = c.args.round.now in
    let have = c.in_ok-tried.ensures.1 in
    let regions_is = c.as_slice.ensures.value ∙ have.are.regions in
    let parts_is = c.as_slice-parts.ensures.value ∙ c.in_ok-layouts.ensures.layouts in
    subst (λ r. AllZip FillsOwn r c.as_slice-parts.result.now) (sym regions_is)
    (subst (λ l. AllZip FillsOwn (corners_in corners round) l) (sym parts_is) (fills_of corners round have.can _ _ have.are.lines))

pub returns : goal.returns
returns c =
    let corners = c.args.corners.now in
    let round = c.args.round.now in
    let have = c.in_ok-tried.ensures.1 in
    let are = have.are in
    let can = have.can in
    let regions_is = c.as_slice.ensures.value ∙ are.regions in
    let parts_is = c.as_slice-parts.ensures.value ∙ c.in_ok-layouts.ensures.layouts in
    let columns = c.in_ok-tried.tried.columns in
    let rows = c.in_ok-tried.tried.rows in
    let numbers_is : c.in_ok-numbers.numbers ≡ frame_of columns rows (corners_in corners round) (layouts_in round) =
    c.in_ok-numbers.ensures ∙ (ap (λ r. frame_of columns rows r c.as_slice-parts.result.now) regions_is ∙ ap (frame_of columns rows (corners_in corners round)) parts_is) in
    let made = subst (MakeFrame corners round) (sym numbers_is) (made_of corners round can columns rows are.fit are.lines c.in_ok-layouts.ensures.sets) in (
      c.in_ok-tried.ensures.0,
      record {
        is = record {
          same = can.same;
          some = omega (arith, can.same, can.are.some);
          few = omega (arith, can.same, can.are.few);
          placed = are.placed;
          range = are.range;
          layouts = c.in_ok-layouts.ensures.layouts;
          width = are.width;
          height = are.height;
          is = made.is;
          shapes = c.frames_have_shapes.ensures corners round c.in_ok-numbers.numbers made;
        };
        made = made;
      },
    )
