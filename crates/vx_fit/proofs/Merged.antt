-- The frame that regions make up is a layout, and its regions are the sources.
use Rattle.std.proofs.Common.{◌≡◌, ℕ, ◌-◌, ◌<◌, List, length, map, subst, arith}
use Rattle.std.specs.List.{All, AllZip}
use Rattle.std.proofs.lemmas.List.{get_or_default}
use Rattle.vx_layout.specs.declared.numbers.Numbers.{Numbers}
use Rattle.vx_layout.specs.declared.rect.Rect.{Rect}
use Rattle.vx_layout.specs.Bounds.{last}
use Rattle.vx_layout.specs.Faults.{SubpicsCover}
use Rattle.vx_layout.specs.laws.Frames.{TilesHoldRuns}
use Rattle.vx_layout.specs.Frames.{IsPlaced, frame_of}
use Rattle.vx_layout.specs.Shapes.{AreListable}
use Rattle.vx_layout.proofs.Corners.{first-begins, last-ends}
use Rattle.vx_layout.proofs.FrameRuns.{frame-listable}
use Rattle.vx_layout.proofs.FrameSlices.{AllZip-long}
use Rattle.vx_layout.proofs.FrameWhole.{frame-alone, frame-layout, frame-region}
use Rattle.vx_layout.proofs.TileRuns.{runs-fill}
use Rattle.vx_fit.specs.declared.placed.Placed.{Placed}
use Rattle.vx_fit.specs.laws.Fitting.{IsMergedLayout}
use Rattle.vx_fit.specs.FrameLines.{HaveLines, no_numbers}
use Rattle.vx_fit.specs.Placing.{FitTogether, in_ctus}
use Rattle.vx_fit.specs.Sources.{IsSource}
use Rattle.vx_fit.proofs.Covering.{IsFrame, frame_high, frame_wide, long, regions_are_parts, regions_cover_once, regions_in_order}
use Rattle.vx_fit.proofs.Keeping.{borders_split, pictures_are_placed, regions_in_runs, sized_sources, source_at}

all_listable : (corners : List Rect) (parts : List Numbers) → AllZip IsSource corners parts → All (λ p. AreListable p.columns p.rows p.slices) parts
all_listable corners parts sources = λ k d short.
    subst (λ p. AreListable p.columns p.rows p.slices) (get_or_default parts k no_numbers d short)
    (source_at corners parts k sources (omega (arith, AllZip-long IsSource corners parts sources))).listable

pub frame-merged : (placed : List Placed) (ctb : ℕ) (columns rows : List ℕ) (corners : List Rect) (parts : List Numbers) → 0 < length placed → 0 < ctb → FitTogether placed ctb → corners ≡ map (in_ctus ctb) placed → AllZip IsSource corners parts → HaveLines columns rows corners parts →
    IsMergedLayout placed ctb columns rows corners parts
frame-merged placed ctb columns rows corners parts some_placed some fit ctus sources lines =
    let frame : IsFrame placed ctb corners parts columns rows = record { some = some; fit = fit; ctus = ctus; sized = sized_sources corners parts sources; vertical = lines.vertical; horizontal = lines.horizontal } in
    let here : 0 < length corners = omega (arith, long placed ctb corners parts columns rows frame) in
    let covered = regions_are_parts placed ctb corners parts columns rows frame in
    let once = regions_cover_once placed ctb corners parts columns rows frame in
    let cover : SubpicsCover (frame_of columns rows corners parts) = record { parts = covered; once = once } in
    let order = regions_in_order placed ctb corners parts columns rows frame in
    let stand : AllZip (IsPlaced columns rows) corners parts = pictures_are_placed columns rows corners parts sources lines in
    let runs : TilesHoldRuns columns rows corners = runs-fill columns rows corners covered once order (borders_split columns rows corners parts sources lines) (regions_in_runs columns rows corners parts sources lines) in
    record {
      layout = frame-layout columns rows corners parts cover order stand;
      alone = frame-alone columns rows corners parts lines.vertical.rises lines.horizontal.rises here cover order stand;
      listable = frame-listable columns rows corners parts lines.horizontal.rises cover stand runs (all_listable corners parts sources);
      regions = λ k d short. frame-region columns rows corners parts k d lines.vertical.rises lines.horizontal.rises cover stand short;
      wide = frame_wide placed ctb corners parts columns rows frame;
      high = frame_high placed ctb corners parts columns rows frame;
      begins = λ d. first-begins corners (last columns) (last rows) d once order here (covered 0 d here);
      ends = λ d. last-ends corners (last columns) (last rows) d once order here (covered (length corners - 1) d (omega arith));
    }
