use Rattle.std.proofs.Common.{◌<◌, ◌≤◌, ◌∙◌, List, [], get_or, length, sym, ap, subst, arith}
use Rattle.vx_frame.specs.declared.corner.Corner.{Corner}
use Rattle.vx_run.specs.Play.{with_corners}
use Rattle.vx_run.specs.Rounds.{most_sources}
use Rattle.vx_run.specs.inner.Playing.{HasFound}
use Rattle.vx_run.proofs.PlayRegions.{found_all, found_next, found_none, no_corner, no_more_found, too_many_at}
use Rattle.vx_run.proofs.play.regions_of.Goals as goal

pub loop-corner-init : goal.loop-corner-init
loop-corner-init c = (rw (c.new-corners.ensures.items, c.new-files.ensures.items) found_none, omega (arith, c.new-corners.ensures.len))

-- there are more than may be
pub returns-then-region-eq-MOST_SOURCES : goal.returns-then-region-eq-MOST_SOURCES
returns-then-region-eq-MOST_SOURCES c =
    let few : length c.loop-corner.corners.items ≤ most_sources = omega (arith, c.loop-corner.invariant.1) in
    let more = too_many_at c.deref-corner-items.result.now c.loop-corner.corner-index c.loop-corner.corners.items c.loop-corner.files.items most_sources c.loop-corner-test.true c.loop-corner.invariant.0
    (sym c.if-region-eq-MOST_SOURCES.true ∙ c.in_ok-region.ensures.region) few in
    subst (λ (l : List Corner). most_sources < length (with_corners [] l)) (c.deref-corner-items.ensures.value ∙ c.in_ok-all.ensures) more

pub loop-corner-preserved : goal.loop-corner-preserved
loop-corner-preserved c =
    let found = c.loop-corner.corners.items in
    let few : length found ≤ most_sources = omega (arith, c.loop-corner.invariant.1) in
    let corner = get_or c.deref-corner-items.result.now c.loop-corner.corner-index no_corner in (
      found_next c.deref-corner-items.result.now c.loop-corner.corner-index found c.placed.new.corners.items c.loop-corner.files.items c.push.new.self.items c.in_ok-region.region c.loop-corner-test.true c.loop-corner.invariant.0
          c.in_ok-region.ensures.region c.in_ok-region.ensures.corners c.in_ok-push.ensures.items,
      omega (arith, no_more_found found corner most_sources few (λ is. c.if-region-eq-MOST_SOURCES.false (c.in_ok-region.ensures.region ∙ is)), ap (λ (l : List Corner). length l) c.in_ok-region.ensures.corners),
    )

-- all were found
pub returns : goal.returns
returns c =
    let all = c.deref-corner-items.result.now in
    let found = found_all all c.loop-corner.corner-index c.loop-corner.corners.items c.loop-corner.files.items c.loop-corner-test.false c.loop-corner.invariant.0 in
    (subst (λ (l : List Corner). HasFound l c.loop-corner.corners.items c.loop-corner.files.items) (c.deref-corner-items.ensures.value ∙ c.in_ok-all.ensures) found, c.loop-corner.invariant.1)

pub overflow_cast-region : goal.overflow_cast-region
overflow_cast-region c = omega (arith, c.in_ok-region.ensures.within, c.loop-corner.invariant.1)
