use Rattle.std.proofs.Common.{◌≡◌, ◌<◌, ◌∙◌, map, length, arith}
use Rattle.vx_run.specs.Grammar.{texts}
use Rattle.vx_run.specs.Merge.{corners_of}
use Rattle.vx_run.specs.inner.Placings.{placing_in}
use Rattle.vx_run.proofs.Corners.{many_corners}
use Rattle.vx_run.proofs.FileRegions.{counted_more, counted_same, region_there}
use Rattle.vx_run.proofs.play.file_region.Goals.{then-first_like-i, else-first_like-i}
use Rattle.vx_run.proofs.play.file_region.Goals as goal

pub loop-i-preserved : goal.loop-i-preserved
loop-i-preserved c =
    let xs = corners_of (map placing_in (texts c.args.placings.words.now)) in
    let within : c.loop-i.i < length xs = omega (arith, c.loop-i-test.true, c.first_like-i-end.ensures.within, c.if-k-len.false, c.len.ensures, many_corners c.args.placings.words.now) in
    elim c.if-first_like-i.branch [
      | then-first_like-i w ↦ let more = counted_more xs c.loop-i.i c.first_like.result c.loop-i.region within c.first_like.ensures.first c.loop-i.invariant.0 w.if-first_like-i.true in (w.region-is ∙ more, omega (arith, w.region-is, c.loop-i.invariant.1))
      | else-first_like-i w ↦ let same = counted_same xs c.loop-i.i c.first_like.result c.loop-i.region within c.first_like.ensures.first c.loop-i.invariant.0 w.if-first_like-i.false in (w.region-is ∙ same, omega (arith, w.region-is, c.loop-i.invariant.1))
    ]

pub returns : goal.returns
returns c =
    let xs = corners_of (map placing_in (texts c.args.placings.words.now)) in
    let within : c.args.k < length xs = omega (arith, c.if-k-len.false, c.len.ensures, many_corners c.args.placings.words.now) in
    let all : c.loop-i.i ≡ c.first_like-i-end.result = omega (arith, c.loop-i-test.false, c.loop-i.auto.i-end) in
    region_there xs c.args.k c.loop-i.i c.loop-i.region within (rw all c.first_like-i-end.ensures.first) c.loop-i.invariant.0
