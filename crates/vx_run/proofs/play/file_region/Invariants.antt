use Rattle.std.proofs.Common.{◌≡◌, ◌≤◌, map}
use Rattle.vx_run.specs.Grammar.{texts}
use Rattle.vx_run.specs.Merge.{corners_of}
use Rattle.vx_run.specs.inner.Placings.{placing_in}
use Rattle.vx_run.proofs.FileRegions.{regions_before}
use Rattle.vx_run.proofs.play.file_region.Given as goal

-- the regions of the words so far
abbrev pub invariant-loop-i : goal.invariant-loop-i
invariant-loop-i l = (l.region ≡ regions_before (corners_of (map placing_in (texts l.fn.placings.words.now))) l.i) × (l.region ≤ l.i)
