use Rattle.std.proofs.Common.{◌≤◌, take, vec_len}
use Rattle.vx_run.specs.Rounds.{most_sources}
use Rattle.vx_run.specs.inner.Playing.{HasFound}
use Rattle.vx_run.proofs.play.regions_of.Given as goal

-- the regions of the corners so far
abbrev pub invariant-loop-corner : goal.invariant-loop-corner
invariant-loop-corner l = HasFound (take l.corner-index l.corner-items) l.corners.items l.files.items × (vec_len l.corners ≤ most_sources)
