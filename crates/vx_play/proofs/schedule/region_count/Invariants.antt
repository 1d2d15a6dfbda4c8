use Rattle.std.proofs.Common.{◌≡◌, max, drop}
use Rattle.vx_play.specs.Scheduled.{regions_counted}
use Rattle.vx_play.proofs.schedule.region_count.Given as goal

abbrev pub invariant-loop-region : goal.invariant-loop-region
invariant-loop-region l = max l.count (regions_counted (drop l.region-index l.regions)) ≡ regions_counted l.regions
