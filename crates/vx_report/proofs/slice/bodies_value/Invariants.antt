use Rattle.std.proofs.Common.{◌≡◌, map, take}
use Rattle.serde_json.specs.View.{view}
use Rattle.vx_report.specs.SliceLine.{bytes_data}
use Rattle.vx_report.proofs.slice.bodies_value.Given as goal

-- those so far
abbrev pub invariant-loop-i : goal.invariant-loop-i
invariant-loop-i l = map view l.values.items ≡ map (λ body. bytes_data body.now) (take l.i l.bodies)
