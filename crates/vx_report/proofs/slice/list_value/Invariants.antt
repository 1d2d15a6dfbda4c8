use Rattle.std.proofs.Common.{◌≡◌, map, take}
use Rattle.serde_json.specs.View.{view}
use Rattle.vx_report.specs.SliceLine.{entry_data}
use Rattle.vx_report.proofs.slice.list_value.Given as goal

-- those so far
abbrev pub invariant-loop-i : goal.invariant-loop-i
invariant-loop-i l = map view l.values.items ≡ map entry_data (take l.i l.list)
