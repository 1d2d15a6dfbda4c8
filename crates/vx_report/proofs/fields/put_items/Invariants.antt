use Rattle.std.proofs.Common.{◌≡◌, ◌<◌, ◌++◌, take}
use Rattle.vx_report.specs.FieldsLine.{items_json}
use Rattle.vx_report.proofs.fields.put_items.Given as goal

-- those so far
abbrev pub invariant-loop-i : goal.invariant-loop-i
invariant-loop-i l = (0 < l.i) × (l.lines.items ≡ l.fn.lines.items ++ items_json (take l.i l.items))
