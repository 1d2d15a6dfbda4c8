use Rattle.std.proofs.Common.{◌≡◌, ◌≤◌, ◌++◌, length}
use Rattle.vx_report.proofs.InputsText.{first_inputs}
use Rattle.vx_report.proofs.inputs.input_lines.Given as goal

-- those so far
abbrev pub invariant-loop-i : goal.invariant-loop-i
invariant-loop-i l = (l.i ≤ length l.picture.slices) × (l.lines.items ≡ l.fn.lines.items ++ first_inputs l.before l.picture l.i)
