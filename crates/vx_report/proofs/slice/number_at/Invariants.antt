use Rattle.std.proofs.Common.{◌≡◌, ◌-◌, ◌≤◌, drop, get_or}
use Rattle.vx_table.specs.Loaded.{numbers_of}
use Rattle.vx_report.proofs.slice.number_at.Given as goal

-- the number is one from here on
abbrev pub invariant-loop-i : goal.invariant-loop-i
invariant-loop-i l =
    (l.before ≤ l.index) × (get_or (numbers_of l.kept l.field) l.index 0 ≡ get_or (numbers_of (drop l.i l.kept) l.field) (l.index - l.before) 0)
