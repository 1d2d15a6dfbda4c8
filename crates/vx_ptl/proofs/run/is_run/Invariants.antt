use Rattle.std.proofs.Common.{◌↔◌, ◌-◌, take, drop}
use Rattle.std.specs.Prelude.{All}
use Rattle.vx_ptl.specs.Run.{IsRunItem}
use Rattle.vx_ptl.proofs.run.is_run.Given as goal

abbrev pub invariant-loop-i : goal.invariant-loop-i
invariant-loop-i l = All IsRunItem (take (l.to - l.i) (drop l.i l.items)) ↔ All IsRunItem (take (l.fn.to - l.fn.from) (drop l.fn.from l.fn.items))
