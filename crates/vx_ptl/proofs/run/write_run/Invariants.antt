use Rattle.std.proofs.Common.{◌-◌, length, take, drop}
use Rattle.std.specs.Prelude.{All}
use Rattle.vx_ptl.specs.Run.{run_bits, IsRunItem}
use Rattle.vx_ptl.proofs.Runs.{Gained}
use Rattle.vx_ptl.proofs.run.write_run.Given as goal

abbrev pub invariant-loop-i : goal.invariant-loop-i
invariant-loop-i l =
    Gained l.fn.bits l.bits (run_bits 0 (length l.fn.bits) (take (l.fn.to - l.fn.from) (drop l.fn.from l.fn.items))) (run_bits l.before (length l.bits) (take (l.to - l.i) (drop l.i l.items)))
    × All IsRunItem (take (l.to - l.i) (drop l.i l.items))
