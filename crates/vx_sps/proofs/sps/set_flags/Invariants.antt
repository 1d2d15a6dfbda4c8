use Rattle.std.proofs.Common.{◌≡◌, take}
use Rattle.vx_sps.specs.Set as set
use Rattle.vx_sps.proofs.sps.set_flags.Given as goal

-- those of the items seen so far
abbrev pub invariant-loop-i : goal.invariant-loop-i
invariant-loop-i l = l.count ≡ set.set_flags l.field (take l.i l.fields)
