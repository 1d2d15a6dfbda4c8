use Rattle.std.proofs.Common.{take}
use Rattle.vx_write.specs.Slots.{a_pps_of}
use Rattle.vx_write.specs.inner.Places.{NoneIsOf}
use Rattle.vx_write.proofs.slots.Slots.place_of_pps.Given as goal

abbrev pub invariant-loop-i : goal.invariant-loop-i
invariant-loop-i l = NoneIsOf (a_pps_of l.id) (take l.i l.self-inside.sets.items)
