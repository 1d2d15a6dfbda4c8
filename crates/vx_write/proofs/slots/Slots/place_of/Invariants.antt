use Rattle.std.proofs.Common.{take}
use Rattle.vx_write.specs.Sets.{set_lent}
use Rattle.vx_write.specs.inner.Places.{NoneIsOf}
use Rattle.vx_write.proofs.slots.Slots.place_of.Given as goal

abbrev pub invariant-loop-i : goal.invariant-loop-i
invariant-loop-i l = NoneIsOf (set_lent l.set) (take l.i l.self-inside.sets.items)
