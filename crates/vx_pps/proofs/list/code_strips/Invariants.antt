use Rattle.vx_pps.proofs.Turning.{Stripping}
use Rattle.vx_pps.proofs.list.code_strips.Given as goal

abbrev pub invariant-loop-turn : goal.invariant-loop-turn
invariant-loop-turn g l = Stripping g.C.Coder.step l.fn.tile l.fn.last l.fn.explicit l.fn.slices l.fn.coder l.fn.items l.turn l.y l.size l.slices l.coder l.items
