use Rattle.vx_pps.proofs.Turning.{Turns}
use Rattle.vx_pps.proofs.list.code_turns.Given as goal

abbrev pub invariant-loop-turn : goal.invariant-loop-turn
invariant-loop-turn g l = Turns g.C.Coder.step l.fn.tiles l.fn.last l.fn.deltas l.fn.listed l.fn.coder l.fn.items l.turn l.listed l.coder l.items
