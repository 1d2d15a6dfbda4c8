use Rattle.vx_pps.proofs.Sizing.{Sizing}
use Rattle.vx_pps.proofs.grid.code_sizes.Given as goal

abbrev pub invariant-loop-turn : goal.invariant-loop-turn
invariant-loop-turn g l = Sizing g.C.Coder.step l.fn.field l.fn.count l.fn.total l.fn.coder l.fn.items l.turn l.left l.sizes l.coder l.items
