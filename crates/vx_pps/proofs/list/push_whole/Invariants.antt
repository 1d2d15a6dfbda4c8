use Rattle.std.proofs.Common.{◌≡◌, ◌++◌, replicate}
use Rattle.vx_pps.specs.Groups.{strips}
use Rattle.vx_pps.proofs.list.push_whole.Given as goal

abbrev pub invariant-loop-turn : goal.invariant-loop-turn
invariant-loop-turn l = l.slices ≡ l.fn.slices ++ strips l.fn.tile l.fn.y (replicate l.turn l.fn.size)
