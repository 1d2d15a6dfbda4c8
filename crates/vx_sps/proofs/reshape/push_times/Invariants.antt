use Rattle.std.proofs.Common.{◌≡◌, ◌++◌, replicate}
use Rattle.vx_sps.proofs.reshape.push_times.Given as goal

abbrev pub invariant-loop-turn : goal.invariant-loop-turn
invariant-loop-turn l = l.into ≡ l.fn.into ++ replicate l._turn l.item
