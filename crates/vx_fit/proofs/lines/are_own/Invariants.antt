use Rattle.std.proofs.Common.{ℕ, ◌<◌, ◌≤◌, ◌+◌, ◌↔◌, Contains}
use Rattle.vx_fit.proofs.lines.are_own.Given as goal

abbrev pub invariant-loop-c : goal.invariant-loop-c
invariant-loop-c l = (b : ℕ) → 1 ≤ b → b < l.c → Contains l.bounds (l.from + b) ↔ Contains l.own b
