use Rattle.std.specs.Io.{StartsWith}
use Rattle.vx_cases.proofs.streams.push_part.Given as goal

-- what was there stays
abbrev pub invariant-loop : goal.invariant-loop
invariant-loop l = StartsWith l.bytes.items l.fn.bytes.items
