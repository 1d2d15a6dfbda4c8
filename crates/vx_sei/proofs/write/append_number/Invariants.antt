use Rattle.std.proofs.Common.{◌≡◌, ◌++◌, replicate}
use Rattle.vx_sei.proofs.write.append_number.Given as goal

abbrev pub invariant-loop : goal.invariant-loop
invariant-loop l = l.rbsp.items ≡ l.fn.rbsp.items ++ replicate l.counter 255
