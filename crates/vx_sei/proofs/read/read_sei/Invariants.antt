use Rattle.std.proofs.Common.{length}
use Rattle.vx_sei.proofs.Messages.{HasTaken}
use Rattle.vx_sei.proofs.read.read_sei.Given as goal

abbrev pub invariant-loop-front : goal.invariant-loop-front
invariant-loop-front l = HasTaken l.rbsp l.rest l.messages

abbrev pub decreases-loop-front : goal.decreases-loop-front
decreases-loop-front l = length l.rest
