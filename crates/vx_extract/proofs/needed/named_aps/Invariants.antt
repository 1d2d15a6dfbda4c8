use Rattle.std.specs.Prelude.{false, replicate}
use Rattle.vx_extract.specs.inner.Needed.{WalkedTo}
use Rattle.vx_extract.proofs.needed.named_aps.Given as goal

abbrev pub invariant-loop-i : goal.invariant-loop-i
invariant-loop-i l = WalkedTo l.picture l.target (replicate 24 false) l.named l.found l.i
