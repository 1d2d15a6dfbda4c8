use Rattle.std.proofs.Common.{◌≡◌, false, ltb}
use Rattle.std.proofs.lemmas.Bool.{le-ltb}
use Rattle.vx_pps.specs.Partition.{deltas_flag}
use Rattle.vx_pps.specs.inner.Walked.{ended}
use Rattle.vx_pps.proofs.partition.code_deltas.Goals as goal

pub returns-then-last-le1 : goal.returns-then-last-le1
unfolding deltas_flag
returns-then-last-le1 g c = let few : ltb 1 c.args.last ≡ false = le-ltb 1 c.args.last c.if-last-le1.true in rw few ended
