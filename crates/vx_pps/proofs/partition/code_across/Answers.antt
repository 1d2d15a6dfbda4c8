use Rattle.std.proofs.Common.{◌≡◌, ◌==◌, true, eq-eqb}
use Rattle.vx_pps.specs.Partition.{across_flag}
use Rattle.vx_pps.specs.inner.Walked.{ended}
use Rattle.vx_pps.proofs.partition.code_across.Goals as goal

pub returns-then-last-eq0 : goal.returns-then-last-eq0
unfolding across_flag
returns-then-last-eq0 g c = let one : (c.args.last == 0) ≡ true = eq-eqb _ _ c.if-last-eq0.true in rw one ended
