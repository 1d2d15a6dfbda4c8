use Rattle.std.proofs.Common.{refl}
use Rattle.vx_merge.proofs.joins.join_refusal.Goals as goal

pub returns-then-joins : goal.returns-then-joins
returns-then-joins c = rw c.if-joins.true c.join_start.ensures

pub returns : goal.returns
returns c = rw c.if-joins.false (record { verdict = refl })
