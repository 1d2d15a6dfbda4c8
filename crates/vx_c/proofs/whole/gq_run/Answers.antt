use Rattle.std.proofs.Common.{◌≡◌}
use Rattle.vx_c.proofs.Telling.{why_told}
use Rattle.vx_c.proofs.whole.gq_run.Goals as goal

pub returns-in-Ok-Some-clause-tells : goal.returns-in-Ok-Some-clause-tells
returns-in-Ok-Some-clause-tells c =
    let why = rw c.in-Ok-Some.field-0-is at c.in-Ok-Some.ensures.tells in
    let told : c.bytes-in-Ok-Some.result.now ≡ c.in-Ok-Some.ran.err.taken = c.bytes-in-Ok-Some.ensures in
    why_told _ _ c.bytes-in-Ok-Some.result.now c.args.err.now _ c.put-in-Ok-Some.ensures.count c.put-in-Ok-Some.ensures.put (rw told why)
