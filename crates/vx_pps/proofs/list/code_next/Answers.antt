use Rattle.std.proofs.Common.{◌≡◌, ◌+◌, ◌-◌, arith}
use Rattle.vx_pps.specs.inner.Walked.{ended}
use Rattle.vx_pps.proofs.list.code_next.Goals as goal

pub returns : goal.returns
returns g c =
    let wide : c.args.size.0 + 1 - 1 ≡ c.args.size.0 = omega arith in
    let high : c.args.size.1 + 1 - 1 ≡ c.args.size.1 = omega arith in
    let next = rw (wide, high) at c.tile_behind.ensures in
    rw (c.if-spelled.false, next) ended
