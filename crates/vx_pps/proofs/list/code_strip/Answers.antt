use Rattle.std.proofs.Common.{◌+◌, ◌-◌, ◌==◌, arith, length}
use Rattle.std.proofs.lemmas.Result.{err_from_is_err_and}
use Rattle.vx_table.specs.Forms.{done}
use Rattle.vx_pps.specs.inner.Walked.{ended}
use Rattle.vx_pps.proofs.Ranges.{height_fits}
use Rattle.vx_pps.proofs.Walking.{then, stop}
use Rattle.vx_pps.proofs.list.code_strip.Goals as goal

pub returns-in_err-height-clause-walk : goal.returns-in_err-height-clause-walk
returns-in_err-height-clause-walk g c =
    let p = err_from_is_err_and c.from_residual.result c.from_residual.ensures.1 in
    let walked = rw (c.in_err-height.was, c.height_limits.ensures, c.saturating_sub-left.ensures, c.len.ensures) at c.code_number.ensures.walk in
    rw (p.1, p.2) (stop (λ v. done (v + 1)) walked)

pub overflow_add-result : goal.overflow_add-result
overflow_add-result g c =
    let range = rw (c.height_limits.ensures, c.saturating_sub-left.ensures, c.len.ensures) at c.in_ok-height.ensures.range in
    omega (arith, c.requires.low, height_fits (c.args.more == 0) (c.args.tile.y + c.args.tile.h - c.args.y) (c.args.last + 1 - length c.args.slices.now) c.in_ok-height.height range)

pub returns-clause-walk : goal.returns-clause-walk
returns-clause-walk g c =
    let walked = rw (c.in_ok-height.was, c.height_limits.ensures, c.saturating_sub-left.ensures, c.len.ensures) at c.code_number.ensures.walk in
    then (λ v. done (v + 1)) walked ended

pub returns-clause-height : goal.returns-clause-height
returns-clause-height g c =
    let range = rw (c.height_limits.ensures, c.saturating_sub-left.ensures, c.len.ensures) at c.in_ok-height.ensures.range in
    let fits = height_fits (c.args.more == 0) (c.args.tile.y + c.args.tile.h - c.args.y) (c.args.last + 1 - length c.args.slices.now) c.in_ok-height.height range in
    (omega arith, omega (arith, fits))
