use Rattle.std.proofs.Common.{◌+◌}
use Rattle.std.proofs.lemmas.Result.{err_from_is_err_and}
use Rattle.vx_table.specs.Forms.{done}
use Rattle.vx_pps.specs.Partition.{golomb_below}
use Rattle.vx_pps.specs.inner.Walked.{ended}
use Rattle.vx_pps.proofs.Walking.{then, stop}
use Rattle.vx_pps.proofs.grid.code_size.Goals as goal

pub returns-in_err-size-clause-walk : goal.returns-in_err-size-clause-walk
unfolding golomb_below
returns-in_err-size-clause-walk g c =
    let p = err_from_is_err_and c.from_residual.result c.from_residual.ensures.1 in
    rw (p.1, p.2) (stop (λ v. done (v + 1)) (rw c.in_err-size.was at c.code_below.ensures.walk))

pub returns-clause-walk : goal.returns-clause-walk
unfolding golomb_below
returns-clause-walk g c = then (λ v. done (v + 1)) (rw c.in_ok-size.was at c.code_below.ensures.walk) ended
