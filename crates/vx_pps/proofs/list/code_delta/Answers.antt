use Rattle.std.proofs.Common.{rules, w64}
use Rattle.std.proofs.lemmas.Int.{to_z-of_z}
use mir.Val.{SFits}
use Rattle.vx_pps.specs.inner.Walked.{ended, coded, refused}
use Rattle.vx_pps.proofs.list.code_delta.Goals as goal

pub returns-in-Ok : goal.returns-in-Ok
returns-in-Ok g c =
    let fits : SFits w64 c.in-Ok.step = search rules in
    let n = rw (to_z-of_z w64 c.in-Ok.step fits) at c.tile_at.ensures in
    rw n (coded (rw c.delta_cell.ensures at c.in-Ok.ensures.step) ended)

pub returns-in-Err : goal.returns-in-Err
returns-in-Err g c = refused (rw c.delta_cell.ensures at c.in-Err.ensures.step)
