use Rattle.std.proofs.lemmas.Result.{err_from_is_err_and}
use Rattle.vx_table.specs.Forms.{done}
use Rattle.vx_pps.specs.declared.list.Listed.{Listed}
use Rattle.vx_pps.specs.Slices.{all_slices}
use Rattle.vx_pps.specs.inner.Walked.{ended, halted}
use Rattle.vx_pps.proofs.Walking.{then, stop}
use Rattle.vx_pps.proofs.list.code_list.Goals as goal

pub returns-in_err-code_turns : goal.returns-in_err-code_turns
returns-in_err-code_turns g c =
    let p = err_from_is_err_and c.from_residual.result c.from_residual.ensures.1 in
    let walked = rw (c.in_err-code_turns.was, c.new.ensures) at c.code_turns.ensures in
    rw (p.1, p.2) (stop (λ (at : Listed). done (all_slices c.args.tiles.now c.args.last at)) walked)

pub returns-in-Ok : goal.returns-in-Ok
returns-in-Ok g c =
    let walked = rw (c.in_ok-code_turns.was, c.new.ensures) at c.code_turns.ensures in
    rw c.in-Ok.ensures (then (λ (at : Listed). done (all_slices c.args.tiles.now c.args.last at)) walked ended)

pub returns-in-Err : goal.returns-in-Err
returns-in-Err g c = halted
