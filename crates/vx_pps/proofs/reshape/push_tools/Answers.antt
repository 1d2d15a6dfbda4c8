use Rattle.std.proofs.lemmas.Result.{on_ok_weaker}
use Rattle.vx_pps.proofs.Pushing.{three_parts}
use Rattle.vx_pps.proofs.reshape.push_tools.Goals as goal

pub returns : goal.returns
returns c =
    on_ok_weaker c.push_info.result
    (λ pushed. three_parts c.args.items.now _ _ _ _ _ _ c.in_ok-push_qp.ensures (rw (c.number-is_overridden.ensures, c.number-info.ensures) at c.in_ok-push_if.ensures) pushed)
    c.push_info.ensures
