use Rattle.std.proofs.lemmas.Bool.{OnFalse_from}
use Rattle.vx_fit.specs.FrameLines.{IsDropped}
use Rattle.vx_fit.proofs.lines.is_dropped.Goals as goal

pub returns-else-all_let_drop-clause-kept : goal.returns-else-all_let_drop-clause-kept
returns-else-all_let_drop-clause-kept c =
    OnFalse_from c.all_let_drop.result (¬ IsDropped c.args.corners.now c.args.parts.now c.args.n)
    (λ off dropped. c.if-all_let_drop.ensures.not_all (λ k short. (dropped.inner k short, dropped.single k short)))
