use Rattle.std.proofs.lemmas.Bool.{OnTrue_at, OnTrue_from, OnFalse_at, OnFalse_from}
use Rattle.vx_layout.proofs.Marks.{PaintsRect-from, IsTakenIn-from}
use Rattle.vx_layout.proofs.grid.Grid.paint.Goals as goal

pub returns-clause-painted : goal.returns-clause-painted
returns-clause-painted c =
    OnTrue_from _ _ (λ e. PaintsRect-from _ _ _ _ _ _ c.clip-columns.ensures c.clip-rows.ensures (OnTrue_at e c.paint_rows.ensures.painted))

pub returns-clause-taken : goal.returns-clause-taken
returns-clause-taken c =
    OnFalse_from _ _ (λ e. IsTakenIn-from _ _ _ _ c.clip-columns.ensures c.clip-rows.ensures (OnFalse_at e c.paint_rows.ensures.taken))
