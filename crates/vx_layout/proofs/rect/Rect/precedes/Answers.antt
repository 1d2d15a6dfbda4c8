use Rattle.std.proofs.lemmas.Bool.{OnFalse_from, OnTrue_from}
use Rattle.std.proofs.Common.{sym, ◌∙◌}
use Rattle.vx_layout.specs.Rects.{Precedes}
use Rattle.vx_layout.proofs.Preceding.{Precedes-from, Precedes-refuted}
use Rattle.vx_layout.proofs.rect.Rect.precedes.Goals as goal

pub returns-clause-order : goal.returns-clause-order
returns-clause-order c =
    OnTrue_from c.precedes.result (Precedes c.args.self.now c.args.later.now) (λ is. Precedes-from c.args.self.now c.args.later.now (sym c.precedes.ensures ∙ is))

pub returns-clause-disorder : goal.returns-clause-disorder
returns-clause-disorder c =
    OnFalse_from c.precedes.result (Precedes c.args.self.now c.args.later.now → ⊥) (λ is. Precedes-refuted c.args.self.now c.args.later.now (sym c.precedes.ensures ∙ is))
