use Rattle.std.proofs.Common.{ap, sym, ◌∙◌, ◌∷◌, [], get_or}
use Rattle.vx_rpl.specs.declared.entry.RefLists.{RefLists}
use Rattle.vx_frame.proofs.headers.same_first_lists.Goals as goal

pub returns-then-same_lists-clause-same : goal.returns-then-same_lists-clause-same
returns-then-same_lists-clause-same c =
    c.first_lists.ensures ∙ (ap (λ (l : RefLists). l ∷ []) c.if-same_lists.ensures.same ∙ sym c.first_lists-2.ensures)

pub returns-clause-other : goal.returns-clause-other
returns-clause-other c = λ same.
    c.if-same_lists.ensures.other (ap (λ ls. get_or ls 0 c.first_lists.result.now) (sym c.first_lists.ensures ∙ (same ∙ c.first_lists-2.ensures)))
