use Rattle.std.proofs.Common.{ℕ, List, Option, ap, subst, sym}
use Rattle.vx_assemble.specs.Feed.{EndsAtEnd}
use Rattle.vx_run.proofs.Taking.{advances_at}
use Rattle.vx_run.proofs.rounds.step.Goals as goal

-- the source in the box is the source that was given
pub returns-clause-answer : goal.returns-clause-answer
returns-clause-answer g c R of b units readings fed needed =
    advances_at R b units readings c.advance.new.self (c.advance.ensures.answer R of b units readings fed needed)
    (ap (λ p. (g.dyn-1.0.entry p.0).1.bytes_left p.1) c.deref_box_mut-1.ensures.value.1)
    (ap (λ p. (g.dyn-1.0.entry p.0).1.read_faults p.1) c.deref_box_mut-1.ensures.value.1)

pub returns-clause-end : goal.returns-clause-end
returns-clause-end g c ends =
    let same = ap (λ p. (g.dyn-1.0.entry p.0).1.bytes_left p.1) c.deref_box_mut-1.ensures.value.1 in
    c.advance.ensures.end (subst (λ (left : Option (List ℕ)). EndsAtEnd c.args.feed.now left) (sym same) ends)
