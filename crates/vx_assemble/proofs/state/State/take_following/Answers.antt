use Rattle.std.proofs.Common.{◌∙◌, sym, ap, Err}
use Rattle.vx_pic.specs.Readings.{current}
use Rattle.vx_assemble.proofs.KeptPicture.{nothing_open}
use Rattle.vx_assemble.proofs.Slicing.{follows_closed, follows_further, follows_first}
use Rattle.vx_assemble.proofs.state.State.take_following.Goals as goal

pub returns-then-not-is_open-clause-answer : goal.returns-then-not-is_open-clause-answer
returns-then-not-is_open-clause-answer c R h before held =
    follows_closed R before (current before) c.args.unit.bytes.now
    (sym (c.is_open.ensures (current before) held.picture) ∙ c.if-not-is_open.true)
    ∙ ap Err (sym c.structure.ensures)

pub returns-in-Nothing-clause-answer : goal.returns-in-Nothing-clause-answer
returns-in-Nothing-clause-answer c R h before held =
    follows_closed R before (current before) c.args.unit.bytes.now (nothing_open c.args.self.now.picture (current before) c.in-Nothing.is held.picture)
    ∙ ap Err (sym c.structure-in-Nothing.ensures)

pub returns-in-Headed-clause-answer : goal.returns-in-Headed-clause-answer
returns-in-Headed-clause-answer c R h before held =
    follows_first R c.args.self.now c.take_first.new.self before c.args.unit.bytes.now c.take_first.result c.in-Headed.field-0 held c.in-Headed.is
    (λ b head. c.take_first.ensures.answer R h before held.apart b head)

pub returns-in-Going-clause-answer : goal.returns-in-Going-clause-answer
returns-in-Going-clause-answer c R h before held =
    follows_further R c.args.self.now c.take_further.new.self before c.args.unit.bytes.now c.take_further.result c.in-Going.field-0 held
    (sym (c.is_open.ensures (current before) held.picture) ∙ c.if-not-is_open.false) c.in-Going.is
    (λ p is whole. c.take_further.ensures.answer R h before held p is whole)
