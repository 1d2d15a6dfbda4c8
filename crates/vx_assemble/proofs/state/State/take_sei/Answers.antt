use Rattle.std.proofs.Common.{true, false, subst}
use Rattle.vx_assemble.specs.inner.Changes.{Gathers}
use Rattle.vx_pic.specs.Readings.{current}
use Rattle.vx_assemble.proofs.Messages.{sei_within, sei_long, took_sei}
use Rattle.vx_assemble.proofs.state.State.take_sei.Goals as goal

pub returns-then-is_within-clause-answer : goal.returns-then-is_within-clause-answer
returns-then-is_within-clause-answer c R h before held =
    sei_within R c.args.self.now before c.args.unit.bytes.now c.is_within.result (c.is_within.ensures (current before) held.picture) c.if-is_within.true held

pub returns-then-not-kept-clause-answer : goal.returns-then-not-kept-clause-answer
returns-then-not-kept-clause-answer c R h before held =
    let s = c.args.self.now in
    let ms = c.in_ok-messages.messages in
    let long : Gathers false ms s c.gather.new.self = subst (λ k. Gathers k ms s c.gather.new.self) c.if-not-kept.true c.in_ok-kept.ensures.answer in
    sei_long R s before c.args.unit.bytes.now c.args.unit.rbsp.now ms c.is_within.result (c.is_within.ensures (current before) held.picture)
    c.if-is_within.false c.args.unit.spells (c.in_ok-messages.ensures R h) held c.requires long.1

pub returns-clause-answer : goal.returns-clause-answer
returns-clause-answer c R h before held =
    let s = c.args.self.now in
    let ms = c.in_ok-messages.messages in
    let kept : Gathers true ms s c.gather.new.self = subst (λ k. Gathers k ms s c.gather.new.self) c.if-not-kept.false c.in_ok-kept.ensures.answer in
    took_sei R s c.gather.new.self before c.args.unit.bytes.now c.args.unit.rbsp.now ms c.is_within.result
    (c.is_within.ensures (current before) held.picture) c.if-is_within.false c.args.unit.spells (c.in_ok-messages.ensures R h) held c.requires kept
    c.in_ok-kept.ensures.order
