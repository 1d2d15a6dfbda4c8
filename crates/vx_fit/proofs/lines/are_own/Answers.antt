use Rattle.std.proofs.Common.{◌≡◌, ◌↔◌, ◌+◌, Contains, inl, inr, subst, arith}
use Rattle.std.proofs.lemmas.Bool.{cases_lt}
use Rattle.vx_fit.proofs.Lined.{other_answers, own_from, own_tells, same_answers}
use Rattle.vx_fit.proofs.lines.are_own.Goals as goal

pub returns-then-has-clause-other : goal.returns-then-has-clause-other
returns-then-has-clause-other c = λ own.
    other_answers c.has.result c.has-in-loop-c.result _ _ c.has.ensures.found c.has.ensures.missing c.has-in-loop-c.ensures.found c.has-in-loop-c.ensures.missing c.if-has.true
    (own_tells c.args.bounds.now c.args.from c.args.size c.args.own.now c.loop-c.c c.loop-c.auto.c c.loop-c-test.true own)

pub loop-c-preserved : goal.loop-c-preserved
loop-c-preserved c = λ b some short.
    let bounds = c.args.bounds.now in
    let own = c.args.own.now in
    elim (cases_lt b c.loop-c.c) [
      | inl before ↦ c.loop-c.invariant b some before
      | inr here ↦
          let is : c.loop-c.c ≡ b = omega arith in
          subst (λ n. Contains bounds (c.args.from + n) ↔ Contains own n) is
          (same_answers c.has.result c.has-in-loop-c.result _ _ c.has.ensures.found c.has.ensures.missing c.has-in-loop-c.ensures.found c.has-in-loop-c.ensures.missing c.if-has.false)
    ]

pub returns-clause-own : goal.returns-clause-own
returns-clause-own c = own_from c.args.bounds.now c.args.from c.args.size c.args.own.now (λ b some short. c.loop-c.invariant b some (omega arith))
