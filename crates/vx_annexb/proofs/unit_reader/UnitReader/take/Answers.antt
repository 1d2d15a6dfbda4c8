use Rattle.std.proofs.Common.{◌≤◌, ◌∙◌, IsSome, sym, rules}
use Rattle.std.proofs.lemmas.Result.{err_from_is_err_and}
use Rattle.vx_annexb.specs.Reading.{IsOpen}
use Rattle.vx_annexb.proofs.Needed.{taking_first, takes_refusal, takes_unit, takes_end, takes_fault, taking_more, fewer_reads}
use Rattle.vx_annexb.proofs.unit_reader.UnitReader.take.Goals as goal

pub loop-span-init : goal.loop-span-init
loop-span-init g c = taking_first c.args.self.now _ _ c.requires.unfailed

pub returns-in_err-span-clause-answer : goal.returns-in_err-span-clause-answer
returns-in_err-span-clause-answer g c bytes units read needed =
    let p = err_from_is_err_and c.from_residual.result c.from_residual.ensures.1 in
    rw (p.1, p.2) (takes_refusal _ _ _ _ _ _ _ c.loop-span.invariant _ c.in_err-span.ensures.answer bytes units read needed)

pub returns-in_err-span-clause-end : goal.returns-in_err-span-clause-end
returns-in_err-span-clause-end g c open_ end = c.loop-span.invariant.end open_ (sym c.next.ensures.closed ∙ end)

pub returns-in_err-span-clause-unfailed : goal.returns-in_err-span-clause-unfailed
returns-in_err-span-clause-unfailed g c failed = absurd (c.loop-span.invariant.unfailed (sym c.next.ensures.closed ∙ failed))

pub returns-in_err-span-clause-again : goal.returns-in_err-span-clause-again
returns-in_err-span-clause-again g c bytes units x read refused =
    let p = err_from_is_err_and c.from_residual.result c.from_residual.ensures.1 in
    let still = c.loop-span.invariant.again bytes units x read refused in
    let e = c.in_err-span.ensures.again bytes units x still.0 still.1 in
    rw (p.1, p.2) (cc)

pub returns-in_err-span-clause-still : goal.returns-in_err-span-clause-still
returns-in_err-span-clause-still g c = c.loop-span.invariant.still

pub returns-in-Some-clause-answer : goal.returns-in-Some-clause-answer
returns-in-Some-clause-answer g c bytes units read needed =
    takes_unit _ _ _ _ _ _ _ c.loop-span.invariant _ (rw c.in-Some.is at c.in_ok-span.ensures.answer) bytes units read needed

pub returns-in-Some-clause-end : goal.returns-in-Some-clause-end
returns-in-Some-clause-end g c open_ end = c.loop-span.invariant.end open_ (sym c.next.ensures.closed ∙ end)

pub returns-in-Some-clause-unfailed : goal.returns-in-Some-clause-unfailed
returns-in-Some-clause-unfailed g c failed = absurd (c.loop-span.invariant.unfailed (sym c.next.ensures.closed ∙ failed))

pub returns-in-Some-clause-again : goal.returns-in-Some-clause-again
returns-in-Some-clause-again g c bytes units x read refused =
    let still = c.loop-span.invariant.again bytes units x read refused in
    let e = c.in_ok-span.ensures.again bytes units x still.0 still.1 in cc

pub returns-in-Some-clause-still : goal.returns-in-Some-clause-still
returns-in-Some-clause-still g c = c.loop-span.invariant.still

pub returns-then-not-is_open-clause-answer : goal.returns-then-not-is_open-clause-answer
returns-then-not-is_open-clause-answer g c bytes units read needed =
    let some : IsSome c.next.new.self.closed = search rules in
    takes_end _ _ _ _ _ _ _ c.loop-span.invariant (rw c.in_default.is at c.in_ok-span.ensures.answer) some (λ failed. c.loop-span.invariant.unfailed (sym c.next.ensures.closed ∙ failed)) bytes units read needed

pub returns-then-not-is_open-clause-end : goal.returns-then-not-is_open-clause-end
returns-then-not-is_open-clause-end g c open_ end = c.loop-span.invariant.end open_ (sym c.next.ensures.closed ∙ end)

pub returns-then-not-is_open-clause-unfailed : goal.returns-then-not-is_open-clause-unfailed
returns-then-not-is_open-clause-unfailed g c failed = absurd (c.loop-span.invariant.unfailed (sym c.next.ensures.closed ∙ failed))

pub returns-then-not-is_open-clause-again : goal.returns-then-not-is_open-clause-again
returns-then-not-is_open-clause-again g c bytes units x read refused =
    let still = c.loop-span.invariant.again bytes units x read refused in
    let e = c.in_ok-span.ensures.again bytes units x still.0 still.1 in
    let none = c.in_default.is in cc

pub returns-then-not-is_open-clause-still : goal.returns-then-not-is_open-clause-still
returns-then-not-is_open-clause-still g c = c.loop-span.invariant.still

pub returns-in_err-read-clause-answer : goal.returns-in_err-read-clause-answer
returns-in_err-read-clause-answer g c bytes units read needed =
    let going : IsOpen c.next.new.self = search rules in
    let p = err_from_is_err_and c.from_residual-in_err-read.result c.from_residual-in_err-read.ensures.1 in
    rw (p.1, p.2) (takes_fault _ _ _ _ _ _ _ c.loop-span.invariant (rw c.in_default.is at c.in_ok-span.ensures.answer) going _ _ _ _ c.in_err-read.ensures.answer bytes units read needed)

pub returns-in_err-read-clause-again : goal.returns-in_err-read-clause-again
returns-in_err-read-clause-again g c bytes units x read refused =
    let still = c.loop-span.invariant.again bytes units x read refused in
    let e = c.in_ok-span.ensures.again bytes units x still.0 still.1 in
    let none = c.in_default.is in cc

pub returns-in_err-read-clause-still : goal.returns-in_err-read-clause-still
returns-in_err-read-clause-still g c bytes units x read refused =
    let again = c.loop-span.invariant.again bytes units x read refused in
    let e = c.in_ok-span.ensures.again bytes units x again.0 again.1 in
    let none = c.in_default.is in cc

pub loop-span-preserved : goal.loop-span-preserved
loop-span-preserved g c =
    let going : IsOpen c.next.new.self = search rules in
    let none = c.in_default.is in
    taking_more _ _ _ _ _ _ _ c.loop-span.invariant (rw c.in_default.is at c.in_ok-span.ensures.answer) going _ _ _ c.in_ok-read.ensures.answer
    c.in_ok-read.ensures.end c.in_ok-read.ensures.unfailed
    (λ bytes units x read refused. let e = c.in_ok-span.ensures.again bytes units x read refused in cc)

pub loop-span-smaller : goal.loop-span-smaller
loop-span-smaller g c =
    let going : IsOpen c.next.new.self = search rules in
    let within : c.next.new.self.taken ≤ 1099511627776 = search rules in
    fewer_reads _ _ _ _ (sym c.next.ensures.closed ∙ going) (rw c.next.ensures.taken at within) (λ open_. rw c.next.ensures.taken at (c.in_ok-read.ensures.grows open_))
