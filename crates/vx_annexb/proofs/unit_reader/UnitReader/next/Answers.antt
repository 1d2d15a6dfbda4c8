use Rattle.std.proofs.Common.{◌≡◌, Some, None, Ok, Err, refl, rules, take}
use Rattle.std.proofs.lemmas.Result.{err_from_is_err_and}
use Rattle.vx_annexb.specs.declared.unit_reader.Closed.TheVariants.{TooLong}
use Rattle.vx_annexb.specs.ByteStream.{source_limit}
use Rattle.vx_annexb.specs.Reading.{HasRead, IsRefusedBy}
use Rattle.vx_annexb.specs.contracts.unit_reader.UnitReader.{the_view}
use Rattle.vx_annexb.proofs.Taking.{finds_unit, finds_none, finds_refusal, finds_long}
use Rattle.vx_annexb.proofs.Needed.{refused_again}
use Rattle.vx_annexb.proofs.unit_reader.UnitReader.next.Goals as goal

pub returns-in_err-span-clause-answer : goal.returns-in_err-span-clause-answer
returns-in_err-span-clause-answer c g units read =
    let here : HasRead (the_view c.self.inside) g units = rw (← c.self.view_is) at read in
    let p = err_from_is_err_and c.from_residual.result c.from_residual.ensures.1 in
    rw (p.1, p.2) (finds_refusal (the_view c.self.inside) c.next.new.self c.next.ensures.lends.all g units here _ (c.in_err-span.ensures.answer (take source_limit g) units here.stands))

pub returns-in-Some-TooLong-clause-answer : goal.returns-in-Some-TooLong-clause-answer
returns-in-Some-TooLong-clause-answer c g units read =
    let here : HasRead (the_view c.self.inside) g units = rw (← c.self.view_is) at read in
    let long : c.self.inside.closed ≡ Some TooLong = search rules in
    finds_long (the_view c.self.inside) c.next.new.self c.next.ensures.lends.all g units here (rw c.in_default.is at (c.in_ok-span.ensures.answer (take source_limit g) units here.stands)) long

pub returns-in_err-span-clause-again : goal.returns-in_err-span-clause-again
returns-in_err-span-clause-again c g units x read refused =
    let here : HasRead (the_view c.self.inside) g units = rw (← c.self.view_is) at read in
    let why : IsRefusedBy g units (the_view c.self.inside) x = rw (← c.self.view_is) at refused in
    let p = err_from_is_err_and c.from_residual.result c.from_residual.ensures.1 in
    rw (p.1, p.2) (refused_again (the_view c.self.inside) (record (the_view c.self.inside) { splitter = c.next.new.self }) g units x c.next.ensures.lends.all refl here (Err _) why
    (finds_refusal (the_view c.self.inside) c.next.new.self c.next.ensures.lends.all g units here _ (c.in_err-span.ensures.answer (take source_limit g) units here.stands)))

pub returns-in-Some-clause-again : goal.returns-in-Some-clause-again
returns-in-Some-clause-again c g units x read refused =
    let here : HasRead (the_view c.self.inside) g units = rw (← c.self.view_is) at read in
    let why : IsRefusedBy g units (the_view c.self.inside) x = rw (← c.self.view_is) at refused in
    refused_again (the_view c.self.inside) (record (the_view c.self.inside) { splitter = c.next.new.self }) g units x c.next.ensures.lends.all refl here (Ok (Some _)) why
    (finds_unit (the_view c.self.inside) c.next.new.self c.next.ensures.lends.all g units here _ (rw c.in-Some.is at (c.in_ok-span.ensures.answer (take source_limit g) units here.stands)))

pub returns-clause-again : goal.returns-clause-again
returns-clause-again c g units x read refused =
    let here : HasRead (the_view c.self.inside) g units = rw (← c.self.view_is) at read in
    let why : IsRefusedBy g units (the_view c.self.inside) x = rw (← c.self.view_is) at refused in
    let short : c.self.inside.closed ≡ Some TooLong → ⊥ = search rules in
    refused_again (the_view c.self.inside) (record (the_view c.self.inside) { splitter = c.next.new.self }) g units x c.next.ensures.lends.all refl here (Ok None) why
    (finds_none (the_view c.self.inside) c.next.new.self c.next.ensures.lends.all g units here (rw c.in_default.is at (c.in_ok-span.ensures.answer (take source_limit g) units here.stands)) short)
