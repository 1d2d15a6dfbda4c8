use Rattle.std.proofs.Common.{◌∙◌, sym, arith}
use Rattle.std.proofs.lemmas.Result.{err_from_is_err_and}
use Rattle.vx_ph.specs.Id.{pps_id_form}
use Rattle.vx_ph.proofs.Id.{id_at_end, id_fits, passes_ok, passes_err}
use Rattle.vx_ph.proofs.pps_id.read_pps_id.Goals as goal

pub returns-in_err-pass_to_id-clause-answer : goal.returns-in_err-pass_to_id-clause-answer
unfolding pps_id_form
returns-in_err-pass_to_id-clause-answer c =
    let p = err_from_is_err_and c.from_residual.result c.from_residual.ensures.1 in
    let passed = rw (c.new-scope.ensures, c.in_err-pass_to_id.was) at c.pass_to_id.ensures.answer in
    rw (p.1, p.2) (passes_err _ passed)

pub overflow_cast-result : goal.overflow_cast-result
unfolding pps_id_form
overflow_cast-result c =
    let passed = rw (c.new-scope.ensures, c.in_ok-pass_to_id.was) at c.pass_to_id.ensures.answer in
    let leads = rw (c.new-scope.ensures, c.in_ok-pass_to_id.was) at c.pass_to_id.ensures.scope in
    let small = id_fits c.args.bits.now c.pass_to_id.new.bits c.pass_to_id.new.scope passed leads in
    omega (arith, small, c.latest.ensures)

pub returns-clause-answer : goal.returns-clause-answer
unfolding pps_id_form
returns-clause-answer c =
    let passed = rw (c.new-scope.ensures, c.in_ok-pass_to_id.was) at c.pass_to_id.ensures.answer in
    passes_ok c.in_ok-pass_to_id.field-0 c.latest.result passed

pub returns-clause-id : goal.returns-clause-id
unfolding pps_id_form
returns-clause-id c = λ values rest spelled.
    let leads = rw (c.new-scope.ensures, c.in_ok-pass_to_id.was) at c.pass_to_id.ensures.scope in
    (id_at_end values c.pass_to_id.new.scope (leads values rest spelled)).0 ∙ sym c.latest.ensures
