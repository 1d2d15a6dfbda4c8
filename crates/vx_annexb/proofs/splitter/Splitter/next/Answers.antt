use Rattle.vx_annexb.specs.Held.{Stands}
use Rattle.std.proofs.lemmas.Result.{err_from_is_err_and}
use Rattle.vx_annexb.proofs.Steps.{Stands-no_more}
use Rattle.vx_annexb.proofs.splitter.Splitter.next.Goals as goal

pub returns-in_default-seek_end-clause-answer : goal.returns-in_default-seek_end-clause-answer
returns-in_default-seek_end-clause-answer c g units s =
    let started : Stands c.seek_start.new.self g units = (rw c.in-Some-2.is at c.in_ok-start.ensures.answer) g units s in
    let ended = c.in_default-seek_end.ensures.answer g units (c.pass_clear.ensures.stands g units started) in
    (ended.0, Stands-no_more _ g units c.in-Some-2.start c.seek_end.ensures.start c.seek_end.ensures.open ended.0 (rw c.seek_end.ensures.lends.all ended.1))

pub returns-in_err-start-clause-answer : goal.returns-in_err-start-clause-answer
returns-in_err-start-clause-answer c g units s =
    let p = err_from_is_err_and c.from_residual.result c.from_residual.ensures.1 in
    rw (p.1, p.2) (c.in_err-start.ensures.answer g units s)
