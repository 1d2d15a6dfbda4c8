use Rattle.std.proofs.Common.{rules}
use Rattle.std.proofs.lemmas.Result.{err_from_is_err_and}
use Rattle.vx_run.specs.Show.{teller}
use Rattle.vx_run.proofs.Gathering.{ShowsLater-written, ShowsLater-cut}
use Rattle.vx_run.proofs.show.show_seen.Goals as goal

pub returns-clause-answer : goal.returns-clause-answer
returns-clause-answer g c R of b units before read count =
    let gathered = rw c.clear.ensures.items at c.gather-ending.ensures.answer R of b units before read count in
    ShowsLater-written R (teller c.args.fields c.args.inputs R of) b units before c.gather-ending.new.feed c.gather-ending.new.lines.items _ c.gather-ending.result gathered
    (record { kept = c.in_ok-write_all.ensures.faults; gained = search rules })

pub returns-in_err-write_all-clause-answer : goal.returns-in_err-write_all-clause-answer
returns-in_err-write_all-clause-answer g c R of b units before read count =
    let gathered = rw c.clear.ensures.items at c.gather-ending.ensures.answer R of b units before read count in
    let p = err_from_is_err_and c.from_residual.result c.from_residual.ensures.1 in
    rw (p.1, p.2)
    (ShowsLater-cut R (teller c.args.fields c.args.inputs R of) b units before c.gather-ending.new.feed c.gather-ending.new.lines.items _ c.gather-ending.result gathered (record { failed = search rules; gained = search rules }))
