use Rattle.std.proofs.Common.{Err, ap, ◌∙◌}
use Rattle.std.proofs.lemmas.Result.{IfOk-weaker}
use Rattle.vx_pps.proofs.Remade.{from_sources, put_is, puts, puts_none_at, whole_sources}
use Rattle.vx_pps.proofs.reshape.put_together.Goals as goal

pub new-requires-clause-set : goal.new-requires-clause-set
new-requires-clause-set c =
    put_is c.new-rewriter.result c.code_pps.new.coder c.code_pps.new.items c.in-Ok.partition (rw (c.new-items.ensures, c.in-Ok.is) at c.code_pps.ensures)

pub returns-in_ok-new-in-Ok : goal.returns-in_ok-new-in-Ok
returns-in_ok-new-in-Ok c = λ items is.
    let whole = whole_sources c.args.names.now c.args.shown.now c.args.others.now c.new-shown.result c.new-others.result c.len.result c.len-2.result c.new-rewriter.result c.new-rewriter.ensures c.new-shown.ensures c.new-others.ensures c.len.ensures c.len-2.ensures in
    let walked = from_sources whole c.new-items.ensures c.code_pps.ensures in
    c.in_ok-new-in-Ok.ensures ∙ puts record { names = c.args.names.now; shown = c.args.shown.now; others = c.args.others.now } c.code_pps.new.coder c.code_pps.new.items c.in-Ok.partition (rw c.in-Ok.is at walked) items is

pub returns-in-Err : goal.returns-in-Err
returns-in-Err c =
    let whole = whole_sources c.args.names.now c.args.shown.now c.args.others.now c.new-shown.result c.new-others.result c.len.result c.len-2.result c.new-rewriter.result c.new-rewriter.ensures c.new-shown.ensures c.new-others.ensures c.len.ensures c.len-2.ensures in
    let walked = from_sources whole c.new-items.ensures c.code_pps.ensures in
    IfOk-weaker c.unmade.result _ _
    (λ set why.
    rw why.0
    (puts_none_at record { names = c.args.names.now; shown = c.args.shown.now; others = c.args.others.now } c.code_pps.new.coder c.code_pps.new.items c.code_pps.result (c.in-Err.is ∙ ap Err why.1) walked))
    c.unmade.ensures
