use Rattle.std.proofs.Common.{◌∙◌, sym}
use Rattle.std.proofs.lemmas.Bool.{OnFalse_at, OnTrue_at}
use Rattle.vx_pic.proofs.Answering.{sizes_differ, ids_disagree, layout_answered, limits_made}
use Rattle.vx_pic.proofs.layouts.picture_layout.Goals as goal

pub returns-then-ctu_sizes_differ-clause-answer : goal.returns-then-ctu_sizes_differ-clause-answer
returns-then-ctu_sizes_differ-clause-answer c =
    rw c.fault.ensures (sizes_differ c.args.sps.now c.args.pps.now (sym c.ctu_sizes_differ.ensures ∙ c.if-ctu_sizes_differ.true))

pub returns-then-not-branch-clause-answer : goal.returns-then-not-branch-clause-answer
returns-then-not-branch-clause-answer c =
    rw c.fault-then-not-branch.ensures (ids_disagree c.args.sps.now c.args.pps.now (sym c.ctu_sizes_differ.ensures ∙ c.if-ctu_sizes_differ.false)
    (OnFalse_at c.if-not-branch.true c.in_ok-ids_agree.ensures.disagree))

pub returns-clause-answer : goal.returns-clause-answer
returns-clause-answer c =
    layout_answered c.args.sps.now c.args.pps.now c.in_ok-numbers.numbers c.layout_of.result (sym c.ctu_sizes_differ.ensures ∙ c.if-ctu_sizes_differ.false)
    (OnTrue_at c.if-not-branch.false c.in_ok-ids_agree.ensures.agree) c.in_ok-numbers.ensures.value c.layout_of.ensures

pub returns-clause-limits : goal.returns-clause-limits
returns-clause-limits c = limits_made c.in_ok-numbers.numbers c.layout_of.result c.in_ok-numbers.ensures.limits c.layout_of.ensures
