use Rattle.std.proofs.Common.{rules, true}
use Rattle.std.specs.Prelude.{IsTrue}
use Rattle.vx_table.proofs.Items.{unwritten_next}
use Rattle.vx_ptl.proofs.Runs.{run_more, first_run}
use Rattle.vx_ptl.proofs.run.is_run.Goals as goal

pub returns-then-not-is_run_item : goal.returns-then-not-is_run_item
returns-then-not-is_run_item c =
    let next = unwritten_next c.args.items.now c.loop-i.i c.args.to c.item.result c.loop-i-test.true c.requires.within c.item.ensures.index in
    (λ h. absurd (search (rules, h)), λ all. c.if-not-is_run_item.ensures.1 (first_run _ _ _ next (c.loop-i.invariant.1 all)))

pub loop-i-preserved : goal.loop-i-preserved
loop-i-preserved c =
    let next = unwritten_next c.args.items.now c.loop-i.i c.args.to c.item.result c.loop-i-test.true c.requires.within c.item.ensures.index in
    let holds : IsTrue true = search rules in
    run_more _ _ _ _ next (c.if-not-is_run_item.ensures.0 holds) c.loop-i.invariant
