use Rattle.std.proofs.Common.{arith}
use Rattle.std.proofs.lemmas.Result.{err_from_is_err_and}
use Rattle.vx_table.specs.Forms.{form_of}
use Rattle.vx_table.proofs.Steps.{leads, leads-on, leads-end, no_rows_behind, leads-field, stop-field, leads-block, stop-block, leads-over, leads-no_turns, leads-into, leads-name, leads-turn, stop-turn, leads-no_turn, here, around}
use Rattle.vx_table.proofs.walk.+walk.Goals as goal

pub code_table-loop-row-init : goal.code_table-loop-row-init
code_table-loop-row-init g t c = (omega arith, rw (no_rows_behind (form_of c.args.table.now c.args.scope.now)) (leads _ _ _ _))

pub code_table-loop-row-preserved-in-Field :
    goal.code_table-loop-row-preserved-in-Field
code_table-loop-row-preserved-in-Field g t c =
    let before = rw (c.in-Some.ensures.form, c.in-Field.is) at c.loop-row.invariant.1 in
    let walked = rw c.in_ok-code_field-in-Field.was at c.code_field.ensures in
    (omega (arith, c.in-Some.ensures.one, c.loop-row.invariant.0), leads-field _ _ _ _ _ before walked)

pub code_table-returns-in_err-code_field-in-Field : goal.code_table-returns-in_err-code_field-in-Field
code_table-returns-in_err-code_field-in-Field g t c =
    let before = rw (c.in-Some.ensures.form, c.in-Field.is) at c.loop-row.invariant.1 in
    let walked = rw c.in_err-code_field-in-Field.was at c.code_field.ensures in
    let p = err_from_is_err_and c.from_residual.result c.from_residual.ensures.1 in
    rw (p.1, p.2) (stop-field _ _ _ _ before walked)

pub code_table-loop-row-preserved-in-Block :
    goal.code_table-loop-row-preserved-in-Block
code_table-loop-row-preserved-in-Block g t c =
    let before = rw (c.in-Some.ensures.form, c.in-Block.is) at c.loop-row.invariant.1 in
    let fewer = rw c.in_ok-next-in-Block.was at c.pass_block.ensures.fewer in
    let behind = rw c.in_ok-next-in-Block.was at c.pass_block.ensures.leads in
    (omega (arith, fewer, c.in-Some.ensures.one, c.loop-row.invariant.0), leads-on before behind)

pub code_table-returns-in_err-next-in-Block : goal.code_table-returns-in_err-next-in-Block
code_table-returns-in_err-next-in-Block g t c =
    let before = rw (c.in-Some.ensures.form, c.in-Block.is) at c.loop-row.invariant.1 in
    let refused = rw c.in_err-next-in-Block.was at c.pass_block.ensures.refused in
    let p = err_from_is_err_and c.from_residual-in_err-next-in-Block.result c.from_residual-in_err-next-in-Block.ensures.1 in
    rw (p.1, p.2) (before.on _ _ _ refused)

pub code_table-loop-row-preserved : goal.code_table-loop-row-preserved
code_table-loop-row-preserved g t c =
    let before = rw (c.in-Some.ensures.form, c.in-Name.is) at c.loop-row.invariant.1 in
    (omega (arith, c.in-Some.ensures.one, c.loop-row.invariant.0), rw (c.set.ensures, c.number-number.ensures) (leads-name _ _ _ _ _ before))

pub code_table-returns : goal.code_table-returns
code_table-returns g t c =
    let end = rw c.in_default.is at c.first_row.ensures.form in
    leads-end (rw end at c.loop-row.invariant.1)

pub pass_block-returns-then-number-eq0-clause-leads : goal.pass_block-returns-then-number-eq0-clause-leads
pass_block-returns-then-number-eq0-clause-leads g t c =
    let none = rw c.number.ensures at c.if-number-eq0.true in
    rw (c.in-When.is, c.split_block.ensures.behind) (leads-over _ _ _ _ _ none (leads _ _ _ _))

pub pass_block-returns-in-Some-clause-leads : goal.pass_block-returns-in-Some-clause-leads
pass_block-returns-in-Some-clause-leads g t c =
    let some = rw c.number.ensures at c.if-number-eq0.false in
    let joined = rw c.split_block.ensures.behind at c.in-Some.ensures.form in
    rw (c.in-When.is, c.split_block.ensures.block) (leads-into _ _ _ _ _ _ some joined (leads _ _ _ _))

pub pass_block-returns-in_ok-code_table-in-When-clause-leads :
    goal.pass_block-returns-in_ok-code_table-in-When-clause-leads
pass_block-returns-in_ok-code_table-in-When-clause-leads g t c =
    let some = rw c.number.ensures at c.if-number-eq0.false in
    let walked = rw (c.in_ok-code_table-in-When.was, c.split_block.ensures.block) at c.code_table.ensures in
    rw (c.in-When.is, c.split_block.ensures.behind) (leads-block _ _ _ _ _ _ (leads _ _ _ _) (here _ _ _ some walked))

pub pass_block-returns-in_err-code_table-in-When-clause-refused :
    goal.pass_block-returns-in_err-code_table-in-When-clause-refused
pass_block-returns-in_err-code_table-in-When-clause-refused g t c =
    let some = rw c.number.ensures at c.if-number-eq0.false in
    let walked = rw (c.in_err-code_table-in-When.was, c.split_block.ensures.block) at c.code_table.ensures in
    let p = err_from_is_err_and c.from_residual.result c.from_residual.ensures.1 in
    rw (p.1, p.2, c.in-When.is) (stop-block _ _ _ _ _ (leads _ _ _ _) (here _ _ _ some walked))

pub pass_block-returns-then-times-eq0-clause-leads : goal.pass_block-returns-then-times-eq0-clause-leads
pass_block-returns-then-times-eq0-clause-leads g t c =
    let none = rw c.number-times.ensures at c.if-times-eq0.true in
    rw (c.in-Repeat.is, c.split_block.ensures.behind) (leads-no_turns _ _ _ _ _ _ none (leads _ _ _ _))

pub pass_block-returns-in_ok-code_turns-in-Repeat-clause-leads :
    goal.pass_block-returns-in_ok-code_turns-in-Repeat-clause-leads
pass_block-returns-in_ok-code_turns-in-Repeat-clause-leads g t c =
    let walked = rw (c.in_ok-code_turns-in-Repeat.was, c.split_block.ensures.block, c.number-times.ensures) at c.code_turns.ensures in
    rw (c.in-Repeat.is, c.split_block.ensures.behind) (leads-block _ _ _ _ _ _ (leads _ _ _ _) (around _ _ _ _ walked))

pub pass_block-returns-in_err-code_turns-in-Repeat-clause-refused :
    goal.pass_block-returns-in_err-code_turns-in-Repeat-clause-refused
pass_block-returns-in_err-code_turns-in-Repeat-clause-refused g t c =
    let walked = rw (c.in_err-code_turns-in-Repeat.was, c.split_block.ensures.block, c.number-times.ensures) at c.code_turns.ensures in
    let p = err_from_is_err_and c.from_residual-in_err-code_turns-in-Repeat.result c.from_residual-in_err-code_turns-in-Repeat.ensures.1 in
    rw (p.1, p.2, c.in-Repeat.is) (stop-block _ _ _ _ _ (leads _ _ _ _) (around _ _ _ _ walked))

pub code_turns-loop-turn-preserved : goal.code_turns-loop-turn-preserved
code_turns-loop-turn-preserved g t c =
    let walked = rw (c.in_ok-code_table.was, c.set.ensures) at c.code_table.ensures in
    leads-turn _ _ _ _ _ _ c.loop-turn-test.true c.loop-turn.invariant walked

pub code_turns-returns-in_err-code_table : goal.code_turns-returns-in_err-code_table
code_turns-returns-in_err-code_table g t c =
    let walked = rw (c.in_err-code_table.was, c.set.ensures) at c.code_table.ensures in
    let p = err_from_is_err_and c.from_residual.result c.from_residual.ensures.1 in
    rw (p.1, p.2) (stop-turn _ _ _ _ _ c.loop-turn-test.true c.loop-turn.invariant walked)

pub code_turns-returns : goal.code_turns-returns
code_turns-returns g t c = leads-no_turn _ _ _ _ _ c.loop-turn-test.false c.loop-turn.invariant
