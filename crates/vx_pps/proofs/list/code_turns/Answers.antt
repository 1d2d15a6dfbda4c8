use Rattle.std.proofs.Common.{◌∙◌, sym}
use Rattle.std.proofs.lemmas.Result.{err_from_is_err_and}
use Rattle.vx_pps.proofs.Turning.{turns-more, turns-stop, turns-over, turns-end}
use Rattle.vx_pps.proofs.list.code_turns.Goals as goal

pub returns-then-not-goes_on : goal.returns-then-not-goes_on
returns-then-not-goes_on g c =
    turns-over c.args.tiles.now c.args.last c.args.deltas c.args.listed.now c.loop-turn.listed c.loop-turn.turn c.loop-turn-test.true c.loop-turn.invariant
    (sym c.goes_on.ensures ∙ c.if-not-goes_on.true)

pub returns-in_err-code_turn : goal.returns-in_err-code_turn
returns-in_err-code_turn g c =
    let p = err_from_is_err_and c.from_residual.result c.from_residual.ensures.1 in
    let walked = rw c.in_err-code_turn.was at c.code_turn.ensures.walk in
    rw (p.1, p.2) (turns-stop c.args.tiles.now c.args.last c.args.deltas c.args.listed.now c.loop-turn.listed c.loop-turn.turn c.loop-turn-test.true c.loop-turn.invariant
    (sym c.goes_on.ensures ∙ c.if-not-goes_on.false) walked)

pub loop-turn-preserved : goal.loop-turn-preserved
loop-turn-preserved g c =
    let walked = rw c.in_ok-code_turn.was at c.code_turn.ensures.walk in
    turns-more c.args.tiles.now c.args.last c.args.deltas c.args.listed.now c.loop-turn.listed c.code_turn.new.listed c.loop-turn.turn c.loop-turn-test.true c.loop-turn.invariant
    (sym c.goes_on.ensures ∙ c.if-not-goes_on.false) walked c.in_ok-code_turn.ensures.before

pub returns : goal.returns
returns g c = turns-end c.args.tiles.now c.args.last c.args.deltas c.args.listed.now c.loop-turn.listed c.loop-turn.turn c.loop-turn-test.false c.loop-turn.invariant
