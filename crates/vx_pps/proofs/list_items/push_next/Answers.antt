use Rattle.std.proofs.Common.{◌++◌, ap, sym, ◌∙◌, arith}
use Rattle.std.proofs.lemmas.List.{append-nil}
use Rattle.std.proofs.lemmas.Result.{on_ok_weaker}
use Rattle.vx_pps.proofs.Pushing.{delta_pushed, none_behind}
use Rattle.vx_pps.proofs.list_items.push_next.Goals as goal

pub returns-in_default : goal.returns-in_default
returns-in_default c = λ groups are.
    let none = none_behind c.args.tiles.now c.args.deltas c.args.tile groups c.args.behind.now are (omega (arith, c.in_default.ensures.item.3)) in
    sym (ap (λ xs. c.args.items.now ++ xs) none ∙ append-nil c.args.items.now)

pub returns : goal.returns
returns c =
    rw c.if-not-deltas.false
    (on_ok_weaker c.push_step.result
    (λ pushed groups are.
    delta_pushed c.args.tiles.now c.args.tile c.tile_of.result c.in-Some.next.now groups c.args.behind.now c.args.items.now c.push_step.new.items are c.in-Some.ensures.item.3.0 c.in-Some.ensures.item.1 c.tile_of.ensures.tile pushed)
    c.push_step.ensures)
