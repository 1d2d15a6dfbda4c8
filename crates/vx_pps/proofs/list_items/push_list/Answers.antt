use Rattle.std.proofs.Common.{◌≡◌, ◌++◌, ◌<◌, length, ap, sym, ◌∙◌, arith}
use Rattle.std.proofs.lemmas.Bool.{eqb-false, eqb-true}
use Rattle.std.proofs.lemmas.List.{length-take-le, take-append-drop}
use Rattle.vx_pps.specs.Written.{list_items}
use Rattle.vx_pps.proofs.Pushing.{list_done, list_more}
use Rattle.vx_pps.proofs.list_items.push_list.Goals as goal

pub loop-left-preserved : goal.loop-left-preserved
loop-left-preserved c = λ groups are.
    let none = eqb-false (length c.loop-left.left.now) 0 (sym c.is_empty.ensures ∙ c.loop-left-test.true) in
    let some : 0 < length c.loop-left.left.now = omega (arith, none) in
    let parts : c.split_at.result.0.now ++ c.split_at.result.1.now ≡ c.loop-left.left.now = rw (c.split_at.ensures.front, c.split_at.ensures.back) (take-append-drop c.group_len.result c.loop-left.left.now) in
    let long : length c.split_at.result.0.now ≡ c.group_len.result = ap length c.split_at.ensures.front ∙ length-take-le c.group_len.result c.loop-left.left.now c.group_len.ensures.within.1 in
    list_more c.args.tiles.now c.args.deltas (c.args.items.now ++ list_items c.args.tiles.now c.args.deltas groups) c.loop-left.items c.push_group.new.items c.loop-left.left.now c.split_at.result.0.now c.split_at.result.1.now
    (c.loop-left.invariant groups are) some parts (λ group after is same. long ∙ c.group_len.ensures.group group after is same) c.in_ok-push_group.ensures

pub returns : goal.returns
returns c = λ groups are.
    list_done c.args.tiles.now c.args.deltas (c.args.items.now ++ list_items c.args.tiles.now c.args.deltas groups) c.loop-left.items c.loop-left.left.now (c.loop-left.invariant groups are)
    (eqb-true (length c.loop-left.left.now) 0 (sym c.is_empty.ensures ∙ c.loop-left-test.false))
