use Rattle.std.proofs.Common.{◌==◌, ◌≡◌, ◌&&◌, ◌++◌, false, length, ap, sym, ◌∙◌}
use Rattle.std.proofs.lemmas.Bool.{and_parts, eqb-true}
use Rattle.std.proofs.lemmas.List.{append-nil}
use Rattle.std.proofs.lemmas.Result.{on_ok_weaker}
use Rattle.vx_pps.proofs.Pushing.{group_pushed, last_unspelled, several_left}
use Rattle.vx_pps.proofs.list_items.push_group.Goals as goal

pub returns-then-is_last_whole : goal.returns-then-is_last_whole
returns-then-is_last_whole c = λ group groups stand.
    let parts = and_parts (length c.args.behind.now == 0) (length c.args.here.now == 1) (sym c.is_last_whole.ensures ∙ c.if-is_last_whole.true) in
    sym (ap (λ xs. c.args.items.now ++ xs) (last_unspelled c.args.tiles.now c.args.deltas group groups c.args.here.now c.args.behind.now stand (eqb-true _ _ parts.0) (eqb-true _ _ parts.1)) ∙ append-nil c.args.items.now)

pub returns : goal.returns
returns c =
    let others : ((length c.args.behind.now == 0) && (length c.args.here.now == 1)) ≡ false = sym c.is_last_whole.ensures ∙ c.if-is_last_whole.false in
    on_ok_weaker c.push_next.result
    (λ pushed group groups stand.
    let span = c.span_of-span.ensures group stand.inside stand.same in
    group_pushed c.args.tiles.now c.args.deltas c.span_of-span.result group groups c.args.here.now c.args.behind.now c.args.items.now c.push_width.new.items c.push_height.new.items c.push_slices.new.items c.push_next.new.items stand span
    (several_left (length c.args.behind.now) (length c.args.here.now) others c.requires.some)
    c.in_ok-push_width.ensures c.in_ok-push_height.ensures (c.in_ok-push_slices.ensures c.args.tiles.now group stand.inside span stand.same) (pushed groups stand.others))
    c.push_next.ensures
