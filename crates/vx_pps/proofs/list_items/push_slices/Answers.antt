use Rattle.std.proofs.Common.{◌++◌, ap, sym, ◌∙◌}
use Rattle.std.proofs.lemmas.Result.{on_ok_weaker}
use Rattle.vx_layout.specs.Layouts.{no_rect}
use Rattle.vx_pps.proofs.Pushing.{one_height, several_heights}
use Rattle.vx_pps.proofs.list_items.push_slices.Goals as goal

pub returns-then-slices-gt1 : goal.returns-then-slices-gt1
returns-then-slices-gt1 c =
    on_ok_weaker c.push_heights.result (λ pushed g group is span same. pushed ∙ ap (λ xs. c.args.items.now ++ xs) (sym (several_heights g group c.args.slices.now is same c.if-slices-gt1.true))) c.push_heights.ensures

pub returns : goal.returns
returns c =
    on_ok_weaker c.push_if.result (λ pushed g group is span same. pushed ∙ rw c.may_be_cut.ensures (ap (λ xs. c.args.items.now ++ xs) (sym (one_height g c.args.span group c.args.slices.now no_rect is span same c.if-slices-gt1.false)))) c.push_if.ensures
