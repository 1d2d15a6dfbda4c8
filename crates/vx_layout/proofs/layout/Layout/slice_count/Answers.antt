use Rattle.std.proofs.Common.{◌≡◌, ◌<◌, ◌≤◌, List, length, arith, ap, ◌∙◌}
use Rattle.vx_layout.specs.declared.rect.Rect.{Rect}
use Rattle.vx_layout.specs.Layouts.{no_rect, subpic_at}
use Rattle.vx_layout.specs.Rects.{slices_of_subpicture}
use Rattle.vx_layout.proofs.Counting.{length-slices_of-le}
use Rattle.vx_layout.proofs.layout.Layout.slice_count.Goals as goal

pub overflow_cast-result : goal.overflow_cast-result
overflow_cast-result c =
    let n = c.self.inside.numbers in
    let g : List Rect = c.index.result.now in
    let short : c.args.subpic < length n.subpics = rw c.self.view_is c.requires in
    let is : g ≡ slices_of_subpicture n.slices (subpic_at n c.args.subpic) = c.index.ensures ∙ c.self.invariant.groups_are.each c.args.subpic no_rect g short in
    let few : length (slices_of_subpicture n.slices (subpic_at n c.args.subpic)) ≤ length n.slices = length-slices_of-le n.slices (subpic_at n c.args.subpic) in
    let limit = c.self.invariant.layout.limits.slices.1 in
    omega (arith, c.len.ensures, ap length is, few, limit)
