use Rattle.std.proofs.Common.{sym, subst, ap, ◌∙◌, length, ◌≤◌}
use Rattle.std.proofs.lemmas.List.FromFn.{length-map-range_with_len}
use Rattle.vx_sps.specs.Subpictures.{rect_of, subpics_of}
use Rattle.vx_vectors.proofs.frame.frame_of.Goals as goal

-- the layout is that of the sets, which has a rectangle for each subpicture
pub invariant_of-result : goal.invariant_of-result
invariant_of-result c =
    let made = c.in_ok-layout.ensures.answer in
    let s = c.args.sps.now in
    let long = c.in_ok-ids.ensures.one_each made.0.ids.placed in
    let rects = ap (λ n. length n.subpics) made.1 ∙ length-map-range_with_len (rect_of s) 0 (subpics_of s) in
    let same = long ∙ sym rects in
    record { few = subst (λ k. k ≤ 1000) (sym same) c.in_ok-layout.ensures.limits.subpics.1; one_each = same }
