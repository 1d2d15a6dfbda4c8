use Rattle.std.proofs.Common.{ap, sym, ◌∙◌, take, arith}
use Rattle.std.specs.Prelude.{flat_map}
use Rattle.vx_frame.specs.Bodies.{filters_of, with_bodies}
use Rattle.vx_frame.specs.inner.Found.{piece_at}
use Rattle.vx_frame.proofs.Gathered.{flat_all, piece_more, with_more}
use Rattle.vx_frame.proofs.filters.add_picture.Goals as goal

pub loop-i-preserved : goal.loop-i-preserved
loop-i-preserved c =
    let q = c.args.picture.now in
    c.in_ok-add_slice.ensures ∙ (ap (λ bs. with_bodies bs (piece_at (filters_of q) q.slices c.loop-i.i)) c.loop-i.invariant
    ∙ (sym (with_more _ (flat_map (filters_of q) (take c.loop-i.i q.slices)) (piece_at (filters_of q) q.slices c.loop-i.i))
    ∙ ap (with_bodies _) (sym (piece_more (filters_of q) q.slices c.loop-i.i))))

pub returns : goal.returns
returns c =
    let q = c.args.picture.now in
    c.loop-i.invariant ∙ ap (with_bodies _) (flat_all (filters_of q) q.slices c.loop-i.i (omega arith))
