use Rattle.std.proofs.Common.{ap, sym, ◌∙◌, slice_get, arith}
use Rattle.std.specs.Prelude.{option_to_list}
use Rattle.vx_frame.specs.Collocated.{collocated_by}
use Rattle.vx_frame.proofs.Gathered.{none_of_all, piece_first, piece_none}
use Rattle.vx_frame.proofs.slices.first_named.Goals as goal

pub returns-in-Some : goal.returns-in-Some
returns-in-Some c =
    let q = c.args.picture.now in
    sym (piece_first (collocated_by q) q.slices c.loop-i.i c.in-Some.found c.loop-i.invariant (ap (λ xs. slice_get xs 0) (c.named_at.ensures ∙ ap option_to_list c.in-Some.is)))

pub loop-i-preserved : goal.loop-i-preserved
loop-i-preserved c =
    let q = c.args.picture.now in
    piece_none (collocated_by q) q.slices c.loop-i.i c.loop-i.invariant (c.named_at.ensures ∙ ap option_to_list c.in_default.is)

pub returns : goal.returns
returns c =
    let q = c.args.picture.now in
    sym (none_of_all (collocated_by q) q.slices c.loop-i.i (omega arith) c.loop-i.invariant)
