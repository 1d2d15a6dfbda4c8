use Rattle.std.proofs.Common.{◌≡◌, Some, subst, sym, arith}
use Rattle.std.specs.List.{AllByRecursion}
use Rattle.vx_frame.specs.Collocated.{collocated_by}
use Rattle.vx_frame.proofs.Gathered.{all_pieces, piece_all, piece_joins}
use Rattle.vx_frame.proofs.slices.names_other.Goals as goal

pub returns-then-is_other-clause-unlike : goal.returns-then-is_other-clause-unlike
returns-then-is_other-clause-unlike c = λ all.
    let q = c.args.picture.now in
    c.if-is_other.ensures.unlike (subst (AllByRecursion (λ x. c.args.first ≡ Some x)) c.named_at.ensures (piece_all (λ x. c.args.first ≡ Some x) (collocated_by q) q.slices c.loop-i.i all))

pub loop-i-preserved : goal.loop-i-preserved
loop-i-preserved c =
    let q = c.args.picture.now in
    piece_joins (λ x. c.args.first ≡ Some x) (collocated_by q) q.slices c.loop-i.i c.loop-i.invariant (subst (AllByRecursion (λ x. c.args.first ≡ Some x)) (sym c.named_at.ensures) c.if-is_other.ensures.alike)

pub returns-clause-alike : goal.returns-clause-alike
returns-clause-alike c =
    let q = c.args.picture.now in
    all_pieces (λ x. c.args.first ≡ Some x) (collocated_by q) q.slices c.loop-i.i (omega arith) c.loop-i.invariant
