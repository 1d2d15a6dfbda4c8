use Rattle.std.proofs.Common.{◌≡◌, ℕ, below_more, sym, subst, arith}
use Rattle.vx_fit.specs.FrameLines.{HasBound, corner_at, part_at}
use Rattle.vx_fit.proofs.Lined.{part_read}
use Rattle.vx_fit.proofs.lines.is_vertical.Goals as goal

pub loop-k-preserved : goal.loop-k-preserved
loop-k-preserved c =
    let corners = c.args.corners.now in
    let parts = c.args.parts.now in
    let k : ℕ = c.loop-k.k in
    let is : c.index-parts-k.result ≡ part_at parts k = part_read parts k c.index-parts-k.result (omega arith) c.index-parts-k.is in
    below_more (λ j. ¬ HasBound (corner_at corners j).x (part_at parts j).columns c.args.n) k c.loop-k.invariant
    (λ bound. c.if-has_column.ensures.none (subst (λ p. HasBound (corner_at corners k).x p.columns c.args.n) (sym is) bound))

pub returns-clause-none : goal.returns-clause-none
returns-clause-none c = λ line. c.loop-k.invariant line.0 (omega (arith, line.1)) line.2
