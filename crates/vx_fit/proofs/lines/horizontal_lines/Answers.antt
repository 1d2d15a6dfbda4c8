use Rattle.vx_fit.specs.FrameLines.{IsHorizontal}
use Rattle.vx_fit.proofs.Framed.{top_line}
use Rattle.vx_fit.proofs.Lined.{AreBounds-from, LinesBelow-may, LinesBelow-more, full_upto}
use Rattle.vx_fit.proofs.lines.horizontal_lines.Goals as goal

pub push_where-requires : goal.push_where-requires
push_where-requires c =
    let corners = c.args.corners.now in
    let parts = c.args.parts.now in
    λ line. LinesBelow-may (IsHorizontal corners parts) c.loop-n.bounds c.loop-n.n (top_line corners parts c.requires.top) c.loop-n.invariant

pub loop-n-preserved : goal.loop-n-preserved
loop-n-preserved c =
    let corners = c.args.corners.now in
    let parts = c.args.parts.now in
    LinesBelow-more (IsHorizontal corners parts) c.loop-n.bounds c.push_where.new.bounds c.loop-n.n c.is_horizontal.result c.is_horizontal.ensures.line c.is_horizontal.ensures.none (top_line corners parts c.requires.top) c.loop-n.invariant c.in_ok-push_where.ensures

pub returns : goal.returns
returns c =
    let corners = c.args.corners.now in
    let parts = c.args.parts.now in
    AreBounds-from (IsHorizontal corners parts) c.loop-n.bounds c.bottom_end-n-end.result c.loop-n.n c.loop-n-test.false
    (λ m line. full_upto corners parts c.bottom_end-n-end.result m c.requires.sized c.bottom_end-n-end.ensures.reach line.0)
    c.loop-n.invariant
