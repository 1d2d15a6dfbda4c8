use Rattle.vx_fit.specs.FrameLines.{IsVertical}
use Rattle.vx_fit.proofs.Lined.{AreBounds-from, LinesBelow-may, LinesBelow-more, vertical_upto}
use Rattle.vx_fit.proofs.lines.vertical_lines.Goals as goal

pub push_where-requires : goal.push_where-requires
push_where-requires c =
    let corners = c.args.corners.now in
    let parts = c.args.parts.now in
    λ line. LinesBelow-may (IsVertical corners parts) c.loop-n.bounds c.loop-n.n (c.requires.left) c.loop-n.invariant

pub loop-n-preserved : goal.loop-n-preserved
loop-n-preserved c =
    let corners = c.args.corners.now in
    let parts = c.args.parts.now in
    LinesBelow-more (IsVertical corners parts) c.loop-n.bounds c.push_where.new.bounds c.loop-n.n c.is_vertical.result c.is_vertical.ensures.line c.is_vertical.ensures.none (c.requires.left) c.loop-n.invariant c.in_ok-push_where.ensures

pub returns : goal.returns
returns c =
    let corners = c.args.corners.now in
    let parts = c.args.parts.now in
    AreBounds-from (IsVertical corners parts) c.loop-n.bounds c.right_end-n-end.result c.loop-n.n c.loop-n-test.false
    (λ m line. vertical_upto corners parts c.right_end-n-end.result m c.requires.sized c.right_end-n-end.ensures.reach line)
    c.loop-n.invariant
