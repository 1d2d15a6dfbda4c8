use Rattle.std.proofs.Common.{◌≡◌}
use Rattle.vx_frame.specs.inner.Edges.{least_of, touches}
use Rattle.vx_frame.proofs.Edging.{so_far}
use Rattle.vx_frame.proofs.shapes.least_offset.Given as goal

-- the least of the first regions
abbrev pub invariant-loop-k : goal.invariant-loop-k
invariant-loop-k l = l.least ≡ least_of (so_far (touches l.edge) l.field l.placed l.round l.k)
