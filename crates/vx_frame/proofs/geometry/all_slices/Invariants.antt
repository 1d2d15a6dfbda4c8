use Rattle.std.proofs.Common.{◌≡◌, map, take}
use Rattle.vx_layout.specs.Frames.{frame_slices}
use Rattle.vx_frame.proofs.geometry.all_slices.Given as goal

abbrev pub invariant-loop-k : goal.invariant-loop-k
invariant-loop-k l = l.slices ≡ frame_slices (take l.k l.corners) (map (λ p. p.slices) (take l.k l.pictures))
