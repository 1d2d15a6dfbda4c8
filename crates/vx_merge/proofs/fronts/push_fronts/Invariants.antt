use Rattle.std.proofs.Common.{◌++◌, ℕ, List, map, take}
use Rattle.vx_pic.specs.Parts.{SlicePart}
use Rattle.vx_pic.specs.Readings.{Begun}
use Rattle.vx_frame.specs.Rounds.{picture_at}
use Rattle.vx_merge.specs.inner.Fronts.{AreFronts, IsBegun}
use Rattle.vx_merge.proofs.fronts.push_fronts.Given as goal

abbrev pub invariant-loop-i : goal.invariant-loop-i
invariant-loop-i l = (b : Begun) (before : List (ℕ × SlicePart)) → IsBegun l.round l.needed l.sender.header.now l.sender.layout.now b
    → AreFronts l.round l.needed b before (map (λ f. f.items) l.fn.fronts.items)
    → AreFronts l.round l.needed b (before ++ map (λ s. (l.k, s)) (take l.i (picture_at l.round l.k).slices))
    (map (λ f. f.items) l.fronts.items)
