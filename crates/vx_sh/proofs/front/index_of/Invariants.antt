use Rattle.std.proofs.Common.{◌≡◌, ◌+◌, length}
use Rattle.vx_sh.specs.Whole as whole
use Rattle.vx_sh.proofs.front.index_of.Given as goal

-- the id stands as far behind as among the ids left
abbrev pub invariant-loop-known : goal.invariant-loop-known
invariant-loop-known l =
    (l.index + length l.left ≡ length l.ids) × (l.index + whole.index_of l.id l.left ≡ whole.index_of l.id l.ids)

abbrev pub decreases-loop-known : goal.decreases-loop-known
decreases-loop-known l = length l.left
