use Rattle.std.proofs.Common.{◌≡◌, length}
use Rattle.vx_table.specs.Rewritten.{other_items}
use Rattle.vx_table.proofs.sender.pass_named.Given as goal

-- the same items of other fields are left
abbrev pub invariant-loop-item : goal.invariant-loop-item
invariant-loop-item g l = (l.behind ≡ l.items) × (other_items g.N.FieldSet.names l.items ≡ other_items g.N.FieldSet.names l.fn.items)

abbrev pub decreases-loop-item : goal.decreases-loop-item
decreases-loop-item g l = length l.behind
