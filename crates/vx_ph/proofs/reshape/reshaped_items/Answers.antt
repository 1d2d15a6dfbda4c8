-- What is made is the rewritten header, and it never comes that there is none.
use Rattle.vx_ph.proofs.Reshaping.{reshapes}
use Rattle.vx_ph.proofs.reshape.reshaped_items.Goals as goal

pub returns-in-Ok : goal.returns-in-Ok
returns-in-Ok c =
    rw c.in-Ok.is at (reshapes c.args.source.now c.args.shape.now c.args.sps.now c.args.pps.now c.requires.shape c.requires.source c.put_together.new.into c.put_together.result c.in_ok-kept.ensures c.in_ok-stated.ensures c.in_force.ensures
    (rw c.table.ensures at c.put_together.ensures))

pub only_memory-requires : goal.only_memory-requires
only_memory-requires c = λ none.
    rw (c.in-Err.is, none) at (reshapes c.args.source.now c.args.shape.now c.args.sps.now c.args.pps.now c.requires.shape c.requires.source c.put_together.new.into c.put_together.result c.in_ok-kept.ensures
    c.in_ok-stated.ensures c.in_force.ensures (rw c.table.ensures at c.put_together.ensures))
