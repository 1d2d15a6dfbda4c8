use Rattle.vx_again.proofs.Planned.{are_planned}
use Rattle.vx_again.proofs.laws_streams.merged_are_planned.Goals as goal

pub returns : goal.returns
returns c = are_planned c.merged_units_are_read.ensures c.merged_is_whole.ensures c.merged_sends_its_sets.ensures c.merged_has_its_bodies.ensures c.merged_is_alike.ensures c.set_units_are_read.ensures.sets
    c.set_units_are_read.ensures.messages
