use Rattle.vx_extract.proofs.AgainPlanned.{planned_again}
use Rattle.vx_extract.proofs.laws.extracted_are_planned.Goals as goal

pub returns : goal.returns
returns c = λ R target level pictures done of finished all were. planned_again R of target c.sets_tell_partitions.ensures c.extracted_units_are_read.ensures c.extracted_is_whole.ensures
    c.extracted_sends_its_sets.ensures.sets c.extracted_sends_its_sets.ensures.counts c.extracted_has_its_bodies.ensures c.set_units_are_read.ensures.sets c.set_units_are_read.ensures.messages level
    c.edits_are_planned.ensures pictures done finished all were
