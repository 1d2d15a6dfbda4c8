use Rattle.vx_merge.proofs.PpsIds.{free_taken, held_taken, low_answer}
use Rattle.vx_merge.proofs.needed.taken_pps_id.Goals as goal

pub returns-in-Some-clause-low : goal.returns-in-Some-clause-low
returns-in-Some-clause-low c = c.in-Some.ensures.in_range

pub returns-in-Some-clause-taken : goal.returns-in-Some-clause-taken
returns-in-Some-clause-taken c = λ sent last.
    held_taken c.args.slots.now c.args.temporal_id c.args.pps.now c.requires sent last c.in-Some.id c.in-Some.ensures

pub returns-in-None-clause-low : goal.returns-in-None-clause-low
returns-in-None-clause-low c = rw c.unwrap_or.ensures (low_answer c.args.slots.now c.empty_pps_id.result c.empty_pps_id.ensures)

pub returns-in-None-clause-taken : goal.returns-in-None-clause-taken
returns-in-None-clause-taken c = λ sent last.
    rw c.unwrap_or.ensures (free_taken c.args.slots.now c.args.temporal_id c.args.pps.now c.requires sent last c.in-None.ensures c.empty_pps_id.result c.empty_pps_id.ensures)
