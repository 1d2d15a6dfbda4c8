use Rattle.vx_frame.proofs.sets.field_at.Goals as goal

pub sps_field_at-requires-clause-kept : goal.sps_field_at-requires-clause-kept
sps_field_at-requires-clause-kept c = rw c.in-Sps.is at c.requires.kept

pub pps_field_at-requires-clause-kept : goal.pps_field_at-requires-clause-kept
pps_field_at-requires-clause-kept c = rw c.in-Pps.is at c.requires.kept

pub returns-in-Sps : goal.returns-in-Sps
returns-in-Sps c = rw c.in-Sps.is c.sps_field_at.ensures

pub returns-in-Pps : goal.returns-in-Pps
returns-in-Pps c = rw c.in-Pps.is c.pps_field_at.ensures
