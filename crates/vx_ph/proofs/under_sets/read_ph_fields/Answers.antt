use Rattle.vx_ph.proofs.under_sets.read_ph_fields.Goals as goal

pub returns : goal.returns
returns c = rw (c.table.ensures, c.in_force.ensures) at c.read_fields.ensures
