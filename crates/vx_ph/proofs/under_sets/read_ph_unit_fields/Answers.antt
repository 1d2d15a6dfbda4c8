use Rattle.vx_table.proofs.Readings.{front_is}
use Rattle.vx_ph.proofs.under_sets.read_ph_unit_fields.Goals as goal

pub returns : goal.returns
returns c =
    let start = front_is c.new-bits.result c.args.rbsp.now c.new-bits.ensures.total c.new-bits.ensures.left in
    (c.read_unit.new.bits, rw (c.table.ensures, c.in_force.ensures, start) at c.read_unit.ensures)
