use Rattle.vx_table.proofs.Readings.{front_is}
use Rattle.vx_sps.proofs.read.read_sps_fields.Goals as goal

pub returns : goal.returns
returns c =
    let start = front_is c.new-bits.result c.args.rbsp.now c.new-bits.ensures.total c.new-bits.ensures.left in
    (c.read_fields.new.bits, rw start at c.read_fields.ensures)
