use Rattle.vx_table.proofs.Readings.{front_is}
use Rattle.vx_ptl.proofs.read.read_vps_fields.Goals as goal

pub returns : goal.returns
returns c =
    let start = front_is c.new-bits.result c.args.rbsp.now c.new-bits.ensures.total c.new-bits.ensures.left in
    (c.read_table.new.bits, rw (c.new-scope.ensures, start) at c.read_table.ensures.answer)
