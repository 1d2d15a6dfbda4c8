use Rattle.vx_table.proofs.Readings.{front_is}
use Rattle.vx_pps.proofs.Sets.{fields_ended, fields_refused}
use Rattle.vx_pps.proofs.read.read_pps_fields.Goals as goal

pub returns-in-Ok : goal.returns-in-Ok
returns-in-Ok c =
    let start = front_is c.new-bits.result c.args.rbsp.now c.new-bits.ensures.total c.new-bits.ensures.left in
    fields_ended c.args.rbsp.now c.args.into.now c.in-Ok.field-0 c.code_pps.new.coder c.code_pps.new.items (rw (start, c.in-Ok.is) at c.code_pps.ensures)

pub returns : goal.returns
returns c =
    let start = front_is c.new-bits.result c.args.rbsp.now c.new-bits.ensures.total c.new-bits.ensures.left in
    let walked = rw (start, c.in-Err-Refused.is, c.in-Err-Refused.field-0-is) at c.code_pps.ensures in
    rw c.in-Err-Refused.error-is (fields_refused c.args.rbsp.now c.args.into.now c.in-Err-Refused.error c.code_pps.new.coder c.code_pps.new.items walked)
