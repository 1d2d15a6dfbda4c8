use Rattle.vx_table.proofs.Readings.{front_is}
use Rattle.vx_pps.proofs.Sets.{read_ended, read_halted, read_is, read_refused}
use Rattle.vx_pps.proofs.read.read_pps.Goals as goal

pub set_of-requires-clause-set : goal.set_of-requires-clause-set
set_of-requires-clause-set c =
    let start = front_is c.new-bits.result c.args.rbsp.now c.new-bits.ensures.total c.new-bits.ensures.left in
    read_is c.args.rbsp.now c.in-Ok.partition c.code_pps.new.coder c.code_pps.new.items (rw (start, c.new-fields.ensures, c.in-Ok.is) at c.code_pps.ensures)

pub set_of-requires-clause-read : goal.set_of-requires-clause-read
set_of-requires-clause-read c =
    let start = front_is c.new-bits.result c.args.rbsp.now c.new-bits.ensures.total c.new-bits.ensures.left in
    read_ended c.args.rbsp.now c.in-Ok.partition c.code_pps.new.coder c.code_pps.new.items (rw (start, c.new-fields.ensures, c.in-Ok.is) at c.code_pps.ensures)

pub returns-in-Ok-set_of : goal.returns-in-Ok-set_of
returns-in-Ok-set_of c =
    let start = front_is c.new-bits.result c.args.rbsp.now c.new-bits.ensures.total c.new-bits.ensures.left in
    rw c.in-Ok-set_of.ensures (read_ended c.args.rbsp.now c.in-Ok.partition c.code_pps.new.coder c.code_pps.new.items (rw (start, c.new-fields.ensures, c.in-Ok.is) at c.code_pps.ensures))

pub returns-in-Ok : goal.returns-in-Ok
returns-in-Ok c = read_halted c.args.rbsp.now

pub returns-in-Err-Memory : goal.returns-in-Err-Memory
returns-in-Err-Memory c = read_halted c.args.rbsp.now

pub returns : goal.returns
returns c =
    let start = front_is c.new-bits.result c.args.rbsp.now c.new-bits.ensures.total c.new-bits.ensures.left in
    let walked = rw (start, c.new-fields.ensures, c.in-Err-Refused.is, c.in-Err-Refused.field-0-is) at c.code_pps.ensures in
    rw c.in-Err-Refused.error-is (read_refused c.args.rbsp.now c.in-Err-Refused.error c.code_pps.new.coder c.code_pps.new.items walked)
