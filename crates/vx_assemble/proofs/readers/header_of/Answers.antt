use Rattle.std.proofs.Common.{true, false}
use Rattle.vx_pic.specs.Rules.{Readers}
use Rattle.vx_pic.specs.H266.{AreOfH266}
use Rattle.vx_assemble.proofs.Answers.{gives_header, gives_unit}
use Rattle.vx_assemble.proofs.readers.header_of.Goals as goal

pub returns-then-not-inside-clause-answer : goal.returns-then-not-inside-clause-answer
returns-then-not-inside-clause-answer c = λ (R : Readers) (are : AreOfH266 R).
    let read = rw (c.table.ensures, c.requires.scope) at c.read_unit_at.ensures.answer in
    rw c.if-not-inside.true (gives_unit c.args.sps.now c.args.pps.now c.args.rbsp.now (R.header false c.args.sps.now c.args.pps.now c.args.rbsp.now) c.read_unit_at.result
    (are.header false c.args.sps.now c.args.pps.now c.args.rbsp.now) read)

pub returns-clause-answer : goal.returns-clause-answer
returns-clause-answer c = λ (R : Readers) (are : AreOfH266 R).
    let read = rw (c.table-2.ensures, c.requires.scope) at c.read_header_at.ensures.answer in
    rw c.if-not-inside.false (gives_header c.args.sps.now c.args.pps.now c.args.rbsp.now c.header_bits-bits.result c.read_header_at.new.bits
    (R.header true c.args.sps.now c.args.pps.now c.args.rbsp.now) c.read_header_at.result c.header_bits-bits.ensures (are.header true c.args.sps.now c.args.pps.now c.args.rbsp.now) read)
