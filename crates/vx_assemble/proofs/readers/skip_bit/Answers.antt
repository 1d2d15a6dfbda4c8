use Rattle.vx_assemble.proofs.Answers.{skipped}
use Rattle.vx_assemble.proofs.readers.skip_bit.Goals as goal

pub returns-clause-left : goal.returns-clause-left
returns-clause-left c = (skipped c.args.bits.now c.u-bit.new.self c.u-bit.result c.u-bit.ensures.value c.u-bit.ensures.short.0 c.u-bit.ensures.cause c.u-bit.ensures.unchanged).0

pub returns-clause-total : goal.returns-clause-total
returns-clause-total c = (skipped c.args.bits.now c.u-bit.new.self c.u-bit.result c.u-bit.ensures.value c.u-bit.ensures.short.0 c.u-bit.ensures.cause c.u-bit.ensures.unchanged).1
