use Rattle.vx_bits.proofs.Golomb.{zeros_counted}
use Rattle.vx_bits.proofs.reader.BitReader.zeros.Goals as goal

pub overflow_sub-result-2 : goal.overflow_sub-result-2
overflow_sub-result-2 c = (zeros_counted c.args.self.now.left c.min-window.result c.next_bits.result (cc) c.next_bits.ensures.value).0

pub returns-clause-value : goal.returns-clause-value
returns-clause-value c = (zeros_counted c.args.self.now.left c.min-window.result c.next_bits.result (cc) c.next_bits.ensures.value).1
