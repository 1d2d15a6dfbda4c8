use Rattle.std.proofs.Common.{refl, ◌∙◌, ◌-◌, arith}
use Rattle.vx_bits.proofs.Golomb.{few_zeros, long_code, short_code, whole_code_read, IsRead, ends_not_long, begins_not_ends, begins_not_long}
use Rattle.vx_bits.proofs.reader.BitReader.ue.Goals as goal

pub returns-then-zeros-eq32-clause-short : goal.returns-then-zeros-eq32-clause-short
returns-then-zeros-eq32-clause-short c = (
  λ is. cc,
  λ ends. absurd (ends_not_long c.args.self.now.left ends (long_code c.args.self.now.left _ c.zeros-zeros.ensures.value c.if-zeros-eq32.true)),
)

pub returns-then-zeros-eq32-clause-long : goal.returns-then-zeros-eq32-clause-long
returns-then-zeros-eq32-clause-long c = (
  λ is. long_code c.args.self.now.left _ c.zeros-zeros.ensures.value c.if-zeros-eq32.true,
  λ long. (cc),
)

pub overflow_mul-zeros : goal.overflow_mul-zeros
overflow_mul-zeros c = omega (arith, few_zeros c.args.self.now.left _ c.zeros-zeros.ensures.value c.if-zeros-eq32.false)

pub overflow_add-zeros : goal.overflow_add-zeros
overflow_add-zeros c = omega (arith, few_zeros c.args.self.now.left _ c.zeros-zeros.ensures.value c.if-zeros-eq32.false)

pub returns-then-left-zeros-clause-short : goal.returns-then-left-zeros-clause-short
returns-then-left-zeros-clause-short c = (
  λ is. short_code c.args.self.now.left _ c.zeros-zeros.ensures.value c.if-zeros-eq32.false (omega (arith, c.left-left.ensures, c.if-left-zeros.true, few_zeros c.args.self.now.left _ c.zeros-zeros.ensures.value c.if-zeros-eq32.false)),
  λ ends. (cc),
)

pub returns-then-left-zeros-clause-long : goal.returns-then-left-zeros-clause-long
returns-then-left-zeros-clause-long c = (
  λ is. cc,
  λ long. absurd (ends_not_long c.args.self.now.left (short_code c.args.self.now.left _ c.zeros-zeros.ensures.value c.if-zeros-eq32.false (omega (arith, c.left-left.ensures, c.if-left-zeros.true, few_zeros c.args.self.now.left _ c.zeros-zeros.ensures.value c.if-zeros-eq32.false))) long),
)

pub read_bits-code-requires-clause-count : goal.read_bits-code-requires-clause-count
read_bits-code-requires-clause-count c = omega (arith, few_zeros c.args.self.now.left _ c.zeros-zeros.ensures.value c.if-zeros-eq32.false)

pub read_bits-requires-clause-count : goal.read_bits-requires-clause-count
read_bits-requires-clause-count c = omega (arith, few_zeros c.args.self.now.left _ c.zeros-zeros.ensures.value c.if-zeros-eq32.false)

pub code : (c : goal.After-read_bits-code) → IsRead c.read_bits-code.result c.args.self.now c.read_bits-code.new.self
code c =
    whole_code_read c.zeros-zeros.result c.read_bits-code.result c.args.self.now c.read_bits.new.self c.read_bits-code.new.self c.zeros-zeros.ensures.value c.if-zeros-eq32.false (omega (arith, c.left-left.ensures, c.if-left-zeros.false, few_zeros c.args.self.now.left _ c.zeros-zeros.ensures.value c.if-zeros-eq32.false))
    (c.read_bits.ensures.left ∙ rw c.zeros-zeros.ensures.same refl) (c.read_bits.ensures.total ∙ rw c.zeros-zeros.ensures.same refl) c.read_bits-code.ensures.value c.read_bits-code.ensures.left c.read_bits-code.ensures.total

pub overflow_sub-result : goal.overflow_sub-result
overflow_sub-result c = (code c).some

pub overflow_cast-result : goal.overflow_cast-result
overflow_cast-result c = omega (arith, (code c).fits)

pub returns-clause-value : goal.returns-clause-value
returns-clause-value c = (omega (arith, (code c).fits, (code c).some), (code c).takes)

pub returns-clause-short : goal.returns-clause-short
returns-clause-short c = (
  λ is. cc,
  λ ends. absurd (begins_not_ends c.args.self.now.left (c.read_bits-code.result - 1, omega (arith, (code c).fits, (code c).some), (c.read_bits-code.new.self.left, (code c).takes.left)) ends),
)

pub returns-clause-long : goal.returns-clause-long
returns-clause-long c = (
  λ is. cc,
  λ long. absurd (begins_not_long c.args.self.now.left (c.read_bits-code.result - 1, omega (arith, (code c).fits, (code c).some), (c.read_bits-code.new.self.left, (code c).takes.left)) long),
)
