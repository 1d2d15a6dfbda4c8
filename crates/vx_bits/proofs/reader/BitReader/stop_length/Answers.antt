use Rattle.std.proofs.Common.{◌-◌, sym, ◌∙◌, arith}
use Rattle.vx_bits.proofs.Bits.{shifted_one}
use Rattle.vx_bits.proofs.Alignment.{stop_begins, stop_others}
use Rattle.vx_bits.proofs.reader.BitReader.stop_length.Goals as goal

pub returns-then-next_bits-count-clause-value : goal.returns-then-next_bits-count-clause-value
returns-then-next_bits-count-clause-value c =
    let one = shifted_one (c.past_next_one-count.result - 1) (omega (arith, c.past_next_one-count.ensures.few.1)) in (
      c.past_next_one-count.ensures.value,
      stop_begins _ _ c.past_next_one-count.ensures.value (c.past_next_one-count.ensures.within c.requires) (sym c.next_bits.ensures.value ∙ c.if-next_bits-count.true ∙ one),
    )

pub returns-else-next_bits-count-clause-value : goal.returns-else-next_bits-count-clause-value
returns-else-next_bits-count-clause-value c =
    let one = shifted_one (c.past_next_one-count.result - 1) (omega (arith, c.past_next_one-count.ensures.few.1)) in
    stop_others c.past_next_one-count.result _ c.past_next_one-count.ensures.value (λ word. c.if-next_bits-count.false (c.next_bits.ensures.value ∙ word ∙ sym one))
