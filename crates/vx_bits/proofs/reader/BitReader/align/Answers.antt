use Rattle.std.proofs.Common.{refl, sym, ◌∙◌}
use Rattle.vx_bits.proofs.Alignment.{align_takes, align_clean, align_dirty, align_others}
use Rattle.vx_bits.proofs.reader.BitReader.align.Goals as goal

pub returns-then-next_bits-ne0-clause-bad : goal.returns-then-next_bits-ne0-clause-bad
returns-then-next_bits-ne0-clause-bad c = (
  λ is. align_dirty c.to_next_byte-count.result c.args.self.now c.to_next_byte-count.ensures.value (λ zero. c.if-next_bits-ne0.true (c.next_bits.ensures.value ∙ zero)),
  λ ones. (cc),
)

pub returns-then-next_bits-ne0-clause-others : goal.returns-then-next_bits-ne0-clause-others
returns-then-next_bits-ne0-clause-others c =
    align_others c.to_next_byte-count.result c.args.self.now c.to_next_byte-count.ensures.value (λ zero. c.if-next_bits-ne0.true (c.next_bits.ensures.value ∙ zero))

pub returns-clause-value : goal.returns-clause-value
returns-clause-value c =
    align_takes _ _ _ c.to_next_byte-count.ensures.value c.to_next_byte-count.ensures.within (sym c.next_bits.ensures.value ∙ c.if-next_bits-ne0.false) (c.read_bits.ensures.left ∙ rw c.next_bits.ensures.same refl) (c.read_bits.ensures.total ∙ rw c.next_bits.ensures.same refl)

pub returns-clause-bad : goal.returns-clause-bad
returns-clause-bad c = (
  λ is. cc,
  λ ones. absurd (align_clean c.to_next_byte-count.result c.args.self.now c.to_next_byte-count.ensures.value c.to_next_byte-count.ensures.within (sym c.next_bits.ensures.value ∙ c.if-next_bits-ne0.false) ones),
)
