use Rattle.std.proofs.Common.{◌≡◌, ◌+◌, ◌-◌, ◌/◌, ◌^◌, ◌++◌, ◌∷◌, [], ◌∙◌, refl, arith, vec_len}
use Rattle.std.proofs.lemmas.Nat.{pow_pos, mod_below}
use Rattle.vx_bits.proofs.Bits.{shifted_one}
use Rattle.vx_bits.proofs.Appending.{high_byte, byte_moves}
use Rattle.vx_bits.proofs.writer.append.Goals as goal

pub overflow_cast-rest : goal.overflow_cast-rest
overflow_cast-rest c = omega (arith, high_byte c.loop-left.left c.loop-left.rest c.loop-left-test.true c.loop-left.invariant.1)

pub nonzero_rem-rest : goal.nonzero_rem-rest
nonzero_rem-rest c = rw (shifted_one (c.loop-left.left - 8) (omega arith)) (pow_pos (c.loop-left.left - 8))

pub loop-left-preserved : goal.loop-left-preserved
loop-left-preserved c =
    let kept = c.loop-left.invariant in
    let pushed : c.push.new.self.items ≡ c.loop-left.bytes.items ++ c.loop-left.rest / 2 ^ (c.loop-left.left - 8) ∷ []
    = c.push.ensures.items ∙ rw c.unwrap.ensures refl in
    let grown : vec_len c.push.new.self ≡ vec_len c.loop-left.bytes + 1 = c.push.ensures.len ∙ rw c.unwrap.ensures refl in
    rw (shifted_one (c.loop-left.left - 8) (omega arith)) (
      byte_moves c.loop-left.bytes.items c.push.new.self.items c.loop-left.left c.loop-left.rest c.loop-left-test.true kept.1 pushed ∙ kept.0,
      mod_below c.loop-left.rest (2 ^ (c.loop-left.left - 8)) (pow_pos (c.loop-left.left - 8)),
      omega (arith, grown, kept.2),
      omega (arith, c.push.ensures.capacity, kept.3),
      omega arith,
    )
