use Rattle.std.proofs.Common.{◌∙◌, refl, arith}
use Rattle.vx_bits.proofs.Appending.{shift_fits, word_below, put_is}
use Rattle.vx_bits.proofs.writer.BitWriter.put.Goals as goal

pub append-begun-requires-clause-range : goal.append-begun-requires-clause-range
append-begun-requires-clause-range c =
    let fits = shift_fits c.self.inside.used c.args.zeros c.self.inside.begun c.self.invariant.1 (omega arith) in
    rw (c.from.ensures, fits.0) fits.1

pub append-self-inside-requires-clause-range : goal.append-self-inside-requires-clause-range
append-self-inside-requires-clause-range c =
    rw c.from-2.ensures (word_below _ c.args.n c.append-begun.result c.args.value c.append-begun.ensures.range c.requires.range (omega arith))

pub returns-clause-ok : goal.returns-clause-ok
returns-clause-ok c =
    rw (← c.self.view_is)
    (put_is _ _ _ c.self.inside.used c.args.zeros c.args.n c.self.inside.begun c.args.value c.append-begun.result c.self.invariant.0 c.requires.zeros c.requires.width c.self.invariant.1 c.requires.range
    c.append-begun.ensures.range
    (c.append-begun.ensures.value ∙ rw (c.reserve.ensures.items, c.from.ensures) refl)
    (c.append-self-inside.ensures.value ∙ rw c.from-2.ensures refl))
