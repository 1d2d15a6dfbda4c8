-- Unescaping and escaping undo one another.
use Rattle.std.proofs.Common.{refl, sym}
use Rattle.vx_annexb.specs.Emulation.{unescaped}
use Rattle.vx_annexb.specs.Laws.{EscapedIsInverse}
use Rattle.vx_annexb.proofs.Seam.{escaped_unique}

pub escaped_inverse : EscapedIsInverse
escaped_inverse = (λ r n e. sym e.is, λ n m rules last e. escaped_unique (unescaped n) m n e (record { rules = rules; last = last; is = refl }))
