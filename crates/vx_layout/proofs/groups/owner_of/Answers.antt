use Rattle.std.proofs.Common.{false, arith, refl, sym}
use Rattle.std.proofs.lemmas.Bool.{both_ways}
use Rattle.vx_layout.proofs.Owners.{no_owner-outside, IsOwner-from, no_owner}
use Rattle.vx_layout.proofs.groups.owner_of.Goals as goal

pub returns-then-not-has : goal.returns-then-not-has
returns-then-not-has c =
    no_owner-outside _ _ _ _ c.requires.some.0 c.requires.some.1 c.requires.parts (λ v u. both_ways false refl (c.if-not-has.ensures.1 (v, u)))

pub returns-then-fits : goal.returns-then-fits
returns-then-fits c = IsOwner-from _ _ _ _ _ _ c.at.result c.requires.owners c.requires.some.0 c.requires.some.1 (omega arith) (omega arith) c.at.ensures c.item.ensures.index (sym c.if-fits.ensures)

pub returns-else-fits : goal.returns-else-fits
returns-else-fits c = no_owner _ _ _ _ _ _ c.at.result c.requires.owners c.requires.some.0 c.requires.some.1 (omega arith) (omega arith) c.at.ensures c.item.ensures.index (sym c.if-fits.ensures)
