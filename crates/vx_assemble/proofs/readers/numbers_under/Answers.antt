use Rattle.std.proofs.Common.{◌∙◌, ap, refl}
use Rattle.vx_assemble.proofs.ReadUnder.{numbers_of}
use Rattle.vx_assemble.proofs.readers.numbers_under.Goals as goal

pub returns-clause-under : goal.returns-clause-under
returns-clause-under c head =
    numbers_of _ c.args.begun.now head c.requires (c.value-sps.ensures ∙ ap (λ s. s.sps) c.value-sets.ensures) (c.value-pps.ensures ∙ ap (λ s. s.pps) c.value-sets.ensures)
    (ap (λ s. s.layout) c.value-sets.ensures) refl (ap (λ s. s.ids) c.value-sets.ensures)
