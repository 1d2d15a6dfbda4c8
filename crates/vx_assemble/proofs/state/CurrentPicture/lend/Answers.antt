use Rattle.std.proofs.Common.{◌∙◌, ap, refl}
use Rattle.vx_assemble.proofs.Lending.{makes_picture}
use Rattle.vx_assemble.proofs.state.CurrentPicture.lend.Goals as goal

pub of-requires : goal.of-requires
of-requires c =
    makes_picture _ c.args.self.now c.in-Going.going c.requires.order c.requires.complete c.in-Going.is refl
    (c.value.ensures ∙ ap (λ s. s.sps) c.value-sets.ensures) (c.value-2.ensures ∙ ap (λ s. s.pps) c.value-sets.ensures)
    (ap (λ s. s.layout) c.value-sets.ensures) refl (ap (λ s. s.ids) c.value-sets.ensures) c.as_slice.ensures refl refl refl
