use Rattle.std.proofs.Common.{◌≡◌, false, ◌∙◌, sym, subst}
use Rattle.vx_pps.specs.Slices.{may_be_cut}
use Rattle.vx_pps.specs.inner.Walked.{halted}
use Rattle.vx_pps.proofs.Turning.{cut-not, slices-whole}
use Rattle.vx_pps.proofs.list.code_slices.Goals as goal

pub returns-in-Ok : goal.returns-in-Ok
returns-in-Ok g c =
    let whole = sym c.may_be_cut.ensures ∙ c.if-may_be_cut.false in
    let not_cut = cut-not c.args.tiles.now c.args.tile c.args.size.0 c.args.size.1 (subst (λ r. may_be_cut c.args.size.0 c.args.size.1 r ≡ false) c.block-rect.ensures whole) in
    rw (c.in-Ok.ensures.ok, c.block-rect.ensures) (slices-whole c.args.tiles.now c.args.last c.args.tile c.args.size.0 c.args.size.1 c.args.slices.now not_cut)

pub returns-in-Err : goal.returns-in-Err
returns-in-Err g c = halted
