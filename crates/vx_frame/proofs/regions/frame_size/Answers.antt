use Rattle.std.proofs.Common.{length, sym, subst, Some}
use Rattle.vx_frame.specs.Rules.{rules_of_fit}
use Rattle.vx_frame.specs.inner.Found.{Finds}
use Rattle.vx_frame.proofs.Fitted.{fits_found, misfit_found}
use Rattle.vx_frame.proofs.regions.frame_size.Goals as goal

pub returns-in-Ok : goal.returns-in-Ok
returns-in-Ok c = (
  fits_found c.args.placed.now c.args.ctb c.fit_fault_is_one.ensures.none c.in-Ok.ensures.fit,
  record { width = c.in-Ok.ensures.size.0; height = c.in-Ok.ensures.size.1; fit = c.in-Ok.ensures.fit },
)

pub returns-in-Err : goal.returns-in-Err
returns-in-Err c =
    subst (λ r. Finds (length c.args.placed.now) (rules_of_fit c.args.placed.now c.args.ctb) (Some r)) (sym c.fit_refusal.ensures)
    (misfit_found c.args.placed.now c.args.ctb c.in-Err.fault c.requires.count.0 c.fit_fault_is_one.ensures.one c.in-Err.ensures.fault)
