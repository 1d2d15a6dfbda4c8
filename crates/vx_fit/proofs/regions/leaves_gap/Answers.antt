use Rattle.std.proofs.Common.{◌≡◌, ◌*◌, eqb, not, refl, sym, ◌∙◌}
use Rattle.std.proofs.lemmas.Bool.{OnFalse_from, OnTrue_from, eqb-false, eqb-true, not-false, not-true}
use Rattle.vx_fit.specs.FitFaults.{HasGap}
use Rattle.vx_fit.specs.Placing.{IsFilled, frame_height, frame_width}
use Rattle.vx_fit.proofs.Areas.{filled_fails, filled_tells}
use Rattle.vx_fit.proofs.regions.leaves_gap.Goals as goal

pub returns-clause-gap : goal.returns-clause-gap
returns-clause-gap c =
    let placed = c.args.placed.now in
    let size : c.from.result * c.from-2.result ≡ frame_width placed * frame_height placed = rw (c.from.ensures, c.from-2.ensures, c.requires.frame.0, c.requires.frame.1) refl in
    OnTrue_from (not (eqb c.areas.result (c.from.result * c.from-2.result))) (HasGap placed)
    (λ other. filled_fails placed c.requires.apart (λ full. eqb-false _ _ (not-true _ other) (c.areas.ensures ∙ (full ∙ sym size))))

pub returns-clause-filled : goal.returns-clause-filled
returns-clause-filled c =
    let placed = c.args.placed.now in
    let size : c.from.result * c.from-2.result ≡ frame_width placed * frame_height placed = rw (c.from.ensures, c.from-2.ensures, c.requires.frame.0, c.requires.frame.1) refl in
    OnFalse_from (not (eqb c.areas.result (c.from.result * c.from-2.result))) (IsFilled placed)
    (λ same. filled_tells placed c.requires.apart (sym c.areas.ensures ∙ (eqb-true _ _ (not-false _ same) ∙ size)))
