use Rattle.std.proofs.Common.{◌∷◌, inl, inr, sym, ◌∙◌}
use Rattle.vx_run.proofs.Made.{vps_shown, vps_there, sps_shown, sps_there, pps_shown, pps_there, aps_shown, nothing_shown, done_shown}
use Rattle.vx_run.proofs.show.set_numbers.Goals as goal

pub returns-in_err-sps-in-Sps : goal.returns-in_err-sps-in-Sps
returns-in_err-sps-in-Sps c R of g units r before fed told =
    absurd (sps_there r before c.in-Sps.id (sym c.in-Sps.is ∙ told) (rw c.in_err-sps-in-Sps.was at c.sps.ensures (r ∷ before) fed.stands))

pub returns-in_err-pps-in-Pps : goal.returns-in_err-pps-in-Pps
returns-in_err-pps-in-Pps c R of g units r before fed told =
    absurd (pps_there r before c.in-Pps.id (sym c.in-Pps.is ∙ told) (rw c.in_err-pps-in-Pps.was at c.pps.ensures (r ∷ before) fed.stands))

pub returns-in_err-fields-in-Vps : goal.returns-in_err-fields-in-Vps
returns-in_err-fields-in-Vps c R of g units r before fed told =
    absurd (vps_there r before (sym c.in-Vps.is ∙ told) (rw c.in_err-fields-in-Vps.was at c.fields.ensures.taken r before fed.stands told))

pub returns-in_ok-fields-in-Vps : goal.returns-in_ok-fields-in-Vps
returns-in_ok-fields-in-Vps c R of g units r before fed told =
    vps_shown r before c.in_ok-fields-in-Vps.field-0.now c.of_vps.result (sym c.in-Vps.is ∙ told) c.of_vps.ensures
    (rw c.in_ok-fields-in-Vps.was at c.fields.ensures.taken r before fed.stands told)

pub returns-in_ok-sps-in-Sps : goal.returns-in_ok-sps-in-Sps
returns-in_ok-sps-in-Sps c R of g units r before fed told =
    sps_shown r before c.in-Sps.id c.in_ok-sps-in-Sps.field-0.now c.of_sps.result (sym c.in-Sps.is ∙ told) c.of_sps.ensures
    (rw c.in_ok-sps-in-Sps.was at c.sps.ensures (r ∷ before) fed.stands)

pub returns-in_ok-pps-in-Pps : goal.returns-in_ok-pps-in-Pps
returns-in_ok-pps-in-Pps c R of g units r before fed told =
    pps_shown r before c.in-Pps.id c.in_ok-pps-in-Pps.field-0.now c.of_pps.result (sym c.in-Pps.is ∙ told) c.of_pps.ensures
    (rw c.in_ok-pps-in-Pps.was at c.pps.ensures (r ∷ before) fed.stands)

pub returns-in-Aps : goal.returns-in-Aps
returns-in-Aps c R of g units r before fed told = aps_shown r before c.in-Aps.kind c.in-Aps.id (sym c.in-Aps.is ∙ told)

pub returns-in-Nothing : goal.returns-in-Nothing
returns-in-Nothing c R of g units r before fed told =
    elim c.in-Nothing.is [ inl is ↦ nothing_shown r before (sym is ∙ told) | inr is ↦ done_shown r before (sym is ∙ told) ]
