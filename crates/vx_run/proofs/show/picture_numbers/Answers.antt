use Rattle.std.proofs.Common.{◌∷◌, ◌∙◌}
use Rattle.vx_run.proofs.Made.{picture_shown, numbers_same}
use Rattle.vx_run.proofs.show.picture_numbers.Goals as goal

pub returns : goal.returns
returns c R of g units r before fed told count =
    picture_shown r before _ told (λ p done. c.of.ensures ∙ numbers_same r before p _ _ count done (c.picture.ensures.shows R g units (r ∷ before) fed))
