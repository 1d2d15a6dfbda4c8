use Rattle.vx_run.proofs.Taking.{have_slices}
use Rattle.vx_run.proofs.extract.pictures_have_slices.Goals as goal

pub returns : goal.returns
returns c R of = have_slices c.subpictures_have_slices.ensures.some c.subpictures_have_slices.ensures.shown R of
