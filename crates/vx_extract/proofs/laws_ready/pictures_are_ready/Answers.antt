use Rattle.vx_extract.proofs.ReadyPictures.{pictures_ready}
use Rattle.vx_extract.proofs.laws_ready.pictures_are_ready.Goals as goal

pub returns : goal.returns
returns c = pictures_ready c.pictures_are_in_force.ensures c.pictures_have_their_readings.ensures c.subpictures_have_slices.ensures.all
