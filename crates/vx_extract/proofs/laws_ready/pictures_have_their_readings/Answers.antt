use Rattle.vx_extract.proofs.ReadyReadings.{have_their_readings}
use Rattle.vx_extract.proofs.laws_ready.pictures_have_their_readings.Goals as goal

pub returns : goal.returns
returns c = have_their_readings c.pictures_are_finished.ensures
