use Rattle.vx_layout.specs.Frames.{Fills, IsPlaced}
use Rattle.vx_layout.proofs.FrameSlices.{AllZip-from}
use Rattle.vx_layout.proofs.laws_frames.pictures_by_index.Goals as goal

pub returns-clause-fill : goal.returns-clause-fill
returns-clause-fill c = AllZip-from Fills

pub returns-clause-placed : goal.returns-clause-placed
returns-clause-placed c = λ columns rows. AllZip-from (IsPlaced columns rows)
