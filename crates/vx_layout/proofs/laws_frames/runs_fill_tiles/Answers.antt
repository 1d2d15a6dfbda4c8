use Rattle.vx_layout.proofs.TileRuns.{runs-fill}
use Rattle.vx_layout.proofs.laws_frames.runs_fill_tiles.Goals as goal

pub returns : goal.returns
returns c = runs-fill
