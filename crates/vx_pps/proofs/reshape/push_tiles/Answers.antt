use Rattle.vx_pps.proofs.Division.{grid_of}
use Rattle.vx_pps.proofs.reshape.push_tiles.Goals as goal

pub across-requires : goal.across-requires
across-requires c = grid_of c.args.shape.now c.requires

pub down-requires : goal.down-requires
down-requires c = grid_of c.args.shape.now c.requires
