use Rattle.vx_pps.proofs.Division.{grid_of}
use Rattle.vx_pps.proofs.reshape.push_tile_flags.Goals as goal

pub count-requires : goal.count-requires
count-requires c = grid_of c.args.shape.now c.requires
