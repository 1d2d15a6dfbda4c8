use Rattle.vx_pps.proofs.Division.{grid_of}
use Rattle.vx_pps.proofs.reshape.push_slices.Goals as goal

pub push_list-requires-clause-grid : goal.push_list-requires-clause-grid
push_list-requires-clause-grid c = grid_of c.args.shape.now c.requires
