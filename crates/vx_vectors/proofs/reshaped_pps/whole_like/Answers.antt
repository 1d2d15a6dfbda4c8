use Rattle.vx_vectors.proofs.Divided.{not_divided}
use Rattle.vx_vectors.proofs.reshaped_pps.whole_like.Goals as goal

pub reshaped-requires : goal.reshaped-requires
reshaped-requires c zero = not_divided c.args.source.now c.shape_of-shape.result c.shape_of-shape.ensures.merged (cc) zero
