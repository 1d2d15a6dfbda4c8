use Rattle.std.proofs.Common.{subst}
use Rattle.vx_sps.specs.Reshaped.{IsShape}
use Rattle.vx_vectors.proofs.reshaped_sps.write_rewritten.Goals as goal

pub rewritten-requires : goal.rewritten-requires
rewritten-requires c = subst (λ n. IsShape n c.args.shape.now) c.ctb.ensures c.if-not-is_shape.ensures
