use Rattle.vx_vectors.proofs.Divided.{same_layout}
use Rattle.vx_vectors.proofs.reshaped_pps.write_like.Goals as goal

pub write_source-requires-clause-layout : goal.write_source-requires-clause-layout
write_source-requires-clause-layout c = same_layout _ _ _ _ _ c.in_ok-like.ensures.sps c.in_ok-like.ensures.pps c.in_ok-like.ensures.layout
