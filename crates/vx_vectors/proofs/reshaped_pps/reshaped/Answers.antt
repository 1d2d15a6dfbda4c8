use Rattle.std.proofs.Common.{rules}
use Rattle.vx_vectors.proofs.reshaped_pps.reshaped.Goals as goal

pub reshape_pps-requires : goal.reshape_pps-requires
reshape_pps-requires c = record {
  id = search rules;
  sps_id = search rules;
  width = search rules;
  height = search rules;
  subpic_id = search rules;
  init_qp = search rules;
  divided = c.requires;
}
