use Rattle.vx_table.proofs.PassingOver.{passes, passes_to}
use Rattle.vx_ph.proofs.pps_id.pass_to_id.Goals as goal

pub returns : goal.returns
returns c = record {
  answer = passes c.code_to_id.new.scope c.code_to_id.result c.code_to_id.ensures;
  scope = passes_to c.code_to_id.new.scope c.code_to_id.result c.code_to_id.ensures;
}
