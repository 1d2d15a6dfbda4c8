use Rattle.vx_table.proofs.PassingOver.{passes, passes_to}
use Rattle.vx_table.proofs.passing.pass_parts.Goals as goal

pub returns : goal.returns
returns c = record {
  answer = passes c.code_parts.new.scope c.code_parts.result c.code_parts.ensures;
  scope = passes_to c.code_parts.new.scope c.code_parts.result c.code_parts.ensures;
}
