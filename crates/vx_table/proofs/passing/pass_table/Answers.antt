use Rattle.vx_table.proofs.PassingOver.{passes, passes_to}
use Rattle.vx_table.proofs.passing.pass_table.Goals as goal

pub returns : goal.returns
returns c = record {
  answer = passes c.code_table.new.scope c.code_table.result c.code_table.ensures;
  scope = passes_to c.code_table.new.scope c.code_table.result c.code_table.ensures;
}
