use Rattle.vx_table.proofs.Keepings.{keeps, leads}
use Rattle.vx_table.proofs.kept.keep_table.Goals as goal

pub returns : goal.returns
returns c = record {
  answer = keeps c.code_table.new.scope c.code_table.result c.code_table.ensures;
  scope = leads c.code_table.new.scope c.code_table.result c.code_table.ensures;
}
