use Rattle.vx_table.proofs.Writings.{writes, leads}
use Rattle.vx_table.proofs.writer.write_table.Goals as goal

pub returns : goal.returns
returns c = record {
  answer = writes c.code_table.new.scope c.code_table.result c.code_table.ensures;
  scope = leads c.code_table.new.scope c.code_table.result c.code_table.ensures;
}
