use Rattle.vx_table.proofs.Writings.{writes, leads}
use Rattle.vx_table.proofs.parts.write_parts.Goals as goal

pub returns : goal.returns
returns c = record {
  answer = writes c.code_parts.new.scope c.code_parts.result c.code_parts.ensures;
  scope = leads c.code_parts.new.scope c.code_parts.result c.code_parts.ensures;
}
