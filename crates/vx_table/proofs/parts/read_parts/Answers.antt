use Rattle.vx_table.proofs.Readings.{reads, leads}
use Rattle.vx_table.proofs.parts.read_parts.Goals as goal

pub returns : goal.returns
returns c = record {
  answer = reads c.code_parts.new.scope c.code_parts.result c.code_parts.ensures;
  scope = leads c.code_parts.new.scope c.code_parts.result c.code_parts.ensures;
}
