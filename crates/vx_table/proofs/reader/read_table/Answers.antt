use Rattle.vx_table.proofs.Readings.{reads, leads}
use Rattle.vx_table.proofs.reader.read_table.Goals as goal

pub returns : goal.returns
returns c = record {
  answer = reads c.code_table.new.scope c.code_table.result c.code_table.ensures;
  scope = leads c.code_table.new.scope c.code_table.result c.code_table.ensures;
}
