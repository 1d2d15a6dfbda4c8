use Rattle.vx_table.proofs.Keepings.{keeps, leads}
use Rattle.vx_table.proofs.kept.keep_parts.Goals as goal

pub returns : goal.returns
returns c = record {
  answer = keeps c.code_parts.new.scope c.code_parts.result c.code_parts.ensures;
  scope = leads c.code_parts.new.scope c.code_parts.result c.code_parts.ensures;
}
