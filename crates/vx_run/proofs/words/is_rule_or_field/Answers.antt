use Rattle.vx_run.proofs.Explaining.{found_exactly}
use Rattle.vx_run.proofs.words.is_rule_or_field.Goals as goal

pub returns : goal.returns
returns c = found_exactly c.rules_and_fields_are_explained.ensures c.args.word.now c.as_bytes.result.now c.explanation.result c.is_some.result c.as_bytes.ensures.value c.explanation.ensures c.is_some.ensures
