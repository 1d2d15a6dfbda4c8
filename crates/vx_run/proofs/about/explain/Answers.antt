use Rattle.vx_run.proofs.Explaining.{text_there}
use Rattle.vx_run.proofs.about.explain.Goals as goal

pub unwrap-requires : goal.unwrap-requires
unwrap-requires g c = text_there c.rules_and_fields_are_explained.ensures c.args.word.now c.as_bytes.result.now c.explanation.result c.as_bytes.ensures.value c.explanation.ensures c.requires
