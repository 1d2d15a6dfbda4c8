use Rattle.std.proofs.Common.{length}
use Rattle.vx_frame.specs.Rules as rules
use Rattle.vx_frame.proofs.Verdicts.{finds_source}
use Rattle.vx_frame.proofs.filters.too_many_filters.Goals as goal

pub returns : goal.returns
returns c round are = finds_source (length round) _ (rules.too_many_filters round).breaks c.args.filters.now.too_many c.of_source.result c.of_source.ensures are.too_many
