use Rattle.std.proofs.Common.{◌∙◌, sym}
use Rattle.vx_run.proofs.PlacingWords.{are_not, no_words, some_words}
use Rattle.vx_run.proofs.placings.place_files.Goals as goal

pub returns-then-is_empty : goal.returns-then-is_empty
returns-then-is_empty c = are_not _ (λ place. no_words c.args.words.now (sym c.is_empty.ensures ∙ c.if-is_empty.true) place.0)

pub returns : goal.returns
returns c = (
  λ is. (some_words c.args.words.now (sym c.is_empty.ensures ∙ c.if-is_empty.false), c.are_placings.ensures.0 is),
  λ place. c.are_placings.ensures.1 place.1,
)
