use Rattle.std.proofs.Common.{◌==◌, rules, tests}
use Rattle.std.specs.Str.{bytes_eq}
use Rattle.std.proofs.lemmas.Iterator.Search.{find_from_yields_List}
use Rattle.std.proofs.lemmas.Iterator.Splits.{YieldsList-from_slice_split}
use Rattle.vx_explain.specs.Explained.{word_of, explanation}
use Rattle.vx_explain.specs.declared.text.TheConstants.{TEXT}
use Rattle.vx_explain.proofs.explanation.Goals as goal

pub returns : goal.returns
unfolding explanation
returns c =
    find_from_yields_List (λ part. bytes_eq (word_of part) c.args.word.now) _ _ _ c.find.ensures.ran
    (YieldsList-from_slice_split _ (λ byte. byte == 124) TEXT c.split.ensures.rest c.split.ensures.done c.split.ensures.closure (λ x r q k. search (rules, tests)))
    (λ x b q k. search (rules, tests))
