use Rattle.std.proofs.Common.{List, ◌∷◌, codes, map, subst}
use Rattle.vx_run.specs.Grammar.{Placing, check_merge, AskFor, texts}
use Rattle.vx_run.specs.inner.Placings.{placing_in}
use Rattle.vx_run.proofs.Numbering.{if_none}
use Rattle.vx_run.proofs.PlacingWords.{asks_for_merge, merge_words, some_texts, words_of_parts}
use Rattle.vx_run.proofs.words.check_merge_of.Goals as goal

pub returns-in_err-placings-clause-none : goal.returns-in_err-placings-clause-none
returns-in_err-placings-clause-none c =
    let none = rw c.in_err-placings.was at c.of.ensures in
    let none_ : (ps : List Placing) → AskFor (codes "check" ∷ codes "merge" ∷ texts c.args.words.now) (check_merge ps) → ⊥ = λ ps asks. none (merge_words (texts c.args.words.now) ps asks) in
    if_none _ _ none_

pub returns-clause-some : goal.returns-clause-some
returns-clause-some c =
    let same = rw c.in_ok-placings.was at c.of.ensures in
    let p = c.in_ok-placings.placings in
    subst (λ l. AskFor (codes "check" ∷ codes "merge" ∷ texts l) (check_merge (map placing_in (texts p.words.now)))) same (asks_for_merge (texts p.words.now) (some_texts p.words.now p.some, words_of_parts (texts p.words.now) p.each))
