use Rattle.std.proofs.Common.{ℕ, List, ◌∷◌, Option, codes, map}
use Rattle.vx_run.specs.Grammar.{Placing, merge, AskFor, texts}
use Rattle.vx_run.specs.inner.Placings.{placing_in}
use Rattle.vx_run.proofs.Numbering.{if_none}
use Rattle.vx_run.proofs.MergeWords.{asks_to_merge, names_to_merge}
use Rattle.vx_run.proofs.words.merge_of.Goals as goal

pub returns-in_err-level-clause-none : goal.returns-in_err-level-clause-none
returns-in_err-level-clause-none c =
    let none = rw c.in_err-level.was at c.level_and_files.ensures in
    let none_ : (level : Option ℕ) (ps : List Placing) → AskFor (codes "merge" ∷ texts c.args.words.now) (merge level ps) → ⊥ = λ level ps asks. none level ps (names_to_merge (texts c.args.words.now) level ps asks) in
    if_none _ _ none_

pub returns-clause-some : goal.returns-clause-some
returns-clause-some c =
    let names = rw c.in_ok-level.was at c.level_and_files.ensures in
    asks_to_merge (texts c.args.words.now) c.in_ok-level.level (map placing_in (texts c.in_ok-level.placings.words.now)) names
