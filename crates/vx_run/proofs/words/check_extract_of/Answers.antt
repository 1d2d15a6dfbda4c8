use Rattle.std.proofs.Common.{ℕ, List, ◌∷◌, Option, codes}
use Rattle.vx_run.specs.Grammar.{check_extract, AskFor, texts}
use Rattle.vx_run.specs.inner.Words.{IsOptionFirst}
use Rattle.vx_run.proofs.Numbering.{if_none, check_not_tid, check_not_index}
use Rattle.vx_run.proofs.words.check_extract_of.Goals as goal

pub returns-in_err-tid-clause-none : goal.returns-in_err-tid-clause-none
returns-in_err-tid-clause-none c =
    let none = rw c.in_err-tid.was at c.option.ensures in
    let none_ : (tid : Option ℕ) (index : ℕ) (file : List ℕ) → AskFor (codes "check" ∷ codes "extract" ∷ texts c.args.words.now) (check_extract tid index file) → ⊥ = λ tid index file p. check_not_tid (texts c.args.words.now) tid index file p none in
    if_none _ _ none_

pub returns-in_err-index-clause-none : goal.returns-in_err-index-clause-none
returns-in_err-index-clause-none c =
    let first : IsOptionFirst (codes "--tid") 6 (texts c.args.words.now) c.in_ok-tid.tid (texts c.in_ok-tid.rest.now) = rw c.in_ok-tid.was at c.option.ensures in
    let none = rw c.in_err-index.was at c.number_first.ensures in
    let none_ : (tid : Option ℕ) (index : ℕ) (file : List ℕ) → AskFor (codes "check" ∷ codes "extract" ∷ texts c.args.words.now) (check_extract tid index file) → ⊥ = λ tid index file p. check_not_index (texts c.args.words.now) tid index file p c.in_ok-tid.tid (texts c.in_ok-tid.rest.now) first none in
    if_none _ _ none_
