use Rattle.std.proofs.Common.{ℕ, List, ◌∷◌, Option, codes}
use Rattle.vx_run.specs.Grammar.{extract, AskFor, texts}
use Rattle.vx_run.specs.inner.Words.{IsOptionFirst}
use Rattle.vx_run.proofs.Numbering.{if_none, not_tid, not_level, not_index}
use Rattle.vx_run.proofs.words.extract_of.Goals as goal

pub returns-in_err-tid-clause-none : goal.returns-in_err-tid-clause-none
returns-in_err-tid-clause-none c =
    let none = rw c.in_err-tid.was at c.option.ensures in
    let none_ : (tid level : Option ℕ) (index : ℕ) (file : List ℕ) → AskFor (codes "extract" ∷ texts c.args.words.now) (extract tid level index file) → ⊥ = λ tid level index file p. not_tid (texts c.args.words.now) tid level index file p none in
    if_none _ _ none_

pub returns-in_err-level-clause-none : goal.returns-in_err-level-clause-none
returns-in_err-level-clause-none c =
    let first : IsOptionFirst (codes "--tid") 6 (texts c.args.words.now) c.in_ok-tid.tid (texts c.in_ok-tid.rest.now) = rw c.in_ok-tid.was at c.option.ensures in
    let none = rw c.in_err-level.was at c.option-2.ensures in
    let none_ : (tid level : Option ℕ) (index : ℕ) (file : List ℕ) → AskFor (codes "extract" ∷ texts c.args.words.now) (extract tid level index file) → ⊥ = λ tid level index file p. not_level (texts c.args.words.now) tid level index file p c.in_ok-tid.tid (texts c.in_ok-tid.rest.now) first none in
    if_none _ _ none_

pub returns-in_err-index-clause-none : goal.returns-in_err-index-clause-none
returns-in_err-index-clause-none c =
    let first : IsOptionFirst (codes "--tid") 6 (texts c.args.words.now) c.in_ok-tid.tid (texts c.in_ok-tid.rest.now) = rw c.in_ok-tid.was at c.option.ensures in
    let second : IsOptionFirst (codes "--level") 255 (texts c.in_ok-tid.rest.now) c.in_ok-level.level (texts c.in_ok-level.rest.now) = rw c.in_ok-level.was at c.option-2.ensures in
    let none = rw c.in_err-index.was at c.number_first.ensures in
    let none_ : (tid level : Option ℕ) (index : ℕ) (file : List ℕ) → AskFor (codes "extract" ∷ texts c.args.words.now) (extract tid level index file) → ⊥ = λ tid level index file p. not_index (texts c.args.words.now) tid level index file p c.in_ok-tid.tid (texts c.in_ok-tid.rest.now) first c.in_ok-level.level (texts c.in_ok-level.rest.now) second none in
    if_none _ _ none_
