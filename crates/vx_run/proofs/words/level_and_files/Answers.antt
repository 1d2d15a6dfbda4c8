use Rattle.std.proofs.Common.{ℕ, List, Option, codes, subst, sym}
use Rattle.vx_run.specs.Grammar.{Placing, texts}
use Rattle.vx_run.specs.inner.Placings.{NameLevelAndFiles}
use Rattle.vx_run.specs.inner.Words.{IsOptionFirst}
use Rattle.vx_run.proofs.MergeWords.{level_and_placings, no_level_there, no_placings_there}
use Rattle.vx_run.proofs.PlacingWords.{some_texts, words_of_parts}
use Rattle.vx_run.proofs.words.level_and_files.Goals as goal

pub returns-in_err-level : goal.returns-in_err-level
returns-in_err-level c =
    let none = rw c.in_err-level.was at c.option.ensures in
    let none_ : (level : Option ℕ) (ps : List Placing) → NameLevelAndFiles (texts c.args.words.now) level ps → ⊥ = λ level ps names. no_level_there (texts c.args.words.now) level ps names none in
    rw c.from_residual.ensures none_

pub returns-in_err-placings : goal.returns-in_err-placings
returns-in_err-placings c =
    let first : IsOptionFirst (codes "--level") 255 (texts c.args.words.now) c.in_ok-level.level (texts c.in_ok-level.rest.now) = rw c.in_ok-level.was at c.option.ensures in
    let none = rw c.in_err-placings.was at c.of.ensures in
    let none_ : (level : Option ℕ) (ps : List Placing) → NameLevelAndFiles (texts c.args.words.now) level ps → ⊥ = λ level ps names. no_placings_there (texts c.args.words.now) level ps names c.in_ok-level.level (texts c.in_ok-level.rest.now) first none in
    rw c.from_residual-in_err-placings.ensures none_

pub returns : goal.returns
returns c =
    let first : IsOptionFirst (codes "--level") 255 (texts c.args.words.now) c.in_ok-level.level (texts c.in_ok-level.rest.now) = rw c.in_ok-level.was at c.option.ensures in
    let same = rw c.in_ok-placings.was at c.of.ensures in
    let p = c.in_ok-placings.placings in
    level_and_placings (texts c.args.words.now) c.in_ok-level.level (texts p.words.now) (subst (λ l. IsOptionFirst (codes "--level") 255 (texts c.args.words.now) c.in_ok-level.level (texts l)) (sym same) first) (some_texts p.words.now p.some, words_of_parts (texts p.words.now) p.each)
