use Rattle.std.proofs.Common.{◌≡◌, ◌∙◌, ℕ, List, ◌∷◌, ap, codes, sym}
use Rattle.vx_run.specs.Grammar.{Placing, verify, AskFor, texts}
use Rattle.vx_run.proofs.Numbering.{if_none}
use Rattle.vx_run.proofs.PlacingWords.{asks_to_verify, verify_not_merge, verify_not_file, verify_not_placed, some_texts, words_of_parts}
use Rattle.vx_run.proofs.words.verify_of.Goals as goal

pub returns-in_err-rest-clause-none : goal.returns-in_err-rest-clause-none
returns-in_err-rest-clause-none c =
    let none = rw c.in_err-rest.was at c.behind.ensures in
    let none_ : (finished : List ℕ) (ps : List Placing) → AskFor (codes "verify" ∷ texts c.args.words.now) (verify finished ps) → ⊥ = λ finished ps asks. verify_not_merge (texts c.args.words.now) finished ps asks none in
    if_none _ _ none_

pub returns-in_err-finished-clause-none : goal.returns-in_err-finished-clause-none
returns-in_err-finished-clause-none c =
    let first : texts c.args.words.now ≡ codes "merge" ∷ texts c.in_ok-rest.rest.now = rw c.in_ok-rest.was at c.behind.ensures in
    let none = rw c.in_err-finished.was at c.file_first.ensures in
    let none_ : (finished : List ℕ) (ps : List Placing) → AskFor (codes "verify" ∷ texts c.args.words.now) (verify finished ps) → ⊥ = λ finished ps asks. verify_not_file (texts c.args.words.now) finished ps asks (texts c.in_ok-rest.rest.now) first none in
    if_none _ _ none_

pub returns-in_err-placings-clause-none : goal.returns-in_err-placings-clause-none
returns-in_err-placings-clause-none c =
    let first : texts c.args.words.now ≡ codes "merge" ∷ texts c.in_ok-rest.rest.now = rw c.in_ok-rest.was at c.behind.ensures in
    let second = rw c.in_ok-finished.was at c.file_first.ensures in
    let none = rw c.in_err-placings.was at c.of.ensures in
    let none_ : (finished : List ℕ) (ps : List Placing) → AskFor (codes "verify" ∷ texts c.args.words.now) (verify finished ps) → ⊥ = λ finished ps asks.
    verify_not_placed (texts c.args.words.now) finished ps asks (texts c.in_ok-finished.rest.now) c.in_ok-finished.finished.now (first ∙ ap (λ (l : List (List ℕ)). codes "merge" ∷ l) second.0) none
    in
    if_none _ _ none_

pub returns-clause-some : goal.returns-clause-some
returns-clause-some c =
    let first : texts c.args.words.now ≡ codes "merge" ∷ texts c.in_ok-rest.rest.now = rw c.in_ok-rest.was at c.behind.ensures in
    let second = rw c.in_ok-finished.was at c.file_first.ensures in
    let same = rw c.in_ok-placings.was at c.of.ensures in
    let p = c.in_ok-placings.placings in
    asks_to_verify (texts c.args.words.now) (texts p.words.now) c.in_ok-finished.finished.now (first ∙ ap (λ (l : List (List ℕ)). codes "merge" ∷ l) (second.0 ∙ ap (λ l. c.in_ok-finished.finished.now ∷ texts l) (sym same))) second.1 (some_texts p.words.now p.some, words_of_parts (texts p.words.now) p.each)
