use Rattle.std.proofs.Common.{◌∷◌, ℕ, Bool, List, codes, ap}
use Rattle.vx_run.specs.Grammar.{show, AskFor, texts}
use Rattle.vx_run.proofs.Numbering.{if_none}
use Rattle.vx_run.proofs.ShowWords.{no_file, spelled_show}
use Rattle.vx_run.proofs.words.show_of.Goals as goal

pub returns-in_err-file-clause-none : goal.returns-in_err-file-clause-none
returns-in_err-file-clause-none c =
    let none = rw c.in_err-file.was at c.file_alone.ensures in
    let none_ : (fields inputs : Bool) (file : List ℕ) → AskFor (codes "show" ∷ texts c.args.words.now) (show fields inputs file) → ⊥ = no_file (texts c.args.words.now) _ _ _ _ c.flag-fields.ensures c.flag-inputs.ensures none in
    if_none _ _ none_

pub returns-clause-some : goal.returns-clause-some
returns-clause-some c =
    let alone = rw c.in_ok-file.was at c.file_alone.ensures in
    record { spelled = ap (λ words. codes "show" ∷ words) (spelled_show (texts c.args.words.now) _ _ _ _ _ c.flag-fields.ensures c.flag-inputs.ensures alone.0); named = alone.1 }
