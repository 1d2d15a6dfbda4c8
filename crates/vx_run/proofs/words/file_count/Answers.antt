use Rattle.std.proofs.Common.{rules, ◌≡◌, ℕ, List, [], length, map, refl, ap, sym}
use Rattle.vx_run.specs.Grammar.{Command, texts, merge, play, files_of, AskFor, NamesFiles}
use Rattle.vx_run.specs.inner.Placings.{placing_in}
use Rattle.vx_run.proofs.Performing.{names_placed, names_verified}
use Rattle.vx_run.proofs.Spelling.{spelled_once}
use Rattle.vx_run.proofs.words.file_count.Goals as goal

-- a command without a file names none
names_none : (words : List (List ℕ)) (command : Command) → AskFor words command → files_of command ≡ [] → NamesFiles words 0
names_none words command asks none =
    record { command = λ other asked. rw (spelled_once words other command asked asks) (ap (λ (l : List (List ℕ)). length l) (sym none)); other = λ no. refl }

pub returns-in-Some-Merge : goal.returns-in-Some-Merge
returns-in-Some-Merge c =
    let spelled = rw c.in-Some-Merge.field-0-is at c.in-Some-Merge.ensures.some in
    rw c.len.ensures (names_placed (texts c.args.words.now) (merge _ (map placing_in (texts c.in-Some-Merge.placings.words.now))) c.in-Some-Merge.placings.words.now refl spelled)

pub returns-in-Some-Play : goal.returns-in-Some-Play
returns-in-Some-Play c =
    let spelled = rw c.in-Some-Play.field-0-is at c.in-Some-Play.ensures.some in
    rw c.len-in-Some-Play.ensures (names_placed (texts c.args.words.now) (play _ (map placing_in (texts c.in-Some-Play.placings.words.now))) c.in-Some-Play.placings.words.now refl spelled)

pub returns-in-Some-Verify : goal.returns-in-Some-Verify
returns-in-Some-Verify c = rw c.len-in-Some-Verify.ensures (names_verified (texts c.args.words.now) _ c.in-Some-Verify.placings.words.now (rw c.in-Some-Verify.field-0-is at c.in-Some-Verify.ensures.some))

pub returns-in-Some-Trial : goal.returns-in-Some-Trial
returns-in-Some-Trial c = names_none (texts c.args.words.now) _ c.in-Some-Trial.ensures.some (search rules)
