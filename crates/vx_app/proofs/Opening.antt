-- Files that are opened one after another.
use Rattle.std.proofs.Common.{◌≡◌, ℕ, zero, suc, ◌+◌, ◌<◌, List, [], ◌∷◌, ◌++◌, Option, Some, None, length, take, slice_get, add-one, arith}
use Rattle.std.proofs.lemmas.List.{nil_from_length, take_all}
use Rattle.std.proofs.lemmas.Option.{slice_get-get_or}
use Rattle.vx_run.specs.Grammar.{Command, AskFor, IsUnderstood, NamesFiles, files_of}
use Rattle.vx_app.specs.declared.opened.Opened.{Opened}
use Rattle.vx_app.specs.Opened.{AreOpened, StandFor, opened_file}

-- one file more
stand-one : {F : Type 0} (opens : List ℕ → Option F → Type 0) (names : List (List ℕ)) (files : List (Opened F)) (k : ℕ) (name : List ℕ) (file : Opened F)
    → StandFor opens (take k names) files → slice_get names k ≡ Some name → opens name (opened_file file) → StandFor opens (take (suc k) names) (files ++ file ∷ [])
stand-one opens [] files k name file before at is = absurd (cc at)
stand-one opens (n ∷ ns) [] zero name file before at is = let same : n ≡ name = cc in rw same (is, tt)
stand-one opens (n ∷ ns) (f ∷ fs) zero name file before at is = absurd before
stand-one opens (n ∷ ns) [] (suc k) name file before at is = absurd before
stand-one opens (n ∷ ns) (f ∷ fs) (suc k) name file before at is = (before.0, stand-one opens ns fs k name file before.1 at is)

pub stand-more : {F : Type 0} (opens : List ℕ → Option F → Type 0) (names : List (List ℕ)) (files : List (Opened F)) (k : ℕ) (name : List ℕ) (file : Opened F)
    → StandFor opens (take k names) files → (place : ℕ) → place ≡ k → slice_get names place ≡ Some name → opens name (opened_file file) → StandFor opens (take (k + 1) names) (files ++ file ∷ [])
stand-more opens names files k name file before place here there is = rw add-one (stand-one opens names files k name file before (rw here at there) is)

-- so it is where they are a command
no_word : (words : List (List ℕ)) (n k : ℕ) (word : Option (List ℕ)) → NamesFiles words n → k < n → (command : Command) → AskFor words command
    → word ≡ slice_get (files_of command) k → word ≡ None → ⊥
no_word words n k word names within command asked found none =
    let fits : k < length (files_of command) = omega (arith, within, names.command command asked) in
    let there = slice_get-get_or (files_of command) k [] fits in cc

-- a word is found for each file that is counted
pub word_found : (words : List (List ℕ)) (n k : ℕ) (word : Option (List ℕ)) → NamesFiles words n → k < n
    → ((command : Command) → AskFor words command → word ≡ slice_get (files_of command) k) → word ≡ None → ⊥
word_found words n k word names within files none =
    let unasked : ¬ IsUnderstood words = λ (command, asked). no_word words n k word names within command asked (files command asked) none in
    let empty : n ≡ 0 = names.other unasked in
    let end : ⊥ = omega (arith, within, empty) in end

-- all files were opened
pub all_opened : {F : Type 0} (opens : List ℕ → Option F → Type 0) (words : List (List ℕ)) (n : ℕ) (files : List (Opened F)) → NamesFiles words n → length files ≡ n
    → ((command : Command) → AskFor words command → StandFor opens (take n (files_of command)) files) → AreOpened opens words files
all_opened opens words n files names many stand = record {
  command = λ command asked.
      let whole : take n (files_of command) ≡ files_of command = take_all n (files_of command) (omega (arith, names.command command asked)) in
      let s = stand command asked in rw whole at s;
  other = λ unasked. nil_from_length files (omega (arith, names.other unasked, many));
}
