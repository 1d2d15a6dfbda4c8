-- What is performed of the words, by the command that they ask for.
use Rattle.std.proofs.Common.{◌≡◌, ℕ, Bool, ◌+◌, ◌<◌, List, [], ◌∷◌, Option, length, map, get_or, slice_set, arith, refl, ap, None}
use Rattle.std.specs.Prelude.{String, string_bytes}
use Rattle.std.proofs.lemmas.List.{length-map}
use Rattle.vx_run.specs.Change.{Change, Sources, change, sources_change}
use Rattle.vx_run.specs.Conclusion.{Outcome}
use Rattle.vx_run.specs.Grammar.{Command, Placing, show, extract, check_extract, verify, files_of, AskFor, NamesFiles, texts}
use Rattle.vx_run.specs.inner.Placings.{placing_in}
use Rattle.vx_run.specs.Extract.{task_of, Extracts, Checks}
use Rattle.vx_run.specs.Run.{Does, Performs}
use Rattle.vx_run.specs.Show.{Shows}
use Rattle.vx_run.proofs.Moved.{Shows-at, Extracts-at, Checks-at}
use Rattle.vx_run.proofs.Spelling.{spelled_once}

-- a command that the words ask for is the one that was done
pub performs : {A K : Type 0} (words : List (List ℕ)) (sources : Sources A) (out : Change K) (outcome : Outcome) (command : Command) → AskFor words command → Does command sources out outcome → Performs words sources out outcome
performs words sources out outcome command spelled does = record {
  command = λ asked same. rw (spelled_once words asked command same spelled) does;
  other = λ none. absurd (none (command, spelled));
}

-- `show` was done to the first source
pub performs-show : {A K : Type 0} (words : List (List ℕ)) (bytes : A → Option (List ℕ)) (faults : A → ℕ) (s s' : A) (l : List A) (out : Change K) (outcome : Outcome) (fields inputs : Bool) (file : List ℕ)
    → AskFor words (show fields inputs file) → 0 < length l → s ≡ get_or l 0 s → Shows fields inputs (change bytes faults s s') out outcome → Performs words (sources_change bytes faults l (slice_set l 0 s')) out outcome
performs-show words bytes faults s s' l out outcome fields inputs file spelled within is shows =
    performs words (sources_change bytes faults l (slice_set l 0 s')) out outcome (show fields inputs file) spelled (Shows-at fields inputs bytes faults 0 s s' l out outcome within is shows)

-- `extract` was done to the first source,
pub performs-extract : {A K : Type 0} (words : List (List ℕ)) (bytes : A → Option (List ℕ)) (faults : A → ℕ) (s s' : A) (l : List A) (out : Change K) (outcome : Outcome) (tid level : Option ℕ) (index : ℕ) (file : List ℕ)
    → AskFor words (extract tid level index file) → 0 < length l → s ≡ get_or l 0 s → Extracts (task_of tid level index) (change bytes faults s s') out outcome → Performs words (sources_change bytes faults l (slice_set l 0 s')) out outcome
performs-extract words bytes faults s s' l out outcome tid level index file spelled within is does =
    performs words (sources_change bytes faults l (slice_set l 0 s')) out outcome (extract tid level index file) spelled (Extracts-at bytes faults 0 (task_of tid level index) s s' l out outcome within is does)

-- or `check extract`
pub performs-check : {A K : Type 0} (words : List (List ℕ)) (bytes : A → Option (List ℕ)) (faults : A → ℕ) (s s' : A) (l : List A) (out : Change K) (outcome : Outcome) (tid : Option ℕ) (index : ℕ) (file : List ℕ)
    → AskFor words (check_extract tid index file) → 0 < length l → s ≡ get_or l 0 s → Checks (task_of tid None index) (change bytes faults s s') out outcome → Performs words (sources_change bytes faults l (slice_set l 0 s')) out outcome
performs-check words bytes faults s s' l out outcome tid index file spelled within is does =
    performs words (sources_change bytes faults l (slice_set l 0 s')) out outcome (check_extract tid index file) spelled (Checks-at bytes faults 0 (task_of tid None index) s s' l out outcome within is does)

-- words that ask for a command with a file name one
pub names-file : (words : List (List ℕ)) (n : ℕ) → NamesFiles words n → (command : Command) → AskFor words command → 0 < length (files_of command) → 0 < n
names-file words n names command spelled some = let one = names.command command spelled in omega arith

-- ---- merges

some_placings : {A : Type 0} (words : List (String A)) → (map placing_in (texts words) ≡ [] → ⊥) → 0 < length words
some_placings [] some = absurd (some refl)
some_placings (w ∷ words) some = omega arith

some_files : (placings : List Placing) → (placings ≡ [] → ⊥) → 0 < length placings
some_files [] some = absurd (some refl)
some_files (p ∷ placings) some = omega arith

-- as many files are named as words place some
pub merge_count : {A : Type 0} (words : List (List ℕ)) (n : ℕ) (command : Command) (placings : List (String A)) → files_of command ≡ map (λ p. p.file) (map placing_in (texts placings)) → NamesFiles words n → AskFor words command
    → (map placing_in (texts placings) ≡ [] → ⊥) → (0 < length placings) × (n ≡ length placings)
merge_count {A = A} words n command placings files names asks some =
    let count = names.command command asks in (
      some_placings placings some,
      omega (arith, count, ap (λ (l : List (List ℕ)). length l) files, length-map (map placing_in (texts placings)) (λ (p : Placing). p.file), length-map (texts placings) placing_in, length-map placings (string_bytes {Z = A})),
    )

-- and a finished stream more, of a verification
pub verify_files_count : (words : List (List ℕ)) (n : ℕ) (finished : List ℕ) (placings : List Placing) → NamesFiles words n → AskFor words (verify finished placings) → n ≡ length placings + 1
verify_files_count words n finished placings names asks = omega (arith, names.command (verify finished placings) asks, length-map placings (λ (p : Placing). p.file))

pub verify_count : {A : Type 0} (words : List (List ℕ)) (n : ℕ) (finished : List ℕ) (placings : List (String A)) → NamesFiles words n → AskFor words (verify finished (map placing_in (texts placings))) → n ≡ length placings + 1
verify_count {A = A} words n finished placings names asks =
    omega (arith, verify_files_count words n finished (map placing_in (texts placings)) names asks, length-map (texts placings) placing_in, length-map placings (string_bytes {Z = A}))

pub names_verified : {A : Type 0} (words : List (List ℕ)) (finished : List ℕ) (placings : List (String A)) → AskFor words (verify finished (map placing_in (texts placings))) → NamesFiles words (length placings + 1)
names_verified {A = A} words finished placings asks =
    let count : length placings + 1 ≡ length (files_of (verify finished (map placing_in (texts placings)))) = omega (arith, length-map (map placing_in (texts placings)) (λ (p : Placing). p.file), length-map (texts placings) placing_in, length-map placings (string_bytes {Z = A})) in
    record { command = λ other asked. rw (spelled_once words other (verify finished (map placing_in (texts placings))) asked asks) count; other = λ none. absurd (none (verify finished (map placing_in (texts placings)), asks)) }

-- of a merge no others
pub names_placed : {A : Type 0} (words : List (List ℕ)) (command : Command) (placings : List (String A)) → files_of command ≡ map (λ p. p.file) (map placing_in (texts placings)) → AskFor words command → NamesFiles words (length placings)
names_placed {A = A} words command placings files asks =
    let count : length placings ≡ length (files_of command) = omega (arith, ap (λ (l : List (List ℕ)). length l) files, length-map (map placing_in (texts placings)) (λ (p : Placing). p.file), length-map (texts placings) placing_in, length-map placings (string_bytes {Z = A})) in
    record { command = λ other asked. rw (spelled_once words other command asked asks) count; other = λ none. absurd (none (command, asks)) }

-- some are
pub merge_some : (words : List (List ℕ)) (n : ℕ) (command : Command) (placings : List Placing) → files_of command ≡ map (λ p. p.file) placings → NamesFiles words n → AskFor words command → (placings ≡ [] → ⊥) → 0 < n
merge_some words n command placings files names asks some =
    omega (arith, names.command command asks, ap (λ (l : List (List ℕ)). length l) files, length-map placings (λ (p : Placing). p.file), some_files placings some)
