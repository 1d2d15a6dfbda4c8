-- The sources for the files that the program's arguments name. Our own.
use Rattle.std.specs.Prelude.{◌≡◌, ℕ, List, [], ◌∷◌, Option, Some, None}
use Rattle.vx_io.specs.Outside.{reader_of, read_fault_count}
use Rattle.vx_app.specs.declared.opened.Opened.{Opened}
use Rattle.vx_app.specs.declared.opened.Opened.TheVariants.{File, Closed}
use Rattle.vx_run.specs.Grammar.{Command, AskFor, IsUnderstood, files_of}

-- The file that was opened; `None` for a closed source.
abbrev pub opened_file : {F : Type 0} → Opened F → Option F
opened_file (File source) = Some (reader_of source)
opened_file (Closed source) = None

-- The bytes known to be left: those of a file aren't known, and a closed source has none.
abbrev pub left_in : {F : Type 0} → Opened F → Option (List ℕ)
left_in (File source) = None
left_in (Closed source) = Some []

-- The count of faults.
abbrev pub faults_in : {F : Type 0} → Opened F → ℕ
faults_in (File source) = read_fault_count source
faults_in (Closed source) = source

-- Each of these is the source for the file of its name, by what opening that may give.
abbrev pub StandFor : {F : Type 0} → (List ℕ → Option F → Type 0) → List (List ℕ) → List (Opened F) → Type 0
StandFor opens [] [] = Unit {0}
StandFor opens [] (file ∷ files) = ⊥
StandFor opens (name ∷ names) [] = ⊥
StandFor opens (name ∷ names) (file ∷ files) = opens name (opened_file file) × StandFor opens names files

-- These are the files that the arguments name, in order, and none if they ask for no command.
pub record AreOpened {F : Type 0} (opens : List ℕ → Option F → Type 0) (words : List (List ℕ)) (files : List (Opened F)) : Type 0 where
  pub command : (command : Command) → AskFor words command → StandFor opens (files_of command) files
  pub other : ¬ IsUnderstood words → files ≡ []
