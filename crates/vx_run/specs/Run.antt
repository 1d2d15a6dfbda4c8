-- What `run` does to its sources and to its sinks, by the command that its arguments ask for. Our own. The clause `ends` of `run` is
-- `Runs`.
use Rattle.std.specs.Prelude.{◌≡◌, ℕ, List, None, IsSomeAnd, Err}
use Rattle.vx_explain.specs.Explained.{explanation}
use Rattle.vx_run.specs.declared.stop.Stop.TheVariants.{NotUnderstood}
use Rattle.vx_run.specs.About.{help_text, version_text, Writes}
use Rattle.vx_run.specs.Change.{Change, Sources, source_at, IsUntouched, AreUntouched}
use Rattle.vx_run.specs.Conclusion.{Outcome, ExitsWith}
use Rattle.vx_run.specs.Extract.{task_of, Extracts, Checks}
use Rattle.vx_run.specs.Grammar.{Command, show, extract, check_extract, merge, play, check_merge, verify, trial, help, version, explain, AskFor, IsUnderstood}
use Rattle.vx_run.specs.Merge.{corners_of, ChecksMerge, Merges}
use Rattle.vx_run.specs.Play.{Plays, file_regions, region_corners}
use Rattle.vx_run.specs.Show.{Shows}
use Rattle.vx_run.specs.Trial.{Trials}
use Rattle.vx_run.specs.Verify.{spots_of, Verifies}

-- What a command did to its sources and to `out`, by its outcome.
abbrev pub Does : {A K : Type 0} → Command → Sources A → Change K → Outcome → Type 0
Does (show fields inputs file) sources out outcome = Shows fields inputs (source_at sources 0) out outcome
Does (extract tid level index file) sources out outcome = Extracts (task_of tid level index) (source_at sources 0) out outcome
Does (check_extract tid index file) sources out outcome = Checks (task_of tid None index) (source_at sources 0) out outcome
Does (merge level placings) sources out outcome = Merges (corners_of placings) level sources out outcome
Does (play level placings) sources out outcome = Plays (region_corners placings) level (file_regions placings) sources out outcome
Does (check_merge placings) sources out outcome = ChecksMerge (corners_of placings) sources out outcome
Does (verify finished placings) sources out outcome = Verifies (spots_of placings) sources out outcome
Does (trial seed streams pictures) sources out outcome = AreUntouched sources × Trials seed streams pictures out outcome
Does help sources out outcome = AreUntouched sources × Writes help_text out outcome
Does version sources out outcome = AreUntouched sources × Writes version_text out outcome
Does (explain word) sources out outcome = AreUntouched sources × IsSomeAnd (explanation word) (λ text. Writes text out outcome)

-- The command that the arguments ask for was done or stopped; if they ask for none, nothing was read or written.
pub record Performs {A K : Type 0} (words : List (List ℕ)) (sources : Sources A) (out : Change K) (outcome : Outcome) : Type 0 where
  pub command : (command : Command) → AskFor words command → Does command sources out outcome
  pub other : ¬ IsUnderstood words → (outcome ≡ Err NotUnderstood) × AreUntouched sources × IsUntouched out

-- The outcome of the command: what it did to its sources and to `out`, and the status and the line on `err` that report it.
abbrev pub Runs : {A K E : Type 0} → List (List ℕ) → Sources A → Change K → ℕ → Change E → Type 0
Runs words sources out status err = (outcome : Outcome) × Performs words sources out outcome × ExitsWith outcome status err
