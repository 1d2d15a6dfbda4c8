-- What the rows of a table have by a test, each field of its forms has, at every scope.
use Rattle.std.proofs.Common.{◌≡◌, ℕ, zero, suc, ◌+◌, ◌-◌, min, Bool, true, false, cond, ◌==◌, List, [], ◌∷◌, length, slice_set}
use Rattle.std.proofs.lemmas.Bool.{and_parts}
use Rattle.vx_table.specs.declared.rows.Formula.{Formula}
use Rattle.vx_table.specs.declared.rows.Cell.{Cell}
use Rattle.vx_table.specs.declared.rows.Presence.{Presence}
use Rattle.vx_table.specs.declared.rows.Presence.TheVariants.{When, Repeat}
use Rattle.vx_table.specs.declared.rows.Row.{Row}
use Rattle.vx_table.specs.declared.rows.Row.TheVariants.{Field, Block, Name}
use Rattle.vx_table.specs.Scope.{value}
use Rattle.vx_table.specs.Forms.{Form, done, field, ◌>>=◌, cell_at, after, one_field, turns, present, part, form_of}
use Rattle.vx_table.specs.Parts.{Section, sections_form}
use Rattle.vx_table.specs.EachField.{EachField, rows_pass, sections_pass}

pub each_then : {A B : Type 0} (P : Cell ℕ → Type 0) (f : Form A) (next : A → Form B) → EachField P f → ((a : A) → EachField P (next a)) → EachField P (f >>= next)
each_then P (done a) next is more = more a
each_then P (field cell goes) next is more = (is.0, λ v. each_then P (goes v) next (is.1 v) more)

each_turns : (P : Cell ℕ → Type 0) (block : List ℕ → Form (List ℕ)) (counter turn times : ℕ) (s : List ℕ) → ((t : List ℕ) → EachField P (block t)) → EachField P (turns block counter turn times s)
unfolding turns
each_turns P block counter turn zero s is = tt
each_turns P block counter turn (suc more) s is =
    each_then P (block (slice_set s counter turn)) (turns block counter (turn + 1) more) (is (slice_set s counter turn)) (λ t. each_turns P block counter (turn + 1) more t is)

pub each_present : (P : Cell ℕ → Type 0) (presence : Presence) (block : List ℕ → Form (List ℕ)) (s : List ℕ) → ((t : List ℕ) → EachField P (block t)) → EachField P (present presence block s)
unfolding present
each_present P (When holds) block s is = elim (value s holds == 0) as (λ none. EachField P (cond none (done s) (block s))) [
  | true ↦ tt
  | false ↦ is s
]
each_present P (Repeat counter times) block s is = each_turns P block counter 0 (value s times) s is

each_part : (P : Cell ℕ → Type 0) (test : Row → Bool) (sound : (c : Cell Formula) (s : List ℕ) → test (Field c) ≡ true → P (cell_at s c)) (skip len : ℕ) (rows : List Row) (s : List ℕ)
    → rows_pass test rows ≡ true → EachField P (part skip len rows s)
unfolding part one_field
each_part P test sound zero len [] s h = tt
each_part P test sound (suc skip) len [] s h = tt
each_part P test sound (suc skip) len (row ∷ rows) s h = each_part P test sound skip len rows s (and_parts (test row) (rows_pass test rows) h).1
each_part P test sound zero zero (row ∷ rows) s h = tt
each_part P test sound zero (suc len) (Field c ∷ rows) s h =
    let parts = and_parts (test (Field c)) (rows_pass test rows) h in
    (sound c s parts.0, λ v. each_part P test sound 0 len rows (after s (cell_at s c) v) parts.1)
each_part P test sound zero (suc len) (Block presence n ∷ rows) s h =
    let rest = (and_parts (test (Block presence n)) (rows_pass test rows) h).1 in
    each_then P (present presence (part 0 (min n len) rows) s) (part (min n len) (len - min n len) rows)
    (each_present P presence (part 0 (min n len) rows) s (λ t. each_part P test sound 0 (min n len) rows t rest)) (λ t. each_part P test sound (min n len) (len - min n len) rows t rest)
each_part P test sound zero (suc len) (Name name formula ∷ rows) s h =
    each_part P test sound 0 len rows (slice_set s name (value s formula)) (and_parts (test (Name name formula)) (rows_pass test rows) h).1

-- What a test of rows says, and one of a structure's tables.
pub each_of_rows : (P : Cell ℕ → Type 0) (test : Row → Bool) (sound : (c : Cell Formula) (s : List ℕ) → test (Field c) ≡ true → P (cell_at s c)) (rows : List Row) (s : List ℕ)
    → rows_pass test rows ≡ true → EachField P (form_of rows s)
unfolding form_of
each_of_rows P test sound rows s h = each_part P test sound 0 (length rows) rows s h

pub each_of_sections : (P : Cell ℕ → Type 0) (test : Row → Bool) (sound : (c : Cell Formula) (s : List ℕ) → test (Field c) ≡ true → P (cell_at s c)) (sections : List Section) (s : List ℕ)
    → sections_pass test sections ≡ true → EachField P (sections_form sections s)
unfolding sections_form
each_of_sections P test sound [] s h = tt
each_of_sections P test sound (section ∷ more) s h =
    let parts = and_parts (rows_pass test section.rows) (sections_pass test more) h in
    each_then P (present section.presence (form_of section.rows) s) (sections_form more)
    (each_present P section.presence (form_of section.rows) s (λ t. each_of_rows P test sound section.rows t parts.0)) (λ t. each_of_sections P test sound more t parts.1)
