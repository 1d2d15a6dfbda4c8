-- A walk over rows and over tables by their type: the first one, and then the rest.
use Rattle.std.proofs.Common.{◌≡◌, ℕ, ◌++◌, ◌∷◌, [], List, length, min, slice_set, Result, Ok, Err, refl, arith}
use Rattle.std.proofs.Math.Seq.{take-append_seam, drop-append_seam}
use Rattle.std.proofs.lemmas.List.{length-append}
use Rattle.vx_table.specs.declared.rows.Formula.{Formula}
use Rattle.vx_table.specs.declared.rows.Cell.{Cell}
use Rattle.vx_table.specs.declared.rows.Row.{Row}
use Rattle.vx_table.specs.declared.rows.Row.TheVariants.{Field, Block, Name}
use Rattle.vx_table.specs.declared.rows.Presence.{Presence}
use Rattle.vx_table.specs.declared.rows.Presence.TheVariants.{When}
use Rattle.vx_table.specs.Scope.{value}
use Rattle.vx_table.specs.Forms.{Form, ◌>>=◌, one_field, present, part, form_of}
use Rattle.vx_table.specs.Parts.{Section, provided, sections_form}
use Rattle.vx_table.specs.Walks.{Step, Walks, ended}
use Rattle.vx_table.proofs.Blocks.{form-field, form-name, form-block}
use Rattle.vx_table.proofs.Steps.{then, stop}

-- a block's rows, and those behind them
form-joined : (presence : Presence) (block rest : List Row) (s : List ℕ)
    → form_of (Block presence (length block) ∷ block ++ rest) s ≡ (present presence (form_of block) s >>= form_of rest)
form-joined presence block rest s =
    let all : min (length block) (length (block ++ rest)) ≡ length block = omega (arith, length-append block rest) in
    rw (form-block, all, take-append_seam block rest, drop-append_seam block rest) refl

module _ {C I E : Type 0} {step : Step C I E} where
  pub no_row : (s : List ℕ) (c : C) (i : I) → Walks step (form_of [] s) c i (Ok s) c i
  unfolding form_of part
  no_row s c i = ended

  pub field_then : (cell : Cell Formula) (rest : List Row) (s t : List ℕ) {c d e : C} {i j k : I} {r : Result (List ℕ) E}
      → Walks step (one_field s cell) c i (Ok t) d j → Walks step (form_of rest t) d j r e k → Walks step (form_of (Field cell ∷ rest) s) c i r e k
  field_then cell rest s t walked behind = rw form-field (then (form_of rest) walked behind)

  pub field_stop : (cell : Cell Formula) (rest : List Row) (s : List ℕ) {c d : C} {i j : I} {e : E}
      → Walks step (one_field s cell) c i (Err e) d j → Walks step (form_of (Field cell ∷ rest) s) c i (Err e) d j
  field_stop cell rest s walked = rw form-field (stop (form_of rest) walked)

  pub name_then : (name : ℕ) (formula : Formula) (rest : List Row) (s : List ℕ) {c d : C} {i j : I} {r : Result (List ℕ) E}
      → Walks step (form_of rest (slice_set s name (value s formula))) c i r d j → Walks step (form_of (Name name formula ∷ rest) s) c i r d j
  name_then name formula rest s walked = rw form-name walked

  pub block_then : (presence : Presence) (block rest : List Row) (s t : List ℕ) {c d e : C} {i j k : I} {r : Result (List ℕ) E}
      → Walks step (present presence (form_of block) s) c i (Ok t) d j → Walks step (form_of rest t) d j r e k
      → Walks step (form_of (Block presence (length block) ∷ block ++ rest) s) c i r e k
  block_then presence block rest s t walked behind = rw (form-joined presence block rest s) (then (form_of rest) walked behind)

  pub block_stop : (presence : Presence) (block rest : List Row) (s : List ℕ) {c d : C} {i j : I} {e : E}
      → Walks step (present presence (form_of block) s) c i (Err e) d j
      → Walks step (form_of (Block presence (length block) ∷ block ++ rest) s) c i (Err e) d j
  block_stop presence block rest s walked = rw (form-joined presence block rest s) (stop (form_of rest) walked)

  -- a block whose formula is 0
  pub not_there : (holds : Formula) (block : List ℕ → Form (List ℕ)) (s : List ℕ) (c : C) (i : I) → value s holds ≡ 0
      → Walks step (present (When holds) block s) c i (Ok s) c i
  unfolding present
  not_there holds block s c i none = rw none ended

  pub no_section : (s : List ℕ) (c : C) (i : I) → Walks step (sections_form [] s) c i (Ok s) c i
  unfolding sections_form
  no_section s c i = ended

  pub section_then : (holds : Formula) (rows : List Row) (rest : List Section) (s t : List ℕ) {c d e : C} {i j k : I} {r : Result (List ℕ) E}
      → Walks step (present (When holds) (form_of rows) s) c i (Ok t) d j → Walks step (sections_form rest t) d j r e k
      → Walks step (sections_form (provided holds rows ∷ rest) s) c i r e k
  unfolding sections_form
  section_then holds rows rest s t walked behind = then (sections_form rest) walked behind

  pub section_stop : (holds : Formula) (rows : List Row) (rest : List Section) (s : List ℕ) {c d : C} {i j : I} {e : E}
      → Walks step (present (When holds) (form_of rows) s) c i (Err e) d j → Walks step (sections_form (provided holds rows ∷ rest) s) c i (Err e) d j
  unfolding sections_form
  section_stop holds rows rest s walked = stop (sections_form rest) walked
