-- The numbers of a scope, tables and structures by their bounds.
use Rattle.std.proofs.Common.{◌≡◌, ℕ, ◌≤◌, ◌==◌, true, List, [], ◌∷◌, length, slice_index, slice_set, refl, sym, inl, inr, arith}
use Rattle.std.proofs.lemmas.Bool.{cases_Bool, cases_lt, eqb-true}
use Rattle.std.proofs.lemmas.Grind.{get_or-set_at}
use Rattle.std.proofs.lemmas.List.{get_or_past, set_past}
use Rattle.vx_table.specs.declared.rows.Row.{Row}
use Rattle.vx_table.specs.EachField.{rows_pass}
use Rattle.vx_table.specs.Forms.{form_of}
use Rattle.vx_table.specs.Parts.{Section, sections_form}
use Rattle.vx_table.specs.Scope.{most}
use Rattle.vx_table.specs.laws.Sizes.{Bound, IsShort, IsWithin, row_keeps, sections_bits, sections_keep, table_bits}
use Rattle.vx_table.proofs.Sizes.{sections_are_short, spelling_weaker, tables_are_short}

abbrev pub bound_by : ℕ → ℕ → Bound
bound_by of most = record { of = of; greatest = most }

pub within_none : (s : List ℕ) → ((n : ℕ) → slice_index s n ≤ most) → IsWithin [] s
within_none s numbers = record { at = numbers }

pub within_one : (of few : ℕ) (bounds : List Bound) (s : List ℕ) → slice_index s of ≤ few → IsWithin bounds s → IsWithin (bound_by of few ∷ bounds) s
within_one of few bounds s low within = record {
  at = λ n. elim (cases_Bool (of == n)) [
    | inl is ↦ rw (is, sym (eqb-true of n is)) low
    | inr other ↦ rw other (within.at n)
  ];
}

-- a number that is set
pub set_here : (s : List ℕ) (n v : ℕ) → slice_index (slice_set s n v) n ≤ v
set_here s n v = elim (cases_lt n (length s)) [
  | inl within ↦ rw (get_or-set_at s n n v 0 refl within) (omega arith)
  | inr past ↦ rw (set_past s n v past, get_or_past s n 0 past) (omega arith)
]

module _ (bounds : List Bound) (n : ℕ) where
  pub table_few : (rows : List Row) (s : List ℕ) → rows_pass (row_keeps bounds) rows ≡ true → table_bits bounds rows ≤ n → IsWithin bounds s → IsShort bounds n (form_of rows s)
  table_few rows s keep few within =
      spelling_weaker (form_of rows s) (λ k t. (k ≤ table_bits bounds rows) × IsWithin bounds t) (λ k t. (k ≤ n) × IsWithin bounds t) (tables_are_short bounds rows s keep within)
      (λ k t is. (let one = is.0 in omega (arith, one, few), is.1))

  pub sections_few : (sections : List Section) (s : List ℕ) → sections_keep bounds sections ≡ true → sections_bits bounds sections ≤ n → IsWithin bounds s → IsShort bounds n (sections_form sections s)
  sections_few sections s keep few within =
      spelling_weaker (sections_form sections s) (λ k t. (k ≤ sections_bits bounds sections) × IsWithin bounds t) (λ k t. (k ≤ n) × IsWithin bounds t)
      (sections_are_short bounds sections s keep within) (λ k t is. (let one = is.0 in omega (arith, one, few), is.1))
