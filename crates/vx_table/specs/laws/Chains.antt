-- How what is known is carried along the parts of a structure.
use Rattle.std.specs.Prelude.{◌++◌, ◌≡◌, ℕ, true, List, slice_set}
use Rattle.vx_table.specs.declared.rows.Presence.{Presence}
use Rattle.vx_table.specs.declared.rows.Row.{Row}
use Rattle.vx_table.specs.Forms.{Form, done, ◌>>=◌, present, form_of}
use Rattle.vx_table.specs.Parts.{Section, sections_form}
use Rattle.vx_table.specs.Depends.{Agree, DependsOnlyOn, Carries}
use Rattle.vx_table.specs.Claims.{grown, within_block, knows_presence, table_depends, behind_table, sections_chain, behind_sections}

-- A table for which the test holds, and tables one after another.
abbrev pub TablesCarry : Type 0
TablesCarry = (shown before : List ℕ) (rows : List Row) → table_depends shown before rows ≡ true
    → Carries shown before (behind_table shown before rows) (form_of rows)

abbrev pub SectionsCarry : Type 0
SectionsCarry = (shown before : List ℕ) (sections : List Section) → sections_chain shown before sections ≡ true
    → Carries shown before (behind_sections shown before sections) (sections_form sections)

-- A number set under a name, and any step on the scope that keeps scopes in agreement.
abbrev pub SetsCarry : Type 0
SetsCarry = (shown before : List ℕ) (n v : ℕ) → Carries shown before (grown shown before n) (λ s. done (slice_set s n v))

abbrev pub StepsCarry : Type 0
StepsCarry = (shown before : List ℕ) (step : List ℕ → List ℕ) → ((s t : List ℕ) → Agree before s t → Agree before (step s) (step t))
    → Carries shown before before (λ s. done (step s))

-- One part after another, and one that is repeated, if the number of repetitions is known.
abbrev pub CarriesTogether : Type 0
CarriesTogether = (shown before mid after : List ℕ) (form next : List ℕ → Form (List ℕ)) → Carries shown before mid form
    → Carries shown mid after next → Carries shown before after (λ s. form s >>= next)

abbrev pub CarriesPresent : Type 0
CarriesPresent = (shown before after : List ℕ) (presence : Presence) (form : List ℕ → Form (List ℕ))
    → knows_presence before presence ≡ true → Carries shown (within_block shown before presence) after form
    → Carries shown before before (present presence form)

-- A structure that carries the given numbers depends only on them.
abbrev pub ChainsDepend : Type 0
ChainsDepend = (given shown after : List ℕ) (form : List ℕ → Form (List ℕ))
    → Carries (given ++ shown) given after form → DependsOnlyOn given shown form
