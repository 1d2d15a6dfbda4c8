-- A structure of several tables. Our own. Definitions of syntax structures rely on it.
use Rattle.std.specs.Prelude.{ℕ, List, [], ◌∷◌}
use Rattle.vx_table.specs.declared.parts.Part.{Part}
use Rattle.vx_table.specs.declared.rows.Term.TheVariants.{Number}
use Rattle.vx_table.specs.declared.rows.Formula.{Formula}
use Rattle.vx_table.specs.declared.rows.Formula.TheVariants.{Plain}
use Rattle.vx_table.specs.declared.rows.Presence.{Presence}
use Rattle.vx_table.specs.declared.rows.Presence.TheVariants.{When, Repeat}
use Rattle.vx_table.specs.declared.rows.Row.{Row}
use Rattle.vx_table.specs.Forms.{Form, done, ◌>>=◌, present, form_of}

-- A table, and how often it is present.
pub record Section : Type 0 where
  pub presence : Presence
  pub rows : List Row

-- A table that is present if a formula isn't 0, one that is always present, and one that is repeated under a counter (7.1).
abbrev pub provided : Formula → List Row → Section
provided holds rows = record { presence = When holds; rows = rows }

abbrev pub always : List Row → Section
always rows = provided (Plain (Number 1)) rows

abbrev pub in_turns : ℕ → Formula → List Row → Section
in_turns counter times rows = record { presence = Repeat counter times; rows = rows }

abbrev pub section_form : Section → List ℕ → Form (List ℕ)
section_form section = present section.presence (form_of section.rows)

-- One table after another (7.1).
unfoldable pub sections_form : List Section → List ℕ → Form (List ℕ)
sections_form [] s = done s
sections_form (section ∷ more) s = section_form section s >>= sections_form more

-- The parts of a structure, wherever their tables are in memory.
abbrev pub section_of : Part → Section
section_of part = record { presence = part.presence; rows = part.rows.now }

abbrev pub sections_of : List Part → List Section
sections_of [] = []
sections_of (part ∷ parts) = section_of part ∷ sections_of parts

abbrev pub parts_form : List Part → List ℕ → Form (List ℕ)
parts_form parts = sections_form (sections_of parts)
