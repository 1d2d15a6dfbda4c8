-- Tests over rows of what structures depend on. Their laws say what a positive result implies, so a reader need not believe how the
-- tests work. The contract of `depends_only_on` relies on them.
use Rattle.std.specs.Prelude.{ℕ, zero, suc, ◌-◌, min, Bool, true, false, cond, not, ◌&&◌, ◌||◌, List, [], ◌∷◌, ◌++◌, length, take}
use Rattle.vx_table.specs.declared.rows.Term.{Term}
use Rattle.vx_table.specs.declared.rows.Term.TheVariants.{Number, Latest}
use Rattle.vx_table.specs.declared.rows.Formula.{Formula}
use Rattle.vx_table.specs.declared.rows.Formula.TheVariants.{Plain, Plus, Minus, Times, Quotient, Least, PowerOfTwo, CeilLog2, Equal}
use Rattle.vx_table.specs.declared.rows.Formula.TheVariants.{Differs, Below, AtMost, Both, Either}
use Rattle.vx_table.specs.declared.rows.Coding.{Coding}
use Rattle.vx_table.specs.declared.rows.Coding.TheVariants.{Fixed, Golomb, SignedGolomb, Zeros, OneAndZeros, Trailing, Absent, Refused}
use Rattle.vx_table.specs.declared.rows.Limits.{Limits}
use Rattle.vx_table.specs.declared.rows.Limits.TheVariants as ranges
use Rattle.vx_table.specs.declared.rows.Cell.{Cell}
use Rattle.vx_table.specs.declared.rows.Presence.{Presence}
use Rattle.vx_table.specs.declared.rows.Presence.TheVariants.{When, Repeat}
use Rattle.vx_table.specs.declared.rows.Row.{Row}
use Rattle.vx_table.specs.declared.rows.Row.TheVariants.{Field, Block, Name}
use Rattle.vx_table.specs.Scope.{is_set}
use Rattle.vx_table.specs.Forms.{has_value}
use Rattle.vx_table.specs.Parts.{Section}
use Rattle.vx_table.specs.Depends.{has}

-- A formula reads only names of a set.
abbrev pub knows : List ℕ → Term → Bool
knows known (Number n) = true
knows known (Latest of) = has known of

unfoldable pub knows_formula : List ℕ → Formula → Bool
knows_formula known (Plain a) = knows known a
knows_formula known (Plus a b) = knows known a && knows known b
knows_formula known (Minus a b) = knows known a && knows known b
knows_formula known (Times a b) = knows known a && knows known b
knows_formula known (Quotient a b) = knows known a && knows known b
knows_formula known (Least a b) = knows known a && knows known b
knows_formula known (PowerOfTwo a) = knows known a
knows_formula known (CeilLog2 a) = knows known a
knows_formula known (Equal a b) = knows known a && knows known b
knows_formula known (Differs a b) = knows known a && knows known b
knows_formula known (Below a b) = knows known a && knows known b
knows_formula known (AtMost a b) = knows known a && knows known b
knows_formula known (Both a b) = knows known a && knows known b
knows_formula known (Either a b) = knows known a && knows known b

unfoldable pub knows_width : List ℕ → Coding Formula → Bool
knows_width known (Fixed width) = knows_formula known width
knows_width known Golomb = true
knows_width known SignedGolomb = true
knows_width known Zeros = true
knows_width known OneAndZeros = true
knows_width known Trailing = true
knows_width known Absent = true
knows_width known Refused = true

unfoldable pub knows_range : List ℕ → Limits Formula → Bool
knows_range known ranges.Any = true
knows_range known (ranges.Within low high fault) = knows_formula known high
knows_range known (ranges.Below bound fault) = knows_formula known bound
knows_range known (ranges.Multiple unit high fault) = true

abbrev pub knows_cell : List ℕ → Cell Formula → Bool
knows_cell known c = knows_width known c.coding && knows_range known c.limits

unfoldable pub knows_presence : List ℕ → Presence → Bool
knows_presence known (When holds) = knows_formula known holds
knows_presence known (Repeat counter times) = knows_formula known times

-- Rows have no shown field, and give no shown name a number.
unfoldable pub hides_counter : List ℕ → Presence → Bool
hides_counter shown (When holds) = true
hides_counter shown (Repeat counter times) = not (has shown counter)

unfoldable pub hides_row : List ℕ → Row → Bool
hides_row shown (Field c) = not (has shown c.field)
hides_row shown (Block presence n) = hides_counter shown presence
hides_row shown (Name name formula) = not (has shown name)

abbrev pub hides : List ℕ → List Row → Bool
hides shown [] = true
hides shown (row ∷ rows) = hides_row shown row && hides shown rows

-- What is known after a row that gives this name a number, and within a block.
abbrev pub grown : List ℕ → List ℕ → ℕ → List ℕ
grown shown known n = cond (has shown n) (n ∷ known) known

unfoldable pub behind_field : List ℕ → List ℕ → Cell Formula → List ℕ
behind_field shown known c = cond (has_value c.coding) (grown shown known c.field) known

unfoldable pub within_block : List ℕ → List ℕ → Presence → List ℕ
within_block shown known (When holds) = known
within_block shown known (Repeat counter times) = grown shown known counter

-- A block's presence is known, and its rows pass with what is known within it; or everything in it is hidden.
abbrev pub block_depends : List ℕ → List ℕ → Presence → Bool → (List ℕ → Bool) → Bool
block_depends shown known presence hidden inside =
    (hides_counter shown presence && hidden) || (knows_presence known presence && inside (within_block shown known presence))

-- A shown field's width and range are known,
abbrev pub field_depends : List ℕ → List ℕ → Cell Formula → Bool
field_depends shown known c = not (has shown c.field) || knows_cell known c

-- and so is a shown name's formula.
abbrev pub name_depends : List ℕ → List ℕ → ℕ → Formula → Bool
name_depends shown known name formula = not (has shown name) || knows_formula known formula

-- The shown fields and names depend only on what is known before them. This is said of len rows after the first skip rows.
unfoldable pub depends : List ℕ → List ℕ → ℕ → ℕ → List Row → Bool
depends shown known skip len [] = true
depends shown known (suc skip) len (row ∷ rows) = depends shown known skip len rows
depends shown known zero zero (row ∷ rows) = true
depends shown known zero (suc len) (Field c ∷ rows) =
    field_depends shown known c && depends shown (behind_field shown known c) zero len rows
depends shown known zero (suc len) (Block presence n ∷ rows) =
    block_depends shown known presence (hides shown (take (min n len) rows)) (λ more. depends shown more zero (min n len) rows)
    && depends shown known (min n len) (len - min n len) rows
depends shown known zero (suc len) (Name name formula ∷ rows) =
    name_depends shown known name formula && depends shown (grown shown known name) zero len rows

-- What is known after rows: what was known before, and what fields and names outside of blocks add.
unfoldable pub behind_rows : List ℕ → List ℕ → ℕ → ℕ → List Row → List ℕ
behind_rows shown known skip len [] = known
behind_rows shown known (suc skip) len (row ∷ rows) = behind_rows shown known skip len rows
behind_rows shown known zero zero (row ∷ rows) = known
behind_rows shown known zero (suc len) (Field c ∷ rows) = behind_rows shown (behind_field shown known c) zero len rows
behind_rows shown known zero (suc len) (Block presence n ∷ rows) = behind_rows shown known (min n len) (len - min n len) rows
behind_rows shown known zero (suc len) (Name name formula ∷ rows) = behind_rows shown (grown shown known name) zero len rows

-- The two for a table,
unfoldable pub table_depends : List ℕ → List ℕ → List Row → Bool
table_depends shown known rows = depends shown known 0 (length rows) rows

unfoldable pub behind_table : List ℕ → List ℕ → List Row → List ℕ
behind_table shown known rows = behind_rows shown known 0 (length rows) rows

-- for a table that is present as often as a presence says,
abbrev pub rows_depend : List ℕ → List ℕ → Presence → List Row → Bool
rows_depend shown known presence rows = block_depends shown known presence (hides shown rows) (λ there. table_depends shown there rows)

unfoldable pub comes_always : Presence → Bool
comes_always (When (Plain (Number n))) = is_set n
comes_always presence = false

abbrev pub section_depends : List ℕ → List ℕ → Section → Bool
section_depends shown known section =
    cond (comes_always section.presence) (table_depends shown known section.rows) (rows_depend shown known section.presence section.rows)

abbrev pub behind_section : List ℕ → List ℕ → Section → List ℕ
behind_section shown known section = cond (comes_always section.presence) (behind_table shown known section.rows) known

-- and for the tables of a structure, each with what is known after those before it.
abbrev pub sections_chain : List ℕ → List ℕ → List Section → Bool
sections_chain shown known [] = true
sections_chain shown known (section ∷ more) = section_depends shown known section
    && sections_chain shown (behind_section shown known section) more

abbrev pub behind_sections : List ℕ → List ℕ → List Section → List ℕ
behind_sections shown known [] = known
behind_sections shown known (section ∷ more) = behind_sections shown (behind_section shown known section) more

-- The test of a table, and of a structure.
abbrev pub depends_only_on : (given shown : List ℕ) → List Row → Bool
depends_only_on given shown rows = table_depends (given ++ shown) given rows

abbrev pub sections_depend_only_on : (given shown : List ℕ) → List Section → Bool
sections_depend_only_on given shown sections = sections_chain (given ++ shown) given sections

-- The test that a structure leaves names unchanged.
abbrev pub hides_section : List ℕ → Section → Bool
hides_section names section = hides_counter names section.presence && hides names section.rows

abbrev pub sections_hide : List ℕ → List Section → Bool
sections_hide names [] = true
sections_hide names (section ∷ more) = hides_section names section && sections_hide names more
