-- Fields that numbers hide: if some fields and names have the number 0, then what is under a condition that is then 0 is absent.
use Rattle.std.specs.Prelude.{◌≡◌, ℕ, ℤ, zero, suc, ◌-◌, min, Bool, true, false, cond, not, ◌&&◌, ◌||◌, ◌==◌, IsTrue, IsFalse, List, [], ◌∷◌}
use Rattle.std.specs.Prelude.{length, slice_index, slice_set}
use Rattle.vx_table.specs.declared.rows.Term.{Term}
use Rattle.vx_table.specs.declared.rows.Term.TheVariants.{Number, Latest}
use Rattle.vx_table.specs.declared.rows.Formula.{Formula}
use Rattle.vx_table.specs.declared.rows.Formula.TheVariants.{Plain, Minus, Times, Least, Both, Either}
use Rattle.vx_table.specs.declared.rows.Presence.{Presence}
use Rattle.vx_table.specs.declared.rows.Presence.TheVariants.{When, Repeat}
use Rattle.vx_table.specs.declared.rows.Row.{Row}
use Rattle.vx_table.specs.declared.rows.Row.TheVariants.{Field, Block, Name}
use Rattle.vx_table.specs.Forms.{Form, done, field, ◌>>=◌, present, form_of}
use Rattle.vx_table.specs.Parts.{Section, sections_form}
use Rattle.vx_table.specs.Spelling.{items_along}
use Rattle.vx_table.specs.Values.{Follows}
use Rattle.vx_table.specs.Depends.{has, Leaves}
use Rattle.vx_table.specs.Claims.{comes_always, hides_counter}
use Rattle.vx_table.specs.Shown.{shown_items}

-- A form has no field of these names, and this holds for the scopes at its ends.
abbrev pub IsAbsent : List ℕ → (List ℕ → Type 0) → Form (List ℕ) → Type 0
IsAbsent names E (done t) = E t
IsAbsent names E (field cell goes) = IsFalse (has names cell.field) × ((v : ℤ) → IsAbsent names E (goes v))

-- These fields and names have the number 0.
pub record AreZero (zeros s : List ℕ) : Type 0 where
  pub at : (n : ℕ) → IsTrue (has zeros n) → slice_index s n ≡ 0

-- If some numbers are 0, then a structure has no field of these names, and at its end the numbers are still 0.
pub record AreHidden (names zeros : List ℕ) (form : List ℕ → Form (List ℕ)) : Type 0 where
  pub at : (s : List ℕ) → AreZero zeros s → IsAbsent names (AreZero zeros) (form s)

-- Its items are then of none of them.
abbrev pub HiddenHaveNoItems : Type 0
HiddenHaveNoItems = (names zeros : List ℕ) (form : List ℕ → Form (List ℕ)) (s : List ℕ) (values : List ℤ) (end : List ℕ)
    → AreHidden names zeros form → AreZero zeros s → Follows (form s) values end
    → (shown_items names (items_along (form s) values) ≡ []) × AreZero zeros end

-- ---- the test over rows

-- A formula that is 0 if these numbers are 0.
abbrev pub is_zero_term : List ℕ → Term → Bool
is_zero_term zeros (Number n) = n == 0
is_zero_term zeros (Latest of) = has zeros of

unfoldable pub is_zero : List ℕ → Formula → Bool
is_zero zeros (Plain a) = is_zero_term zeros a
is_zero zeros (Minus a b) = is_zero_term zeros a
is_zero zeros (Times a b) = is_zero_term zeros a || is_zero_term zeros b
is_zero zeros (Least a b) = is_zero_term zeros a || is_zero_term zeros b
is_zero zeros (Both a b) = is_zero_term zeros a || is_zero_term zeros b
is_zero zeros (Either a b) = is_zero_term zeros a && is_zero_term zeros b
is_zero zeros formula = false

-- A block that is then absent.
unfoldable pub never_comes : List ℕ → Presence → Bool
never_comes zeros (When holds) = is_zero zeros holds
never_comes zeros (Repeat counter times) = is_zero zeros times

-- A block is absent, or its counter is none of the numbers that are 0 and what is in it is hidden.
abbrev pub block_hides : List ℕ → Presence → Bool → Bool
block_hides zeros presence inside = never_comes zeros presence || (hides_counter zeros presence && inside)

-- A name is given a number that is then 0, or isn't one of those that are 0.
abbrev pub name_hides : List ℕ → ℕ → Formula → Bool
name_hides zeros name formula = is_zero zeros formula || not (has zeros name)

abbrev pub with_name : List ℕ → ℕ → Formula → List ℕ
with_name zeros name formula = cond (is_zero zeros formula) (name ∷ zeros) zeros

-- No field of the names is left, and none of the numbers changes. This is said of len rows after the first skip rows.
unfoldable pub rows_hide : List ℕ → List ℕ → ℕ → ℕ → List Row → Bool
rows_hide names zeros skip len [] = true
rows_hide names zeros (suc skip) len (row ∷ rows) = rows_hide names zeros skip len rows
rows_hide names zeros zero zero (row ∷ rows) = true
rows_hide names zeros zero (suc len) (Field c ∷ rows) =
    (not (has names c.field) && not (has zeros c.field)) && rows_hide names zeros zero len rows
rows_hide names zeros zero (suc len) (Block presence n ∷ rows) =
    block_hides zeros presence (rows_hide names zeros zero (min n len) rows) && rows_hide names zeros (min n len) (len - min n len) rows
rows_hide names zeros zero (suc len) (Name name formula ∷ rows) =
    name_hides zeros name formula && rows_hide names (with_name zeros name formula) zero len rows

-- The numbers that are 0 after rows: those before, and names outside of blocks that are given 0.
unfoldable pub zeros_behind : List ℕ → ℕ → ℕ → List Row → List ℕ
zeros_behind zeros skip len [] = zeros
zeros_behind zeros (suc skip) len (row ∷ rows) = zeros_behind zeros skip len rows
zeros_behind zeros zero zero (row ∷ rows) = zeros
zeros_behind zeros zero (suc len) (Field c ∷ rows) = zeros_behind zeros zero len rows
zeros_behind zeros zero (suc len) (Block presence n ∷ rows) = zeros_behind zeros (min n len) (len - min n len) rows
zeros_behind zeros zero (suc len) (Name name formula ∷ rows) = zeros_behind (with_name zeros name formula) zero len rows

-- The two for a table, and for the tables of a structure.
unfoldable pub table_hides : List ℕ → List ℕ → List Row → Bool
table_hides names zeros rows = rows_hide names zeros 0 (length rows) rows

unfoldable pub behind_zeros : List ℕ → List Row → List ℕ
behind_zeros zeros rows = zeros_behind zeros 0 (length rows) rows

abbrev pub section_hides : List ℕ → List ℕ → Section → Bool
section_hides names zeros section = cond (comes_always section.presence) (table_hides names zeros section.rows)
    (block_hides zeros section.presence (table_hides names zeros section.rows))

abbrev pub behind_there : List ℕ → Section → List ℕ
behind_there zeros section = cond (comes_always section.presence) (behind_zeros zeros section.rows) zeros

abbrev pub sections_hide_where : List ℕ → List ℕ → List Section → Bool
sections_hide_where names zeros [] = true
sections_hide_where names zeros (section ∷ more) = section_hides names zeros section
    && sections_hide_where names (behind_there zeros section) more

-- If the test holds, then the fields are hidden.
abbrev pub TablesHide : Type 0
TablesHide = (names zeros : List ℕ) (rows : List Row) → table_hides names zeros rows ≡ true
    → AreHidden names zeros (form_of rows)

abbrev pub SectionsHide : Type 0
SectionsHide = (names zeros : List ℕ) (sections : List Section) → sections_hide_where names zeros sections ≡ true
    → AreHidden names zeros (sections_form sections)

-- ---- parts

-- One part after another, one that is repeated, a name that is given a number, and a part that leaves all of them unchanged.
abbrev pub HiddenTogether : Type 0
HiddenTogether = (names zeros : List ℕ) (form next : List ℕ → Form (List ℕ)) → AreHidden names zeros form → AreHidden names zeros next
    → AreHidden names zeros (λ s. form s >>= next)

abbrev pub HiddenPresent : Type 0
HiddenPresent = (names zeros : List ℕ) (presence : Presence) (form : List ℕ → Form (List ℕ)) → hides_counter zeros presence ≡ true
    → AreHidden names zeros form → AreHidden names zeros (present presence form)

abbrev pub SetsHide : Type 0
SetsHide = (names zeros : List ℕ) (n : ℕ) (v : List ℕ → ℕ) → IsFalse (has zeros n) → AreHidden names zeros (λ s. done (slice_set s n (v s)))

abbrev pub LeftHide : Type 0
LeftHide = (names zeros : List ℕ) (form : List ℕ → Form (List ℕ)) → Leaves names form → Leaves zeros form → AreHidden names zeros form
