-- The test of a table, and what is known behind it, by its first row.
use Rattle.std.proofs.Common.{◌≡◌, ℕ, zero, suc, ◌+◌, ◌-◌, ◌*◌, ◌≤◌, min, Bool, true, false, ◌&&◌, List, [], ◌∷◌, ◌++◌, length, take, drop, refl, ap, sym, ◌∙◌, arith}
use Rattle.std.proofs.Math.Bool.{and-true}
use Rattle.std.proofs.Math.Path.{fun_ext}
use Rattle.std.proofs.lemmas.List.{take-append-le, take-append-drop, length-take-le, length-drop}
use Rattle.vx_table.specs.declared.rows.Formula.{Formula}
use Rattle.vx_table.specs.declared.rows.Cell.{Cell}
use Rattle.vx_table.specs.declared.rows.Presence.{Presence}
use Rattle.vx_table.specs.declared.rows.Presence.TheVariants.{When, Repeat}
use Rattle.vx_table.specs.declared.rows.Row.{Row}
use Rattle.vx_table.specs.declared.rows.Row.TheVariants.{Field, Block, Name}
use Rattle.vx_table.specs.declared.parts.Part.{Part}
use Rattle.vx_table.specs.Forms.{has_value}
use Rattle.vx_table.specs.Parts.{Section}
use Rattle.vx_table.specs.Claims.{hides_counter, hides, knows_presence, grown, behind_field, within_block, block_depends, field_depends, name_depends, depends, table_depends, rows_depend, behind_rows, behind_table, sections_chain}
use Rattle.vx_table.specs.inner.Names.{chain}

-- the rows behind the first few
depends-drop : (shown known : List ℕ) (skip len : ℕ) (rows : List Row) → depends shown known skip len rows ≡ depends shown known 0 len (drop skip rows)
unfolding depends
depends-drop shown known zero len [] = refl
depends-drop shown known (suc skip) len [] = refl
depends-drop shown known zero len (row ∷ rows) = refl
depends-drop shown known (suc skip) len (row ∷ rows) = depends-drop shown known skip len rows

-- rows that stand behind don't change it
depends-append : (shown known : List ℕ) (skip len : ℕ) (rows more : List Row) → skip + len ≤ length rows → depends shown known skip len (rows ++ more) ≡ depends shown known skip len rows
unfolding depends
depends-append shown known zero zero [] [] fits = refl
depends-append shown known zero zero [] (row ∷ more) fits = refl
depends-append shown known zero (suc len) [] more fits = absurd (omega arith)
depends-append shown known (suc skip) len [] more fits = absurd (omega arith)
depends-append shown known (suc skip) len (row ∷ rows) more fits = depends-append shown known skip len rows more (omega arith)
depends-append shown known zero zero (row ∷ rows) more fits = refl
depends-append shown known zero (suc len) (Field c ∷ rows) more fits =
    ap (λ rest. field_depends shown known c && rest) (depends-append shown (behind_field shown known c) 0 len rows more (omega arith))
depends-append shown known zero (suc len) (Block presence n ∷ rows) more fits =
    let block = take-append-le (min n len) rows more (omega arith) in
    let behind = depends-append shown known (min n len) (len - min n len) rows more (omega arith) in
    let within : (λ there. depends shown there 0 (min n len) (rows ++ more)) ≡ (λ there. depends shown there 0 (min n len) rows)
    = fun_ext (λ there. depends-append shown there 0 (min n len) rows more (omega arith)) in
    rw (block, behind) (ap (λ inside. block_depends shown known presence (hides shown (take (min n len) rows)) inside && depends shown known (min n len) (len - min n len) rows) within)
depends-append shown known zero (suc len) (Name name formula ∷ rows) more fits =
    ap (λ rest. name_depends shown known name formula && rest) (depends-append shown (grown shown known name) 0 len rows more (omega arith))

depends-take : (shown known : List ℕ) (len : ℕ) (rows : List Row) → len ≤ length rows → depends shown known 0 len rows ≡ table_depends shown known (take len rows)
unfolding table_depends
depends-take shown known len rows fits =
    let whole = take-append-drop len rows in
    let few = length-take-le len rows fits in
    let cut = depends-append shown known 0 len (take len rows) (drop len rows) (omega arith) in
    rw few (rw whole at cut)

depends-behind : (shown known : List ℕ) (n : ℕ) (rows : List Row)
    → depends shown known (min n (length rows)) (length rows - min n (length rows)) rows ≡ table_depends shown known (drop (min n (length rows)) rows)
unfolding table_depends
depends-behind shown known n rows =
    depends-drop shown known (min n (length rows)) (length rows - min n (length rows)) rows
    ∙ ap (λ len. depends shown known 0 len (drop (min n (length rows)) rows)) (sym (length-drop (min n (length rows)) rows))

pub test-field : (shown known : List ℕ) (c : Cell Formula) (rows : List Row)
    → table_depends shown known (Field c ∷ rows) ≡ (field_depends shown known c && table_depends shown (behind_field shown known c) rows)
unfolding depends table_depends
test-field shown known c rows = refl

pub test-name : (shown known : List ℕ) (name : ℕ) (formula : Formula) (rows : List Row)
    → table_depends shown known (Name name formula ∷ rows) ≡ (name_depends shown known name formula && table_depends shown (grown shown known name) rows)
unfolding depends table_depends
test-name shown known name formula rows = refl

pub test-block : (shown known : List ℕ) (presence : Presence) (n : ℕ) (rows : List Row)
    → table_depends shown known (Block presence n ∷ rows)
    ≡ (rows_depend shown known presence (take (min n (length rows)) rows) && table_depends shown known (drop (min n (length rows)) rows))
unfolding depends table_depends
test-block shown known presence n rows =
    let within : (λ there. depends shown there 0 (min n (length rows)) rows) ≡ (λ there. table_depends shown there (take (min n (length rows)) rows))
    = fun_ext (λ there. depends-take shown there (min n (length rows)) rows (omega arith)) in
    rw (depends-behind shown known n rows)
    (ap (λ inside. block_depends shown known presence (hides shown (take (min n (length rows)) rows)) inside && table_depends shown known (drop (min n (length rows)) rows)) within)

pub test-none : (shown known : List ℕ) (rows : List Row) → length rows ≡ 0 → table_depends shown known rows ≡ true
unfolding depends table_depends
test-none shown known [] none = refl
test-none shown known (row ∷ rows) none = absurd (omega arith)

-- ---- what is known behind

behind-drop : (shown known : List ℕ) (skip len : ℕ) (rows : List Row) → behind_rows shown known skip len rows ≡ behind_rows shown known 0 len (drop skip rows)
unfolding behind_rows
behind-drop shown known zero len [] = refl
behind-drop shown known (suc skip) len [] = refl
behind-drop shown known zero len (row ∷ rows) = refl
behind-drop shown known (suc skip) len (row ∷ rows) = behind-drop shown known skip len rows

pub behind-first-field : (shown known : List ℕ) (c : Cell Formula) (rows : List Row) → behind_table shown known (Field c ∷ rows) ≡ behind_table shown (behind_field shown known c) rows
unfolding behind_rows behind_table
behind-first-field shown known c rows = refl

pub behind-first-name : (shown known : List ℕ) (name : ℕ) (formula : Formula) (rows : List Row)
    → behind_table shown known (Name name formula ∷ rows) ≡ behind_table shown (grown shown known name) rows
unfolding behind_rows behind_table
behind-first-name shown known name formula rows = refl

pub behind-first-block : (shown known : List ℕ) (presence : Presence) (n : ℕ) (rows : List Row)
    → behind_table shown known (Block presence n ∷ rows) ≡ behind_table shown known (drop (min n (length rows)) rows)
unfolding behind_rows behind_table
behind-first-block shown known presence n rows =
    behind-drop shown known (min n (length rows)) (length rows - min n (length rows)) rows
    ∙ ap (λ len. behind_rows shown known 0 len (drop (min n (length rows)) rows)) (sym (length-drop (min n (length rows)) rows))

pub behind-none : (shown known : List ℕ) (rows : List Row) → length rows ≡ 0 → behind_table shown known rows ≡ known
unfolding behind_rows behind_table
behind-none shown known [] none = refl
behind-none shown known (row ∷ rows) none = absurd (omega arith)

-- ---- the test of rows and of parts behind them, by the first row

and_on : (a b c : Bool) → ((a && b) && c) ≡ (a && (b && c))
and_on true b c = refl
and_on false b c = refl

pub chain-none : (shown known : List ℕ) (rows : List Row) (more : List Section) → length rows ≡ 0 → chain shown known rows more ≡ sections_chain shown known more
chain-none shown known rows more none = rw (test-none shown known rows none, behind-none shown known rows none) refl

pub chain-field : (shown known : List ℕ) (rows : List Row) (more : List Section) (c : Cell Formula)
    → chain shown known (Field c ∷ rows) more ≡ (field_depends shown known c && chain shown (behind_field shown known c) rows more)
chain-field shown known rows more c = rw (test-field shown known c rows, behind-first-field shown known c rows)
    (and_on (field_depends shown known c) (table_depends shown (behind_field shown known c) rows) (sections_chain shown (behind_table shown (behind_field shown known c) rows) more))

pub chain-name : (shown known : List ℕ) (rows : List Row) (more : List Section) (name : ℕ) (formula : Formula)
    → chain shown known (Name name formula ∷ rows) more ≡ (name_depends shown known name formula && chain shown (grown shown known name) rows more)
chain-name shown known rows more name formula = rw (test-name shown known name formula rows, behind-first-name shown known name formula rows)
    (and_on (name_depends shown known name formula) (table_depends shown (grown shown known name) rows) (sections_chain shown (behind_table shown (grown shown known name) rows) more))

pub chain-block : (shown known : List ℕ) (rows : List Row) (more : List Section) (presence : Presence) (n : ℕ)
    → chain shown known (Block presence n ∷ rows) more
    ≡ (rows_depend shown known presence (take (min n (length rows)) rows) && chain shown known (drop (min n (length rows)) rows) more)
chain-block shown known rows more presence n = rw (test-block shown known presence n rows, behind-first-block shown known presence n rows)
    (and_on (rows_depend shown known presence (take (min n (length rows)) rows)) (table_depends shown known (drop (min n (length rows)) rows))
    (sections_chain shown (behind_table shown known (drop (min n (length rows)) rows)) more))

-- of a field with a value, and of one without
pub behind-valued : (shown known : List ℕ) (c : Cell Formula) → has_value c.coding ≡ true → behind_field shown known c ≡ grown shown known c.field
unfolding behind_field
behind-valued shown known c has = rw has refl

pub behind-gap : (shown known : List ℕ) (c : Cell Formula) → has_value c.coding ≡ false → behind_field shown known c ≡ known
unfolding behind_field
behind-gap shown known c none = rw none refl

-- of a block that isn't hidden
block-known : (shown known : List ℕ) (presence : Presence) (rows : List Row) → (hides_counter shown presence && hides shown rows) ≡ false → knows_presence known presence ≡ true
    → rows_depend shown known presence rows ≡ chain shown (within_block shown known presence) rows []
block-known shown known presence rows there knows = rw (there, knows) (sym (and-true (table_depends shown (within_block shown known presence) rows)))

pub block-when : (shown known : List ℕ) {presence : Presence} {holds : Formula} (rows : List Row) → presence ≡ When holds
    → (hides_counter shown presence && hides shown rows) ≡ false → knows_presence known presence ≡ true → rows_depend shown known presence rows ≡ chain shown known rows []
unfolding within_block
block-when shown known {presence} rows is there knows = block-known shown known presence rows there knows ∙ ap (λ p. chain shown (within_block shown known p) rows []) is

pub block-repeat : (shown known : List ℕ) {presence : Presence} {counter : ℕ} {times : Formula} (rows : List Row) → presence ≡ Repeat counter times
    → (hides_counter shown presence && hides shown rows) ≡ false → knows_presence known presence ≡ true
    → rows_depend shown known presence rows ≡ chain shown (grown shown known counter) rows []
unfolding within_block
block-repeat shown known {presence} rows is there knows = block-known shown known presence rows there knows ∙ ap (λ p. chain shown (within_block shown known p) rows []) is

-- how long the tests of parts are at most
abbrev pub weight : List Part → ℕ
weight [] = 0
weight (part ∷ parts) = 3 * length part.rows.now + 4 + weight parts
