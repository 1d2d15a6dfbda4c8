-- A structure that is rewritten and written in one walk. Our own. The contracts of `Sender` rely on it.
use Rattle.std.specs.Prelude.{◌≡◌, ℕ, ℤ, Bool, IsFalse, List, [], ◌∷◌, ◌++◌, length, IfOk, Result, Ok, Err}
use Rattle.vx_bits.specs.declared.list.Item.{Item}
use Rattle.vx_table.specs.declared.rows.Cell.{Cell}
use Rattle.vx_table.specs.declared.writer.SpellError.{SpellError}
use Rattle.vx_table.specs.declared.writer.SpellError.TheVariants as errors
use Rattle.vx_table.specs.Forms.{Form}
use Rattle.vx_table.specs.Walks.{Walks, leaving}
use Rattle.vx_table.specs.Spelling.{code_of, item_of}
use Rattle.vx_table.specs.Values.{IsValueOf, bits_along}
use Rattle.vx_table.specs.Writing.{WritesField, IsWritten}
use Rattle.vx_table.specs.Depends.{has}
use Rattle.vx_table.specs.Rewritten.{Sources, TakesItems, HasNoItem, RewritesField, IsRewritten}

-- The next item is of no field of the set.
abbrev pub BeginsWithOther : List ℕ → List Item → Type 0
BeginsWithOther names [] = Unit {0}
BeginsWithOther names (item ∷ more) = IsFalse (has names item.field)

-- What a sender does at one field: its item is taken, and its code appended; after an error no code is appended.
abbrev pub SendsField : Sources → List Bool → Cell ℕ → Result ℤ SpellError → Sources → List Bool → Type 0
SendsField old bits cell (Ok v) new after = IsValueOf cell v × TakesItems (item_of cell v) old new
    × (after ≡ bits ++ code_of cell.coding (length bits) v)
SendsField old bits cell (Err errors.Memory) new after = after ≡ bits
SendsField old bits cell (Err errors.NoValue) new after = HasNoItem cell old × (after ≡ bits)

-- A rewriter makes items of the structure, with the same answer; if it reaches the end, then a writer of these items has appended
-- these bits.
pub record IsSentAs {A : Type 0} (form : Form A) (old : Sources) (bits : List Bool) (result : Result A SpellError) (new : Sources)
    (after : List Bool) : Type 0 where
  pub items : List Item
  pub rewritten : Walks RewritesField form old [] result new items
  pub written : IfOk result (λ end. Walks WritesField form bits items (Ok end) after [])

-- Every walk of a sender is that of a rewriter followed by a writer.
abbrev pub SentAsRewritten : Type 0
SentAsRewritten = (form : Form (List ℕ)) (old new : Sources) (bits after : List Bool) (result : Result (List ℕ) SpellError)
    → Walks SendsField form old bits result new after → IsSentAs form old bits result new after

-- So from the items that a rewritten structure has of each kind it writes that structure.
abbrev pub SendsRewritten : Type 0
SendsRewritten = (form : Form (List ℕ)) (old new : Sources) (items : List Item) (after : List Bool) (end : List ℕ)
    (result : Result (Unit {0}) SpellError)
    → Walks SendsField form old [] (leaving end result) new after → (is : IsRewritten form old.names old.shown old.others items)
    → IsWritten result (after ≡ bits_along form 0 is.values)
