-- The answer of a writer of the items of one value, all of which it takes. The contract of `write_struct` and the other writers
-- rely on it.
use Rattle.std.specs.Prelude.{◌≡◌, ℕ, ℤ, ◌==◌, Bool, false, List, [], ◌∷◌, ◌++◌, length, OnOk, Result, Ok, Err}
use Rattle.vx_bits.specs.declared.list.Item.{Item}
use Rattle.vx_table.specs.declared.writer.SpellError.{SpellError}
use Rattle.vx_table.specs.declared.writer.SpellError.TheVariants.{NoValue}
use Rattle.vx_table.specs.Scope.{one_if}
use Rattle.vx_table.specs.Forms.{Form, form_of}
use Rattle.vx_table.specs.Spelling.{items_along}
use Rattle.vx_table.specs.Values.{Follows, bits_along}
use Rattle.vx_table.specs.Writing.{AreItemsOf, IsWritten, IsRejected}
use Rattle.vx_fields.specs.declared.rpl.TheConstants.{ltrp_in_header_flag}
use Rattle.vx_rpl.specs.declared.numbers.RplNumbers.{RplNumbers}
use Rattle.vx_rpl.specs.declared.tables.TheConstants.{REF_PIC_LIST_STRUCT}
use Rattle.vx_rpl.specs.Numbers.{structure_scope}

-- The whole answer, unless memory runs out:
pub record WritesAll {A : Type 0} (form : Form A) (old : List Bool) (items : List Item) (result : Result (Unit {0}) SpellError)
    (new : List Bool) : Type 0 where
  -- what it has written is the spelling of values whose items these are;
  pub is : OnOk result ((values : List ℤ) × (end : A) × AreItemsOf form items values end []
      × (new ≡ old ++ bits_along form (length old) values))
  -- items of values are written, and their spelling is appended;
  pub only : (values : List ℤ) (end : A) → AreItemsOf form items values end []
      → IsWritten result (new ≡ old ++ bits_along form (length old) values)
  -- other items aren't;
  pub none : ((values : List ℤ) (end : A) → AreItemsOf form items values end [] → ⊥) → IsRejected result
  -- and the bits that were there before remain.
  pub gained : (more : List Bool) × (new ≡ old ++ more)

-- The result of writing if these items are left.
abbrev pub all_taken : Result (Unit {0}) SpellError → List Item → Result (Unit {0}) SpellError
all_taken (Ok u) [] = Ok u
all_taken (Ok u) (item ∷ left) = Err NoValue
all_taken (Err e) left = Err e

-- A structure is spelled alike in an SPS and in a header, except for ltrp_in_header_flag, which only an SPS has. So it is one of
-- an SPS if that flag comes after its number of entries.
abbrev pub is_second : ℕ → List Item → Bool
is_second of (first ∷ second ∷ items) = second.field == of
is_second of items = false

abbrev pub own_scope : RplNumbers → List Item → List ℕ
own_scope numbers items = structure_scope numbers 0 (one_if (is_second ltrp_in_header_flag items))

-- Values go through a form and through another, with the same items and the same bits.
pub record GoAlike (form other : Form (List ℕ)) (values : List ℤ) : Type 0 where
  pub end : List ℕ
  pub follows : Follows other values end
  pub items : items_along other values ≡ items_along form values
  pub bits : (place : ℕ) → bits_along other place values ≡ bits_along form place values

-- So the items of a structure are written as the structure wherever it is, with any index and count.
abbrev pub structure_at : RplNumbers → ℕ → ℕ → Form (List ℕ)
structure_at numbers index count = form_of REF_PIC_LIST_STRUCT (structure_scope numbers index count)

abbrev pub StructuresWrittenAlike : Type 0
StructuresWrittenAlike = (numbers : RplNumbers) (index count : ℕ) (values : List ℤ) (end : List ℕ)
    → Follows (structure_at numbers index count) values end
    → GoAlike (structure_at numbers index count)
    (form_of REF_PIC_LIST_STRUCT (own_scope numbers (items_along (structure_at numbers index count) values))) values
