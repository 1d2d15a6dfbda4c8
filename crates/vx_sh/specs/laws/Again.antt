-- What follows from the dependencies of the fields of a slice header, in the form in which it is used.
use Rattle.std.specs.Prelude.{ℕ, ℤ, List, ◌++◌, Result}
use Rattle.vx_bits.specs.declared.list.Item.{Item}
use Rattle.vx_bits.specs.declared.refusal.ReadError.{ReadError}
use Rattle.vx_bits.specs.Place.{Place}
use Rattle.vx_table.specs.Parts.{sections_form}
use Rattle.vx_table.specs.Spelling.{items_along}
use Rattle.vx_table.specs.Values.{Follows}
use Rattle.vx_table.specs.Reading.{Reads}
use Rattle.vx_table.specs.Depends.{Agree}
use Rattle.vx_table.specs.Shown.{shown_items}
use Rattle.vx_table.specs.Rewritten.{IsRewritten}
use Rattle.vx_table.specs.Rewrites.{Takes}
use Rattle.vx_rpl.specs.declared.entry.RplTable.{RplTable}
use Rattle.vx_sh.specs.Slice.{own, qp, rest_form}
use Rattle.vx_sh.specs.Depends.{kept_given, kept_with_names, all_given}

-- The same bits, read at scopes that agree on all numbers that are read, have the same answer: the same items and the same end, or
-- the same refusal at the same bit.
abbrev pub SlicesReadAgain : Type 0
SlicesReadAgain = (table : RplTable) (points : ℕ → ℕ) (s t : List ℕ) (old new : Place) (items after : List Item)
    (result : Result (Unit {0}) ReadError)
    → Agree all_given s t → Reads (rest_form table points s) old items result new after
    → Reads (rest_form table points t) old items result new after

-- The kept fields with the names that their rows use, and what they depend on.
abbrev pub kept : List ℕ
kept = kept_given ++ kept_with_names

-- A slice header can be rewritten at each scope that agrees on the numbers that kept fields depend on. It then has its kept fields,
-- another filter, other uses of LMCS and scaling lists, and another QP, whatever the scope requires for these.
abbrev pub SlicesRewrite : Type 0
SlicesRewrite = (table : RplTable) (points : ℕ → ℕ) (s t : List ℕ) (values : List ℤ) (end : List ℕ) (uses delta : List Item)
    → Agree kept_given s t → Follows (rest_form table points s) values end → Takes (sections_form own t) uses
    → Takes (sections_form qp t) delta
    → (items : List Item)
    × IsRewritten (rest_form table points t) kept (shown_items kept (items_along (rest_form table points s) values)) (uses ++ delta) items
