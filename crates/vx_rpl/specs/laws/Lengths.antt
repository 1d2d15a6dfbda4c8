-- The number of entries of a structure, from its items.
use Rattle.std.specs.Prelude.{◌≡◌, ℕ, ℤ, Bool, List, length, count_by, slice_index}
use Rattle.vx_bits.specs.declared.list.Item.{Item}
use Rattle.vx_table.specs.Scope.{fresh}
use Rattle.vx_table.specs.Forms.{form_of}
use Rattle.vx_table.specs.Spelling.{items_along}
use Rattle.vx_table.specs.Values.{Follows}
use Rattle.vx_fields.specs.declared.names.rpl.TheConstants.{LONG_ENTRIES}
use Rattle.vx_fields.specs.declared.rpl.TheConstants.{num_ref_entries}
use Rattle.vx_rpl.specs.declared.entry.RefEntry.{RefEntry}
use Rattle.vx_rpl.specs.declared.tables.TheConstants.{REF_PIC_LIST_STRUCT}
use Rattle.vx_rpl.specs.HeaderLists.{behind_next}
use Rattle.vx_rpl.specs.Lists.{is_long}
use Rattle.vx_rpl.specs.Resolved.{structure_of}

-- The entries that a structure's items determine.
abbrev pub entries_spelled : Bool → List Item → List RefEntry
entries_spelled weighted items = (structure_of weighted (behind_next num_ref_entries items)).entries

-- They are as many as num_ref_entries, and as many of them are long-term ones as a walk counts.
abbrev pub EntriesAreCounted : Type 0
EntriesAreCounted = (weighted : Bool) (s : List ℕ) (values : List ℤ) (end : List ℕ) → length s ≡ length fresh
    → Follows (form_of REF_PIC_LIST_STRUCT s) values end
    → (length (entries_spelled weighted (items_along (form_of REF_PIC_LIST_STRUCT s) values)) ≡ slice_index end num_ref_entries)
    × (count_by is_long (entries_spelled weighted (items_along (form_of REF_PIC_LIST_STRUCT s) values)) ≡ slice_index end LONG_ENTRIES)
