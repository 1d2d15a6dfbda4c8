-- How items of whole structures are spelled, one structure after another. The contract of `write_run` relies on it.
use Rattle.std.specs.Prelude.{◌≡◌, ℕ, ℤ, ◌-◌, ◌+◌, ◌≤◌, Bool, List, [], ◌++◌, length, All}
use Rattle.vx_bits.specs.declared.list.Item.{Item}
use Rattle.vx_table.specs.Forms.{Form, form_of}
use Rattle.vx_table.specs.Spelling.{Spells, items_along}
use Rattle.vx_table.specs.Values.{Follows, bits_along}
use Rattle.vx_ptl.specs.declared.tables.TheConstants.{PTL, DPB, TIMING, SUBLAYER_TIMING}
use Rattle.vx_ptl.specs.Run.{run_bits, IsRunItem}

-- A structure of fields 11 to 60, at any scope.
pub data IsStructure : Form (List ℕ) → Type 0 where
  profile_tier_level : (scope : List ℕ) → IsStructure (form_of PTL scope)
  dpb_parameters : (scope : List ℕ) → IsStructure (form_of DPB scope)
  general_timing : (scope : List ℕ) → IsStructure (form_of TIMING scope)
  timing_of_sublayers : (scope : List ℕ) → IsStructure (form_of SUBLAYER_TIMING scope)

-- From this place on the bits are the spelling of the structures whose items these are, one after another.
pub data SpellStructures : ℕ → List Item → List Bool → Type 0 where
  no_more : {place : ℕ} → SpellStructures place [] []
  one_more : {form : Form (List ℕ)} {values : List ℤ} {scope : List ℕ} {place : ℕ} {items : List Item} {bits : List Bool}
      → IsStructure form → Follows form values scope → SpellStructures (place + length (bits_along form place values)) items bits
      → SpellStructures place (items_along form values ++ items) (bits_along form place values ++ bits)

-- Each of these items can be written, and their bits, after whatever item, are these.
abbrev pub AreWritten : ℕ → List Item → List Bool → Type 0
AreWritten place items bits = All IsRunItem items × ((before : ℕ) → run_bits before place items ≡ bits)

-- If the items are those of structures, then what is appended is their spelling.
abbrev pub AppendsSpelling : List Bool → List Item → List Bool → Type 0
AppendsSpelling old items new = (bits : List Bool) → SpellStructures (length old) items bits → new ≡ old ++ bits

-- A structure's items are written as its spelling.
abbrev pub StructuresAreSpelled : Type 0
StructuresAreSpelled = (form : Form (List ℕ)) (values : List ℤ) (scope : List ℕ) (place : ℕ)
    → IsStructure form → Follows form values scope → AreWritten place (items_along form values) (bits_along form place values)

-- So are the items of several structures.
abbrev pub RunsAreSpelled : Type 0
RunsAreSpelled = (place : ℕ) (items : List Item) (bits : List Bool) → SpellStructures place items bits → AreWritten place items bits

-- From the bits that are left, out of `total`, up to the rest, structures were read one after another, and these are their items.
pub data ReadStructures (total : ℕ) : List Bool → List Item → List Bool → Type 0 where
  all_read : {rest : List Bool} → ReadStructures total rest [] rest
  one_read : {form : Form (List ℕ)} {values : List ℤ} {items : List Item} {left mid rest : List Bool}
      → IsStructure form → Spells total form values left mid → ReadStructures total mid items rest
      → ReadStructures total left (items_along form values ++ items) rest

-- The items that were read are written, at the same place, as the bits that they were read from.
abbrev pub WritesWhatWasRead : Type 0
WritesWhatWasRead = (total : ℕ) (items : List Item) (left rest : List Bool)
    → length left ≤ total → ReadStructures total left items rest
    → (bits : List Bool) × (left ≡ bits ++ rest) × AreWritten (total - length left) items bits
