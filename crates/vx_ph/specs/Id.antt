-- The id of the PPS to which a picture header refers, which comes before all that depends on the sets. The contract of
-- `read_pps_id` relies on it.
use Rattle.std.specs.Prelude.{◌≡◌, ℕ, ℤ, Bool, List, [], ◌∷◌, length, Ok}
use Rattle.vx_bits.specs.declared.list.Item.{Item}
use Rattle.vx_bits.specs.Place.{Place}
use Rattle.vx_table.specs.Scope.{fresh}
use Rattle.vx_table.specs.Forms.{Form}
use Rattle.vx_table.specs.Parts.{Section, always, sections_form}
use Rattle.vx_table.specs.Spelling.{Spells, items_along}
use Rattle.vx_table.specs.Loaded.{number}
use Rattle.vx_table.specs.Reading.{Reads, at_front}
use Rattle.vx_fields.specs.declared.ph.TheConstants.{ph_pic_parameter_set_id}
use Rattle.vx_rpl.specs.declared.entry.RplTable.{RplTable}
use Rattle.vx_ph.specs.declared.header.PictureHeader.{PictureHeader}
use Rattle.vx_ph.specs.declared.tables.TheConstants.{PICTURE, PPS_ID}
use Rattle.vx_ph.specs.Header.{header_form}
use Rattle.vx_ph.specs.Picture.{IsPictureHeaderUnit}

-- A header up to the id (ph_pic_parameter_set_id, 7.3.2.8).
abbrev pub to_id : List Section
to_id = always PICTURE ∷ always PPS_ID ∷ []

unfoldable pub pps_id_form : Form (List ℕ)
pps_id_form = sections_form to_id fresh

-- This is the id in the header with whose spelling the bits begin.
abbrev pub IsId : Place → ℕ → Type 0
IsId place id = (values : List ℤ) (rest : List Bool) → Spells place.total pps_id_form values place.left rest
    → number (items_along pps_id_form values) ph_pic_parameter_set_id ≡ id

-- It is the id of each header with which they begin, for any sets.
abbrev pub HeaderHasId : Type 0
HeaderHasId = (table : RplTable) (s : List ℕ) (place : Place) (id : ℕ) (values : List ℤ) (rest : List Bool)
    → length s ≡ 1024 → IsId place id → Spells place.total (header_form table s) values place.left rest
    → number (items_along (header_form table s) values) ph_pic_parameter_set_id ≡ id

-- A unit begins with items up to the id that a reader returns, for any sets, and its header's id is theirs.
abbrev pub UnitHasId : Type 0
UnitHasId = (table : RplTable) (s : List ℕ) (header : PictureHeader) (bytes : List ℕ) → length s ≡ 1024 → IsPictureHeaderUnit table s header bytes
    → (items : List Item) × ((new : Place) × Reads {B = Unit {0}} pps_id_form (at_front bytes) [] (Ok tt) new items)
    × (number header.fields ph_pic_parameter_set_id ≡ number items ph_pic_parameter_set_id)
