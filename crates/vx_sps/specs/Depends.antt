-- The kept fields of a set, and what they depend on. Our own. The contract of `keep_sps`, and definitions of kept fields, rely on
-- it.
use Rattle.std.specs.Prelude.{◌≡◌, ℕ, ℤ, List, [], ◌∷◌, ◌++◌}
use Rattle.vx_bits.specs.declared.list.Item.{Item}
use Rattle.vx_fields.specs.declared.names.rpl.TheConstants.{NUM_STRUCTURES, STRUCTURE, IN_SPS, IN_HEADER, MAY_WEIGHT, ENTRY, MAY_BE_0}
use Rattle.vx_fields.specs.declared.names.rpl.TheConstants.{HAS_SIGN, IS_LONG, LONG_ENTRIES}
use Rattle.vx_fields.specs.declared.names.sps.TheConstants.{EXTRA_BIT, NUM_QP_TABLES, QP_TABLE, QP_POINT, INTERVAL, VUI_BYTE}
use Rattle.vx_fields.specs.declared.sps.TheConstants as sps
use Rattle.vx_table.specs.Depends.{DependsOnlyOn}
use Rattle.vx_table.specs.Kept.{kept_along}
use Rattle.vx_table.specs.Parts.{sections_form}
use Rattle.vx_table.specs.Rewritten.{other_items}
use Rattle.vx_table.specs.Shown.{shown_items, KeepsOnly}
use Rattle.vx_table.specs.Spelling.{items_along}
use Rattle.vx_table.specs.Unstarred.{unstarred}
use Rattle.vx_table.specs.Values.{Follows}
use Rattle.vx_sps.specs.Set.{AreSpsItems}
use Rattle.vx_sps.specs.Structure.{sps_form, sps_sections}

-- The kept fields: those without a star.
abbrev pub kept_sps_fields : List ℕ
kept_sps_fields = unstarred sps_sections

-- The items of a set's kept fields, in order.
abbrev pub kept_sps_items : List Item → List Item
kept_sps_items items = shown_items kept_sps_fields items

-- The names that their rows use.
abbrev pub names_of_kept : List ℕ
names_of_kept = EXTRA_BIT ∷ NUM_QP_TABLES ∷ QP_TABLE ∷ QP_POINT ∷ NUM_STRUCTURES ∷ STRUCTURE ∷ IN_SPS ∷ IN_HEADER ∷ MAY_WEIGHT ∷ ENTRY
    ∷ MAY_BE_0 ∷ HAS_SIGN ∷ IS_LONG ∷ LONG_ENTRIES ∷ INTERVAL ∷ []

-- What a rewritten set copies from its source in addition: whether there is timing, and the usability information, with the name
-- that its rows use; and the gap at the end.
abbrev pub taken_besides : List ℕ
taken_besides = sps.sps_timing_hrd_params_present_flag ∷ sps.sps_vui_parameters_present_flag ∷ sps.sps_vui_payload_size_minus1
    ∷ sps.vui_payload_byte ∷ VUI_BYTE ∷ sps.sps_rbsp_trailing_bits ∷ []

-- All fields and names that a rewritten set has from its source.
abbrev pub taken_sps_fields : List ℕ
taken_sps_fields = names_of_kept ++ (taken_besides ++ kept_sps_fields)

-- A field has a star in each of its rows, or in none.
abbrev pub StarsTellKept : Type 0
StarsTellKept = KeepsOnly [] kept_sps_fields (sections_form sps_sections)

-- Kept fields depend only on one another: on no other field of the set, and on no number of the scope at which it is read.
abbrev pub KeptDependsOnKept : Type 0
KeptDependsOnKept = DependsOnlyOn [] (names_of_kept ++ kept_sps_fields) (sections_form sps_sections)

-- Their items are all that selection keeps: no absent field is among them.
abbrev pub KeptAreSifted : Type 0
KeptAreSifted = (values : List ℤ) (end : List ℕ) → Follows sps_form values end
    → kept_along sps_form values ≡ kept_sps_items (items_along sps_form values)

-- Sets with the same items of kept fields, and the same others, are the same.
abbrev pub KeptAndOthersTell : Type 0
KeptAndOthersTell = (items others : List Item) → AreSpsItems items → AreSpsItems others
    → kept_sps_items items ≡ kept_sps_items others
    → other_items kept_sps_fields items ≡ other_items kept_sps_fields others → items ≡ others
