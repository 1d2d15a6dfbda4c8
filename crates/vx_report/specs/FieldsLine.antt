-- The line of the fields of a set or header, as `{"bit":0,"fields":[["vps_video_parameter_set_id",1]],"structure":"VPS","unit":0}`.
-- Our own.
use Rattle.std.specs.Prelude.{ℕ, List, [], ◌∷◌, ◌++◌, codes, decimal, Option, Some, None, option_map, unwrap_or}
use Rattle.std.specs.Fmt.{signed_decimal}
use Rattle.std.specs.List.{concat, join_by}
use Rattle.vx_bits.specs.declared.list.Item.{Item}
use Rattle.vx_fields.specs.Names.{name_of}
use Rattle.vx_pic.specs.declared.structure.Structure.{Structure}
use Rattle.vx_pic.specs.declared.structure.Structure.TheVariants.{Vps, Sps, Pps, Aps, PictureHeader, SliceHeader}
use Rattle.vx_pic.specs.declared.structure.StructureFields.{StructureFields}

-- A field by its name, and its value: `["vps_video_parameter_set_id",1]`.
abbrev pub item_json : Item → List ℕ
item_json item = concat (codes "[\"" ∷ unwrap_or (name_of item.field) [] ∷ codes "\"," ∷ signed_decimal item.value ∷ codes "]" ∷ [])

-- A structure, by its usual name in short.
abbrev pub structure_word : Structure → List ℕ
structure_word Vps = codes "VPS"
structure_word Sps = codes "SPS"
structure_word Pps = codes "PPS"
structure_word Aps = codes "APS"
structure_word PictureHeader = codes "PH"
structure_word SliceHeader = codes "SH"

-- ---- the line, its keys in byte order

-- The bytes of the body, if they are known.
abbrev pub body_json : Option ℕ → List ℕ
body_json None = []
body_json (Some bytes) = codes ",\"body\":" ++ decimal bytes

-- The field that is refused, if there is one.
abbrev pub refused_json : Option ℕ → List ℕ
refused_json None = []
refused_json (Some field) = codes ",\"refused\":" ++ decimal field

-- Before the fields: the bit at which the structure begins.
abbrev pub start_json : Option ℕ → List ℕ
start_json body = concat (codes "{\"bit\":0" ∷ body_json body ∷ codes ",\"fields\":[" ∷ [])

-- The fields, with commas between them.
abbrev pub items_json : List Item → List ℕ
items_json items = join_by item_json (codes ",") items

-- What follows the fields: the structure, and how many units come before.
abbrev pub end_json : Option ℕ → Structure → ℕ → List ℕ
end_json refused structure unit = concat
    (codes "]" ∷ refused_json refused
    ∷ codes ",\"structure\":\"" ∷ structure_word structure
    ∷ codes "\",\"unit\":" ∷ decimal unit
    ∷ codes "}\n" ∷ [])

abbrev pub line_text : ℕ → Option ℕ → Structure → List Item → Option ℕ → List ℕ
line_text unit refused structure items body = start_json body ++ (items_json items ++ end_json refused structure unit)

-- The line of the fields of a unit after n others; none if it is no structure.
unfoldable pub fields_text : ℕ → StructureFields → Option ℕ → List ℕ
fields_text unit fields refused = unwrap_or (option_map (λ structure. line_text unit refused structure fields.items fields.body) fields.structure) []
