-- The line of a parameter set, and the numbers of the set that it has. Our own.
use Rattle.std.specs.Prelude.{ℕ, ◌+◌, cond, List, [], ◌∷◌, ◌++◌, codes, decimal}
use Rattle.std.specs.List.{concat}
use Rattle.serde_json.specs.Data.{Data, number as json_number, unsigned, object, Members, member, no_members}
use Rattle.vx_bits.specs.declared.list.Item.{Item}
use Rattle.vx_fields.specs.declared.vps.TheConstants as vps
use Rattle.vx_fields.specs.declared.pps.TheConstants as pps
use Rattle.vx_table.specs.Loaded.{number}
use Rattle.vx_table.specs.Scope.{is_set}
use Rattle.vx_sps.specs.Set.{width_of, height_of, ctb_size_of}
use Rattle.vx_sps.specs.Subpictures.{subpics_of}
use Rattle.vx_pps.specs.Pps.{is_partitioned, partition_of}
use Rattle.vx_pps.specs.Tiles.{across, down}
use Rattle.vx_pic.specs.Sets.{sps_id, pps_id, referred_sps}
use Rattle.vx_report.specs.declared.set.SetNumbers.{SetNumbers}
use Rattle.vx_report.specs.declared.set.SetNumbers.TheVariants.{Vps, Sps, Pps, Aps}

-- ---- what is shown of a set with these items

-- vps_max_layers_minus1 and vps_max_sublayers_minus1, each plus 1 (H.266 7.4.3.3)
abbrev pub vps_numbers : List Item → SetNumbers
vps_numbers v = Vps (number v vps.vps_video_parameter_set_id)
    (number v vps.vps_max_layers_minus1 + 1) (number v vps.vps_max_sublayers_minus1 + 1)

-- The size of the largest picture in luma samples, CtbSizeY and the number of subpictures (7.4.3.4).
abbrev pub sps_numbers : List Item → SetNumbers
sps_numbers s = Sps (sps_id s) (width_of s) (height_of s) (ctb_size_of s) (subpics_of s)

-- NumTileColumns and NumTileRows (6.5.1)
abbrev pub tile_columns : List Item → ℕ
tile_columns p = cond (is_partitioned p) (across (partition_of p).tiles) 1

abbrev pub tile_rows : List Item → ℕ
tile_rows p = cond (is_partitioned p) (down (partition_of p).tiles) 1

-- The number of slices of a picture, or 0 if each subpicture is one (7.4.3.5, pps_single_slice_per_subpic_flag).
abbrev pub listed_slice_count : List Item → ℕ
listed_slice_count p = cond (is_set (number p pps.pps_single_slice_per_subpic_flag)) 0 (number p pps.pps_num_slices_in_pic_minus1 + 1)

abbrev pub pps_numbers : List Item → SetNumbers
pps_numbers p = Pps (pps_id p) (referred_sps p) (tile_columns p) (tile_rows p) (listed_slice_count p)

-- A member of a JSON object.
abbrev pub with_number : List ℕ → ℕ → Members → Members
with_number key n more = member key (json_number (unsigned n)) more

-- ---- the set as a JSON object, its keys in byte order

abbrev pub vps_object : ℕ → ℕ → ℕ → Data
vps_object id layers sublayers =
    object (with_number (codes "layers") layers (with_number (codes "sublayers") sublayers (with_number (codes "vps") id no_members)))

abbrev pub sps_object : ℕ → ℕ → ℕ → ℕ → ℕ → Data
sps_object id width height ctu subpictures =
    object (with_number (codes "ctu") ctu (with_number (codes "height") height (with_number (codes "sps") id
    (with_number (codes "subpictures") subpictures (with_number (codes "width") width no_members)))))

abbrev pub pps_object : ℕ → ℕ → ℕ → ℕ → ℕ → Data
pps_object id sps columns rows slices =
    object (with_number (codes "columns") columns (with_number (codes "pps") id (with_number (codes "rows") rows
    (with_number (codes "slices") slices (with_number (codes "sps") sps no_members)))))

abbrev pub aps_object : ℕ → ℕ → Data
aps_object kind id = object (with_number (codes "aps") id (with_number (codes "kind") kind no_members))

-- ---- the object's text, byte for byte

-- `{"layers":1,"sublayers":1,"vps":0}`
abbrev pub vps_json : ℕ → ℕ → ℕ → List ℕ
vps_json id layers sublayers = concat
    (codes "{\"layers\":" ∷ decimal layers
    ∷ codes ",\"sublayers\":" ∷ decimal sublayers
    ∷ codes ",\"vps\":" ∷ decimal id
    ∷ codes "}" ∷ [])

-- `{"ctu":64,"height":64,"sps":0,"subpictures":1,"width":64}`
abbrev pub sps_json : ℕ → ℕ → ℕ → ℕ → ℕ → List ℕ
sps_json id width height ctu subpictures = concat
    (codes "{\"ctu\":" ∷ decimal ctu
    ∷ codes ",\"height\":" ∷ decimal height
    ∷ codes ",\"sps\":" ∷ decimal id
    ∷ codes ",\"subpictures\":" ∷ decimal subpictures
    ∷ codes ",\"width\":" ∷ decimal width
    ∷ codes "}" ∷ [])

-- `{"columns":1,"pps":0,"rows":1,"slices":1,"sps":0}`
abbrev pub pps_json : ℕ → ℕ → ℕ → ℕ → ℕ → List ℕ
pps_json id sps columns rows slices = concat
    (codes "{\"columns\":" ∷ decimal columns
    ∷ codes ",\"pps\":" ∷ decimal id
    ∷ codes ",\"rows\":" ∷ decimal rows
    ∷ codes ",\"slices\":" ∷ decimal slices
    ∷ codes ",\"sps\":" ∷ decimal sps
    ∷ codes "}" ∷ [])

-- `{"aps":3,"kind":0}`
abbrev pub aps_json : ℕ → ℕ → List ℕ
aps_json kind id = concat
    (codes "{\"aps\":" ∷ decimal id
    ∷ codes ",\"kind\":" ∷ decimal kind
    ∷ codes "}" ∷ [])

abbrev pub set_json : SetNumbers → List ℕ
set_json (Vps id layers sublayers) = vps_json id layers sublayers
set_json (Sps id width height ctu subpictures) = sps_json id width height ctu subpictures
set_json (Pps id sps columns rows slices) = pps_json id sps columns rows slices
set_json (Aps kind id) = aps_json kind id

-- The line, with its line feed.
abbrev pub set_text : SetNumbers → List ℕ
set_text numbers = set_json numbers ++ codes "\n"
