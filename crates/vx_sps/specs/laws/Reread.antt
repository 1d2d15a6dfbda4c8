-- What a rewritten sequence parameter set says, and what stays as in its source.
use Rattle.std.specs.Prelude.{◌≡◌, ℕ, ◌-◌, ◌<◌, true, false, List, length, slice_index_or, Some, None}
use Rattle.vx_bits.specs.declared.list.Item.{Item}
use Rattle.vx_fields.specs.declared.sps.TheConstants as sps
use Rattle.vx_layout.specs.declared.rect.Rect.{Rect}
use Rattle.vx_layout.specs.Layouts.{no_rect}
use Rattle.vx_layout.specs.Rects.{whole_picture}
use Rattle.vx_table.specs.Loaded.{number}
use Rattle.vx_table.specs.Scope.{quotient}
use Rattle.vx_sps.specs.declared.shape.SpsShape.{SpsShape}
use Rattle.vx_sps.specs.declared.shape.SubpicPlan.{SubpicPlan}
use Rattle.vx_sps.specs.declared.shape.SubpicPlan.TheVariants.{Absent, One, Many}
use Rattle.vx_sps.specs.Set.{AreSpsItems, width_of, height_of, ctb_size_of}
use Rattle.vx_sps.specs.Subpictures.{subpics_of, rect_of, is_treated, is_filtered, sps_subpic_id_of}
use Rattle.vx_sps.specs.Depends.{kept_sps_items}
use Rattle.vx_sps.specs.Reshaped.{IsShape, IsReshapedSps, id_bits}

-- ---- the subpictures of a plan

-- How many there are.
abbrev pub count_in : SubpicPlan → ℕ
count_in Absent = 1
count_in (One id_len id) = 1
count_in (Many rects) = length rects

-- Rectangle i, in a picture with these columns and rows of CTUs.
abbrev pub rect_in : ℕ → ℕ → SubpicPlan → ℕ → Rect
rect_in columns rows Absent i = whole_picture columns rows
rect_in columns rows (One id_len id) i = whole_picture columns rows
rect_in columns rows (Many rects) i = slice_index_or rects i no_rect

-- Id i, if no PPS gives another.
abbrev pub id_in_plan : SubpicPlan → ℕ → ℕ
id_in_plan Absent i = i
id_in_plan (One id_len None) i = i
id_in_plan (One id_len (Some id)) i = id
id_in_plan (Many rects) i = i

-- ---- the set

-- It has what the shape says: width, height and subpictures, which are all treated as pictures and not filtered across; its CTUs
-- are those of the source.
pub record Says (source : List Item) (shape : SpsShape) (items : List Item) : Type 0 where
  pub width : width_of items ≡ shape.width
  pub height : height_of items ≡ shape.height
  pub ctb : ctb_size_of items ≡ ctb_size_of source
  pub subpics : subpics_of items ≡ count_in shape.subpics
  pub rect : (i : ℕ) → i < count_in shape.subpics
      → rect_of items i ≡ rect_in (quotient shape.width (ctb_size_of source)) (quotient shape.height (ctb_size_of source)) shape.subpics i
  pub treated : (i : ℕ) → is_treated items i ≡ true
  pub filtered : (i : ℕ) → is_filtered items i ≡ false
  pub id : (i : ℕ) → i < count_in shape.subpics → sps_subpic_id_of items i ≡ id_in_plan shape.subpics i

abbrev pub ReshapedSays : Type 0
ReshapedSays = (source items : List Item) (shape : SpsShape) → AreSpsItems source → IsShape (ctb_size_of source) shape
    → IsReshapedSps source shape items → Says source shape items

-- It signals its own id. For its subpictures it signals whether it describes them, the bits of their ids, whether these are mapped
-- by either set, and whether by this one; if none are described, all of this is absent.
abbrev pub described_in : SubpicPlan → ℕ
described_in Absent = 0
described_in (One id_len id) = 1
described_in (Many rects) = 1

abbrev pub id_len_in : SubpicPlan → ℕ
id_len_in Absent = 0
id_len_in (One id_len id) = id_len
id_len_in (Many rects) = id_bits (length rects) - 1

abbrev pub explicit_in : SubpicPlan → ℕ
explicit_in Absent = 0
explicit_in (One id_len id) = 1
explicit_in (Many rects) = 0

abbrev pub mapped_in : SubpicPlan → ℕ
mapped_in (One id_len (Some id)) = 1
mapped_in plan = 0

pub record Signals (shape : SpsShape) (items : List Item) : Type 0 where
  pub id : number items sps.sps_seq_parameter_set_id ≡ shape.id
  pub described : number items sps.sps_subpic_info_present_flag ≡ described_in shape.subpics
  pub id_len : number items sps.sps_subpic_id_len_minus1 ≡ id_len_in shape.subpics
  pub explicit : number items sps.sps_subpic_id_mapping_explicitly_signalled_flag ≡ explicit_in shape.subpics
  pub mapped : number items sps.sps_subpic_id_mapping_present_flag ≡ mapped_in shape.subpics

abbrev pub ReshapedSignals : Type 0
ReshapedSignals = (source items : List Item) (shape : SpsShape) → shape.id < 16 → id_len_in shape.subpics < 16
    → IsReshapedSps source shape items → Signals shape items

-- Its kept fields are the source's.
abbrev pub ReshapedKeeps : Type 0
ReshapedKeeps = (source items : List Item) (shape : SpsShape) → IsReshapedSps source shape items → kept_sps_items items ≡ kept_sps_items source
