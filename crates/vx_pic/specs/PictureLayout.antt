-- The layout of a picture and the ids of its subpictures, from its two sets (H.266 6.3.1, 6.5.1, 7.4.3.4, 7.4.3.5). The contracts
-- of `picture_layout` and `picture_ids` rely on it.
use Rattle.std.specs.Prelude.{◌≡◌, ℕ, ◌+◌, ◌^◌, ◌==◌, ◌&&◌, ◌||◌, not, nat_lt, Bool, true, false, cond, List, [], ◌∷◌, map}
use Rattle.std.specs.Prelude.{unwrap_or, Result, Ok, Err}
use Rattle.std.specs.List.{range_with_len, AllPairs}
use Rattle.vx_bits.specs.declared.list.Item.{Item}
use Rattle.vx_bits.specs.declared.refusal.Refusal.{Refusal}
use Rattle.vx_bits.specs.declared.refusal.Refusal.TheVariants.{Structure}
use Rattle.vx_bits.specs.declared.refusal.ReadError.{ReadError}
use Rattle.vx_bits.specs.declared.refusal.ReadError.TheVariants.{Memory, Refused}
use Rattle.vx_bits.specs.declared.rules.TheConstants.{LAYOUT}
use Rattle.vx_fields.specs.declared.sps.TheConstants as sps_fields
use Rattle.vx_fields.specs.declared.pps.TheConstants as pps_fields
use Rattle.vx_table.specs.Scope.{is_set}
use Rattle.vx_table.specs.Loaded.{number}
use Rattle.vx_layout.specs.declared.numbers.Numbers.{Numbers}
use Rattle.vx_layout.specs.declared.rect.Rect.{Rect}
use Rattle.vx_layout.specs.Rects.{whole_picture}
use Rattle.vx_layout.specs.Faults.{IsLayout, IsLowestFault}
use Rattle.vx_sps.specs.Set as sps
use Rattle.vx_sps.specs.Subpictures.{subpics_of, rect_of, sps_subpic_id_of}
use Rattle.vx_table.specs.Loaded.{numbers_of}
use Rattle.vx_pps.specs.Pps as pps

-- ---- tiles, slices and subpictures (6.3.1, 6.5.1)

-- The bounds of the tile columns and rows, in CTUs; a picture that isn't partitioned is one tile (6.5.1).
abbrev pub one_tile : ℕ → List ℕ
one_tile size = 0 ∷ size ∷ []

abbrev pub columns_in_picture : List Item → List Item → List ℕ
columns_in_picture s p = cond (pps.is_partitioned p) (pps.tile_columns_of p) (one_tile (sps.ctu_columns_of s))

abbrev pub rows_in_picture : List Item → List Item → List ℕ
rows_in_picture s p = cond (pps.is_partitioned p) (pps.tile_rows_of p) (one_tile (sps.ctu_rows_of s))

-- The subpictures, by their index (7.4.3.4).
abbrev pub subpictures_of : List Item → List Rect
subpictures_of s = map (rect_of s) (range_with_len 0 (subpics_of s))

-- The slices: of the slice list, or each subpicture; a picture that isn't partitioned is one slice (6.5.1, 7.4.3.5).
abbrev pub slices_in_picture : List Item → List Item → List Rect
slices_in_picture s p =
    cond (pps.is_partitioned p) (unwrap_or (pps.slice_list_of p) (subpictures_of s)) (whole_picture (sps.ctu_columns_of s) (sps.ctu_rows_of s) ∷ [])

abbrev pub numbers_in : List Item → List Item → Numbers
numbers_in s p = record { columns = columns_in_picture s p; rows = rows_in_picture s p; slices = slices_in_picture s p; subpics = subpictures_of s }

-- ---- ids of subpictures (7.4.3.5)

-- SubpicIdVal (7.4.3.5): if ids are signalled those of the PPS, or else of the SPS; otherwise the indices.
abbrev pub are_in_pps : List Item → List Item → Bool
are_in_pps s p =
    is_set (number s sps_fields.sps_subpic_id_mapping_explicitly_signalled_flag)
    && is_set (number p pps_fields.pps_subpic_id_mapping_present_flag)

unfoldable pub ids_of : List Item → List Item → List ℕ
ids_of s p = cond (are_in_pps s p) (numbers_of p pps_fields.pps_subpic_id) (map (sps_subpic_id_of s) (range_with_len 0 (subpics_of s)))

-- ---- what both sets must agree on, in addition to the size of pictures (7.4.3.4, 7.4.3.5)

-- The CTU sizes differ (7.4.3.5, pps_log2_ctu_size_minus5).
unfoldable pub ctu_sizes_differ : List Item → List Item → Bool
ctu_sizes_differ s p =
    pps.is_partitioned p
    && not (number p pps_fields.pps_log2_ctu_size_minus5 == number s sps_fields.sps_log2_ctu_size_minus5)

-- The PPS must have the ids: they are signalled, and not in the SPS (7.4.3.5, pps_subpic_id_mapping_present_flag).
abbrev pub needs_ids : List Item → Bool
needs_ids s =
    is_set (number s sps_fields.sps_subpic_id_mapping_explicitly_signalled_flag)
    && not (is_set (number s sps_fields.sps_subpic_id_mapping_present_flag))

-- Both or neither (our own).
abbrev pub same_flag : Bool → Bool → Bool
same_flag true b = b
same_flag false b = not b

-- It has another number of them than the SPS, or of another length (7.4.3.5, pps_num_subpics_minus1, pps_subpic_id_len_minus1).
abbrev pub ids_unlike : List Item → List Item → Bool
ids_unlike s p =
    not (number p pps_fields.pps_num_subpics_minus1 == number s sps_fields.sps_num_subpics_minus1)
    || not (number p pps_fields.pps_subpic_id_len_minus1 == number s sps_fields.sps_subpic_id_len_minus1)

-- There are more subpictures than ids of that length (7.4.3.4, sps_subpic_id_len_minus1).
abbrev pub ids_too_short : List Item → Bool
ids_too_short s =
    is_set (number s sps_fields.sps_subpic_info_present_flag)
    && nat_lt (2 ^ (number s sps_fields.sps_subpic_id_len_minus1 + 1)) (subpics_of s)

-- The ids are where they must not be, or are missing where they must be, or aren't as the SPS says (7.4.3.4, 7.4.3.5).
unfoldable pub ids_misplaced : List Item → List Item → Bool
ids_misplaced s p =
    not (same_flag (is_set (number p pps_fields.pps_subpic_id_mapping_present_flag)) (needs_ids s))
    || ((is_set (number p pps_fields.pps_subpic_id_mapping_present_flag) && ids_unlike s p) || ids_too_short s)

-- No two subpictures have the same id (SubpicIdVal, 7.4.3.5).
abbrev pub AreDistinct : List ℕ → Type 0
AreDistinct ids = AllPairs (λ a b. a ≡ b → ⊥) ids

-- The ids are as they must be (7.4.3.4, 7.4.3.5).
pub record IdsAgree (s p : List Item) : Type 0 where
  pub placed : ids_misplaced s p ≡ false
  pub distinct : AreDistinct (ids_of s p)

-- ---- the layout (our own)

-- The numbers of the two faults, which come before those of the layout itself.
abbrev pub ctu_size_fault : ℕ
ctu_size_fault = 1

abbrev pub ids_fault : ℕ
ids_fault = 2

-- Both sets make up a layout,
pub record MakeLayout (s p : List Item) : Type 0 where
  pub ctus : ctu_sizes_differ s p ≡ false
  pub ids : IdsAgree s p
  pub layout : IsLayout (numbers_in s p)

-- or have a lowest fault.
pub data IsFault (s p : List Item) : ℕ → Type 0 where
  ctu_sizes : ctu_sizes_differ s p ≡ true → IsFault s p ctu_size_fault
  ids_differ : ctu_sizes_differ s p ≡ false → ¬ IdsAgree s p → IsFault s p ids_fault
  numbers : {k : ℕ} → ctu_sizes_differ s p ≡ false → IdsAgree s p → IsLowestFault (numbers_in s p) k → IsFault s p k

-- What the two sets determine: the layout, or the refusal that names its lowest fault.
abbrev pub layout_refusal : ℕ → Refusal
layout_refusal k = Structure LAYOUT 0 k

abbrev pub IsLayoutAnswer : List Item → List Item → Result Numbers Refusal → Type 0
IsLayoutAnswer s p (Ok n) = MakeLayout s p × (n ≡ numbers_in s p)
IsLayoutAnswer s p (Err r) = (k : ℕ) × IsFault s p k × (r ≡ layout_refusal k)

-- The answer for both sets, unless memory runs out.
abbrev pub AnswersLayout : List Item → List Item → Result Numbers ReadError → Type 0
AnswersLayout s p (Ok n) = IsLayoutAnswer s p (Ok n)
AnswersLayout s p (Err Memory) = Unit {0}
AnswersLayout s p (Err (Refused r)) = IsLayoutAnswer s p (Err r)
