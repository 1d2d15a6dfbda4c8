-- A sequence parameter set as its items, what these say of its pictures, and how it is spelled. The contracts of `Sps` and
-- `write_sps` rely on it.
use Rattle.std.specs.Prelude.{◌≡◌, ◌⊎◌, ℕ, ℤ, ◌+◌, ◌^◌, Bool, ◌&&◌, ◌||◌, ◌==◌, ◌≤◌, List}
use Rattle.std.specs.Prelude.{[], ◌++◌, count_by, length, Result, Ok, Err}
use Rattle.vx_bits.specs.Codes.{bits_of}
use Rattle.vx_bits.specs.declared.list.Item.{Item}
use Rattle.vx_bits.specs.declared.refusal.ReadError.{ReadError}
use Rattle.vx_bits.specs.declared.refusal.ReadError.TheVariants as errors
use Rattle.vx_fields.specs.declared.sps.TheConstants as sps
use Rattle.vx_table.specs.Scope.{natural, capped, is_set, quotient}
use Rattle.vx_table.specs.Spelling.{items_along}
use Rattle.vx_table.specs.Values.{Follows, bits_along}
use Rattle.vx_table.specs.Loaded.{number}
use Rattle.vx_table.specs.Reading.{ReadsValue}
use Rattle.vx_sps.specs.Structure.{sps_form}

-- The items are those of a set: of values that go through its form to this end (7.3.2.4).
pub record AreSpsItems (items : List Item) : Type 0 where
  pub values : List ℤ
  pub end : List ℕ
  pub follows : Follows sps_form values end
  pub all : items ≡ items_along sps_form values

-- ---- the pictures

-- sps_pic_width_max_in_luma_samples and sps_pic_height_max_in_luma_samples (7.4.3.4).
abbrev pub width_of : List Item → ℕ
width_of items = number items sps.sps_pic_width_max_in_luma_samples

abbrev pub height_of : List Item → ℕ
height_of items = number items sps.sps_pic_height_max_in_luma_samples

-- CtbSizeY (H.266 7.4.3.4).
abbrev pub ctb_size_of : List Item → ℕ
ctb_size_of items = 2 ^ (number items sps.sps_log2_ctu_size_minus5 + 5)

-- The columns and rows of CTUs (7.4.3.4).
abbrev pub ctu_columns_of : List Item → ℕ
ctu_columns_of items = quotient (width_of items) (ctb_size_of items)

abbrev pub ctu_rows_of : List Item → ℕ
ctu_rows_of items = quotient (height_of items) (ctb_size_of items)

-- ---- headers

-- How many flags of a field are 1 (our own).
abbrev pub set_flags : ℕ → List Item → ℕ
set_flags of items = capped (count_by (λ item. item.field == of && is_set (natural item.value)) items)

-- The extra bits of a picture header, and of a slice header: NumExtraPhBits and NumExtraShBits (7.4.3.4).
abbrev pub extra_ph_bits_of : List Item → ℕ
extra_ph_bits_of items = set_flags sps.sps_extra_ph_bit_present_flag items

abbrev pub extra_sh_bits_of : List Item → ℕ
extra_sh_bits_of items = set_flags sps.sps_extra_sh_bit_present_flag items

-- Slices may have weights (7.4.3.4).
abbrev pub is_weighted : List Item → Bool
is_weighted items = is_set (number items sps.sps_weighted_pred_flag) || is_set (number items sps.sps_weighted_bipred_flag)

-- ---- how a set is spelled (7.3.2.4)

-- The bytes are the spelling of the values whose items these are.
pub record IsSpsSpelling (items : List Item) (bytes : List ℕ) : Type 0 where
  pub set : AreSpsItems items
  pub bits : bits_of bytes ≡ bits_along sps_form 0 set.values

-- What is written of a set is read as it, unless memory runs out.
abbrev pub WrittenIsRead : Type 0
WrittenIsRead = (items : List Item) (bytes : List ℕ) (result : Result (List Item) ReadError) → IsSpsSpelling items bytes
    → ReadsValue sps_form bytes result → (result ≡ Ok items) ⊎ (result ≡ Err errors.Memory)

-- No spelling of a set is a proper prefix of another's.
abbrev pub NoProperPrefix : Type 0
NoProperPrefix = (items others : List Item) (bytes more : List ℕ) → IsSpsSpelling items bytes → IsSpsSpelling others (bytes ++ more)
    → (items ≡ others) × (more ≡ [])

-- No set is long: its spelling has at most this many bytes.
abbrev pub sps_limit : ℕ
sps_limit = 2 ^ 17

abbrev pub SpellingIsShort : Type 0
SpellingIsShort = (items : List Item) (bytes : List ℕ) → IsSpsSpelling items bytes → length bytes ≤ sps_limit
