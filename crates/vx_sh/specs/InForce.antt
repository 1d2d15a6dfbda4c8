-- What a slice header is read and written under: the sets, the picture header, the layout and the NAL unit's type in force. Our
-- own. The contracts of `read_sh` and `write_sh` rely on it.
use Rattle.std.specs.Prelude.{◌≡◌, ◌≤◌, ◌<◌, ℕ, IsFalse, List, [], ◌∷◌, All, length, slice_set}
use Rattle.vx_bits.specs.declared.list.Item.{Item}
use Rattle.vx_table.specs.Scope.{fresh, loaded, joined}
use Rattle.vx_table.specs.Depends.{has, Agree}
use Rattle.vx_table.specs.Loaded.{number}
use Rattle.vx_fields.specs.declared.pps.TheConstants.{pps_pic_parameter_set_id}
use Rattle.vx_fields.specs.declared.ph.TheConstants.{ph_gdr_or_irap_pic_flag}
use Rattle.vx_fields.specs.declared.names.rpl.TheConstants.{ENTRIES_0, ENTRIES_1}
use Rattle.vx_fields.specs.declared.names.sh.TheConstants.{NAL_TYPE, EXTRA_SH_BITS, DEFAULT_ACTIVE_0, DEFAULT_ACTIVE_1}
use Rattle.vx_layout.specs.declared.numbers.Numbers.{Numbers}
use Rattle.vx_sps.specs.Set.{extra_sh_bits_of}
use Rattle.vx_pps.specs.Pps.{default_active}
use Rattle.vx_ph.specs.declared.header.PictureHeader.{PictureHeader}
use Rattle.vx_ph.specs.InForce.{in_force, structures}
use Rattle.vx_sh.specs.declared.numbers.SliceNumbers.{SliceNumbers}
use Rattle.vx_sh.specs.Whole.{At}

-- The scope of a slice: the sets' numbers below the first field of a picture header, and the header's from there on. In addition
-- the lengths of its lists, the type of the NAL unit, the number of extra bits of a slice header, and the two
-- pps_num_ref_idx_default_active_minus1.
abbrev pub slice_scope : ℕ → List Item → List Item → PictureHeader → List ℕ → List ℕ
slice_scope nal_type sps pps header sets =
    slice_set
    (slice_set
    (slice_set
    (slice_set
    (slice_set
    (slice_set (joined ph_gdr_or_irap_pic_flag sets (loaded fresh header.fields)) ENTRIES_0 (length header.lists.first))
    ENTRIES_1
    (length header.lists.second))
    NAL_TYPE nal_type)
    EXTRA_SH_BITS (extra_sh_bits_of sps))
    DEFAULT_ACTIVE_0 (default_active pps 0))
    DEFAULT_ACTIVE_1 (default_active pps 1)

-- What is in force under these sets and this picture header.
abbrev pub at_sets : ℕ → List Item → List Item → PictureHeader → List ℕ → Numbers → At
at_sets nal_type sps pps header ids layout = record {
  table = structures sps;
  sets = in_force sps pps;
  slice = slice_scope nal_type sps pps header (in_force sps pps);
  ids = ids;
  layout = layout;
}

abbrev pub in_force_at : SliceNumbers → At
in_force_at n = at_sets n.nal_type n.sps.now n.pps.now n.header.now n.ids.now n.layout.now

-- The names that it has in addition to fields.
abbrev pub beside : List ℕ
beside = ENTRIES_0 ∷ ENTRIES_1 ∷ NAL_TYPE ∷ EXTRA_SH_BITS ∷ DEFAULT_ACTIVE_0 ∷ DEFAULT_ACTIVE_1 ∷ []

-- Sets and picture headers that agree on some fields, each on those of its own range, give slices of one type scopes that agree on
-- them. The additional numbers must be the same, and the additional names may be among the fields.
abbrev pub SliceScopesAgree : Type 0
SliceScopesAgree = (fields : List ℕ) (nal_type : ℕ) (sps other_sps pps other_pps : List Item) (header other : PictureHeader)
    → All (λ n. n < pps_pic_parameter_set_id → number sps n ≡ number other_sps n) fields
    → All (λ n. pps_pic_parameter_set_id ≤ n → n < ph_gdr_or_irap_pic_flag → number pps n ≡ number other_pps n) fields
    → All (λ n. ph_gdr_or_irap_pic_flag ≤ n → IsFalse (has beside n) → number header.fields n ≡ number other.fields n) fields
    → extra_sh_bits_of sps ≡ extra_sh_bits_of other_sps
    → default_active pps 0 ≡ default_active other_pps 0 → default_active pps 1 ≡ default_active other_pps 1
    → length header.lists.first ≡ length other.lists.first → length header.lists.second ≡ length other.lists.second
    → Agree fields (slice_scope nal_type sps pps header (in_force sps pps))
    (slice_scope nal_type other_sps other_pps other (in_force other_sps other_pps))

-- It has a number for each field and name.
abbrev pub SliceScopesAreWhole : Type 0
SliceScopesAreWhole = (nal_type : ℕ) (sps pps : List Item) (header : PictureHeader)
    → length (slice_scope nal_type sps pps header (in_force sps pps)) ≡ 1024
