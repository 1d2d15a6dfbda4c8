-- What a picture header has only if the SPS enables it (H.266 7.3.2.8).
use Rattle.std.specs.Prelude.{◌≡◌, ℕ, false, List, []}
use Rattle.vx_bits.specs.declared.list.Item.{Item}
use Rattle.vx_table.specs.Loaded.{number}
use Rattle.vx_table.specs.Scope.{is_set}
use Rattle.vx_fields.specs.declared.ph.TheConstants as ph
use Rattle.vx_fields.specs.declared.sps.TheConstants as sps_fields
use Rattle.vx_ph.specs.declared.header.PictureHeader.{PictureHeader}
use Rattle.vx_ph.specs.Filter.{filter_of}
use Rattle.vx_ph.specs.InForce.{in_force, structures}
use Rattle.vx_ph.specs.Picture.{IsHeader}

-- If this field of the SPS is 0, then that one of the header is 0.
abbrev pub IsOff : (enabling field : ℕ) → Type 0
IsOff enabling field = (sps pps : List Item) (header : PictureHeader) → IsHeader (structures sps) (in_force sps pps) header
    → is_set (number sps enabling) ≡ false → number header.fields field ≡ 0

-- Luma mapping with chroma scaling, scaling lists, and the scaling of chroma residuals, which is present only if there is chroma.
abbrev pub NoLmcs : Type 0
NoLmcs = IsOff sps_fields.sps_lmcs_enabled_flag ph.ph_lmcs_enabled_flag

abbrev pub NoScaling : Type 0
NoScaling = IsOff sps_fields.sps_explicit_scaling_list_enabled_flag ph.ph_explicit_scaling_list_enabled_flag

abbrev pub NoChromaScaling : Type 0
NoChromaScaling = IsOff sps_fields.sps_chroma_format_idc ph.ph_chroma_residual_scale_flag

-- The adaptive loop filter.
abbrev pub NoFilter : Type 0
NoFilter = (sps pps : List Item) (header : PictureHeader) → IsHeader (structures sps) (in_force sps pps) header
    → is_set (number sps sps_fields.sps_alf_enabled_flag) ≡ false → filter_of header.fields ≡ []
