-- The numbers of the scope that the structures depend on when they are read or written.
use Rattle.std.specs.Prelude.{List, [], ◌∷◌}
use Rattle.vx_fields.specs.declared.sps.TheConstants.{sps_max_sublayers_minus1, sps_sublayer_dpb_params_flag}
use Rattle.vx_fields.specs.declared.sps.TheConstants.{sps_sublayer_cpb_params_present_flag, sps_timing_hrd_params_present_flag}
use Rattle.vx_fields.specs.declared.timing.TheConstants.{general_nal_hrd_params_present_flag, general_vcl_hrd_params_present_flag}
use Rattle.vx_fields.specs.declared.timing.TheConstants.{general_du_hrd_params_present_flag, hrd_cpb_cnt_minus1}
use Rattle.vx_ptl.specs.declared.tables.TheConstants.{VPS, PTL, DPB, TIMING, NO_TIMING, SUBLAYER_TIMING}
use Rattle.vx_table.specs.declared.rows.Term.TheVariants.{Latest}
use Rattle.vx_table.specs.declared.rows.Formula.TheVariants.{Plain}
use Rattle.vx_table.specs.Parts.{Section, always, provided}
use Rattle.vx_table.specs.Named.{ReadsOnly, SectionsReadOnly, CodedOnce}

-- Profile, tier and level: the highest sublayer.
abbrev pub PtlDepends : Type 0
PtlDepends = ReadsOnly (sps_max_sublayers_minus1 ∷ []) PTL

-- DPB parameters: that, and whether each sublayer has an entry.
abbrev pub DpbDepends : Type 0
DpbDepends = ReadsOnly (sps_max_sublayers_minus1 ∷ sps_sublayer_dpb_params_flag ∷ []) DPB

-- General timing: nothing.
abbrev pub TimingDepends : Type 0
TimingDepends = ReadsOnly [] TIMING

-- Sublayer timing: the highest sublayer, whether each has an entry, and four fields of general timing.
abbrev pub SublayerTimingDepends : Type 0
SublayerTimingDepends = ReadsOnly
    (sps_max_sublayers_minus1 ∷ sps_sublayer_cpb_params_present_flag ∷ general_nal_hrd_params_present_flag
    ∷ general_vcl_hrd_params_present_flag ∷ general_du_hrd_params_present_flag ∷ hrd_cpb_cnt_minus1 ∷ [])
    SUBLAYER_TIMING

-- The two, if a parameter set says that they are present.
abbrev pub timing_if_present : List Section
timing_if_present = always NO_TIMING ∷ provided (Plain (Latest sps_timing_hrd_params_present_flag)) TIMING
    ∷ provided (Plain (Latest sps_timing_hrd_params_present_flag)) SUBLAYER_TIMING ∷ []

-- These: that it says so, the highest sublayer, and whether each has an entry.
abbrev pub TimingIfPresentDepends : Type 0
TimingIfPresentDepends = SectionsReadOnly
    (sps_timing_hrd_params_present_flag ∷ sps_max_sublayers_minus1 ∷ sps_sublayer_cpb_params_present_flag ∷ []) timing_if_present

-- No field of all these is coded by two rows.
abbrev pub FieldsAreCodedOnce : Type 0
FieldsAreCodedOnce = CodedOnce (VPS ∷ PTL ∷ DPB ∷ TIMING ∷ SUBLAYER_TIMING ∷ [])
