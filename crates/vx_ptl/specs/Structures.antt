-- The forms of the structures, at the numbers on which they depend. The contracts of `read_ptl` and the other readers rely on it.
use Rattle.std.specs.Prelude.{ℕ, Bool, List, slice_set}
use Rattle.vx_bits.specs.declared.list.Item.{Item}
use Rattle.vx_table.specs.Scope.{fresh, loaded, one_if}
use Rattle.vx_table.specs.Forms.{Form, form_of}
use Rattle.vx_fields.specs.declared.sps.TheConstants.{sps_max_sublayers_minus1, sps_sublayer_dpb_params_flag}
use Rattle.vx_fields.specs.declared.sps.TheConstants.{sps_sublayer_cpb_params_present_flag}
use Rattle.vx_ptl.specs.declared.tables.TheConstants.{VPS, PTL, DPB, TIMING, SUBLAYER_TIMING}

-- The highest sublayer, and under a field's number whether each sublayer has an entry.
abbrev pub sublayers : List ℕ → ℕ → ℕ → Bool → List ℕ
sublayers scope max field each = slice_set (slice_set scope sps_max_sublayers_minus1 max) field (one_if each)

-- The first fields of a VPS (H.266 clause 7.3.2.3).
abbrev pub vps : Form (List ℕ)
vps = form_of VPS fresh

-- Profile, tier and level (clause 7.3.3.1).
abbrev pub ptl : ℕ → Form (List ℕ)
ptl max = form_of PTL (slice_set fresh sps_max_sublayers_minus1 max)

-- DPB parameters (clause 7.3.4).
abbrev pub dpb_form : ℕ → Bool → Form (List ℕ)
dpb_form max each = form_of DPB (sublayers fresh max sps_sublayer_dpb_params_flag each)

-- General timing (clause 7.3.5.1).
abbrev pub timing_form : ℕ → Bool → Form (List ℕ)
timing_form max each = form_of TIMING (sublayers fresh max sps_sublayer_cpb_params_present_flag each)

-- Sublayer timing, after the items of the general timing (clauses 7.3.5.2 and 7.3.5.3).
abbrev pub sublayer_timing : List Item → ℕ → Bool → Form (List ℕ)
sublayer_timing items max each = form_of SUBLAYER_TIMING (sublayers (loaded fresh items) max sps_sublayer_cpb_params_present_flag each)
