-- Units that are written: of parameter sets, and of messages.
use Rattle.std.specs.Prelude.{◌≡◌, ℕ, ◌+◌, ◌*◌, List, [], ◌∷◌, ◌++◌, Option, Some, None}
use Rattle.vx_annexb.specs.Emulation.{IsEscaped}
use Rattle.vx_aps.specs.Aps.{spelled}
use Rattle.vx_sei.specs.declared.message.Message.{Message}
use Rattle.vx_sei.specs.Sei.{IsSei}
use Rattle.vx_sps.specs.Set as sps_set
use Rattle.vx_pps.specs.Pps as pps_set
use Rattle.vx_pic.specs.declared.unit_types.TheConstants as types
use Rattle.vx_pic.specs.Written.{Set, an_sps, a_pps, an_aps, SeiUnit}

-- The header of a unit of layer 0 (7.3.1.2).
abbrev pub header_bytes : (nal_type temporal_id : ℕ) → List ℕ
header_bytes nal_type temporal_id = 0 ∷ (nal_type * 8 + (temporal_id + 1)) ∷ []

-- A unit of this type and TemporalId, with this RBSP (7.3.1.1).
abbrev pub IsUnitOf : (nal_type temporal_id : ℕ) → List ℕ → List ℕ → Type 0
IsUnitOf nal_type temporal_id rbsp unit = IsEscaped (header_bytes nal_type temporal_id ++ rbsp) unit

-- The unit of a set for a picture of this TemporalId: an SPS has TemporalId 0 (7.4.2.2).
abbrev pub IsSetUnit : ℕ → Set → List ℕ → Type 0
IsSetUnit tid (an_sps items) unit = (rbsp : List ℕ) × sps_set.IsSpsSpelling items rbsp × IsUnitOf types.SPS_NUT 0 rbsp unit
IsSetUnit tid (a_pps items) unit = (rbsp : List ℕ) × pps_set.IsPpsSpelling items rbsp × IsUnitOf types.PPS_NUT tid rbsp unit
IsSetUnit tid (an_aps a) unit = IsUnitOf types.PREFIX_APS_NUT tid (spelled a.kind a.id a.body) unit

-- One SEI unit with the messages, if there are any (7.3.2.9).
abbrev pub IsSeiUnit : ℕ → List Message → Option SeiUnit → Type 0
IsSeiUnit tid [] sei = sei ≡ None
IsSeiUnit tid (m ∷ more) None = ⊥
IsSeiUnit tid (m ∷ more) (Some s) =
    (s.messages ≡ m ∷ more) × ((rbsp : List ℕ) × IsSei rbsp (m ∷ more) × IsUnitOf types.PREFIX_SEI_NUT tid rbsp s.unit)
