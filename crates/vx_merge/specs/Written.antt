-- What is written for the rounds of several sources. Our own.
use Rattle.std.specs.Prelude.{◌≡◌, ℕ, ◌+◌, ◌<◌, ◌≤◌, not, List, [], ◌∷◌, length, map, filter, sum_by, Option}
use Rattle.std.specs.List.{AllByRecursion, AllZip}
use Rattle.vx_bits.specs.Codes.{AreBytes}
use Rattle.vx_bits.specs.declared.list.Item.{Item}
use Rattle.vx_bits.specs.declared.rules.TheConstants as rules
use Rattle.vx_bits.specs.Limits.{unit_limit}
use Rattle.vx_annexb.specs.ByteStream.{source_limit}
use Rattle.vx_annexb.specs.Laws.{written}
use Rattle.vx_sps.specs.Reshaped as sps_reshaped
use Rattle.vx_pps.specs.Reshaped as pps_reshaped
use Rattle.vx_pic.specs.Parts.{Parts}
use Rattle.vx_pic.specs.Resident.{is_resident, sent_before, units_written}
use Rattle.vx_pic.specs.Rules.{picture_limit, unit_size}
use Rattle.vx_pic.specs.Written.{Plan, SetUnit, planned_slices, units_of}
use Rattle.vx_write.specs.Units.{IsSeiUnit, IsSetUnit}
use Rattle.vx_frame.specs.declared.corner.Corner.{Corner}
use Rattle.vx_frame.specs.Rounds.{picture_at}
use Rattle.vx_frame.specs.Rules.{of_limit}
use Rattle.vx_frame.specs.Shapes.{IsFrame, frame_pps_shape, frame_sps_shape}
use Rattle.vx_frame.specs.Verdict.{Rule}
use Rattle.vx_merge.specs.Headers.{HasMergedHeader, IsMergedSlice, sourced}
use Rattle.vx_merge.specs.Needed.{Ids, TakeIds, sets_of_round}

-- ---- pictures

-- A round is written so after others, as a picture of source 0's kind. The sets that it needs are the SPS and the PPS of its frame and
-- the bodies that its slices and its header name. Those that aren't resident are sent, with the ids that they take. Then come source 0's
-- messages, one picture header, and the slices of all sources. All units are bytes.
pub record IsMerged (corners : List Corner) (level : Option ℕ) (round : List Parts) (done : List Plan) (p : Plan) : Type 0 where
  pub kind : p.kind ≡ (picture_at round 0).kind
  pub temporal_id : p.begun.temporal_id ≡ p.kind.temporal_id
  pub frame : IsFrame corners round p.begun.layout
  pub sps : sps_reshaped.IsReshapedSps (picture_at round 0).sps (frame_sps_shape corners round level) p.begun.sps
  pub ids : Ids
  pub plain : List Item
  pub plain_is : pps_reshaped.IsReshapedPps (picture_at round 0).pps (frame_pps_shape corners round p.begun.layout 0) plain
  pub taken : TakeIds round p.kind.temporal_id (sent_before done p) plain ids
  pub pps : pps_reshaped.IsReshapedPps (picture_at round 0).pps (frame_pps_shape corners round p.begun.layout ids.pps) p.begun.pps
  pub header : HasMergedHeader round ids p.begun
  pub slices : AllZip (λ x w. IsMergedSlice round ids p.kind.nal_type p.begun x.0 x.1 w) (sourced 0 round) (planned_slices p)
  pub needed : List SetUnit
  pub sets : map (λ x. x.set) needed ≡ sets_of_round round ids p.begun.sps p.begun.pps
  pub units : AllByRecursion (λ x. IsSetUnit p.kind.temporal_id x.set x.unit) needed
  pub sent : p.sent ≡ filter (λ x. not (is_resident p.kind.temporal_id (sent_before done p) x)) needed
  pub sei : IsSeiUnit p.kind.temporal_id (picture_at round 0).messages p.sei
  pub bytes : AllByRecursion AreBytes (units_of p)

-- A round is written in one way.
abbrev pub MergedIsOne : Type 0
MergedIsOne = (corners : List Corner) (level : Option ℕ) (round : List Parts) (done : List Plan) (p q : Plan)
    → IsMerged corners level round done p → IsMerged corners level round done q → p ≡ q

-- ---- limits of what is to be written

-- L1: a unit of it is too long.
abbrev pub long_unit : Plan → Rule
long_unit p = of_limit rules.LONG_UNIT (¬ AllByRecursion (λ u. length u ≤ unit_limit) (units_of p))

-- L2: its picture header and its slices have too many bytes.
abbrev pub long_picture : Plan → Rule
long_picture p = of_limit rules.LONG_PICTURE (picture_limit < unit_size p.begun.unit + sum_by (λ s. length s.unit) (planned_slices p))

-- L3: with it too many bytes are written in all.
abbrev pub long_stream : List Plan → Plan → Rule
long_stream done p = of_limit rules.LONG_SOURCE (source_limit < length (written (units_written (p ∷ done))))

abbrev pub limits_of : List Plan → Plan → List Rule
limits_of done p = long_unit p ∷ long_picture p ∷ long_stream done p ∷ []
