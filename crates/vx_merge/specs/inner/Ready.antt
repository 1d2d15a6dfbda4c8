-- A round that breaks no rule, and the sets that it needs. Our own.
use Rattle.std.specs.Prelude.{◌≡◌, ℕ, ◌<◌, false, List, length, map, Option, None}
use Rattle.vx_bits.specs.declared.list.Item.{Item}
use Rattle.vx_layout.specs.declared.numbers.Numbers.{Numbers}
use Rattle.vx_sps.specs.Reshaped as sps_reshaped
use Rattle.vx_pps.specs.Reshaped as pps_reshaped
use Rattle.vx_pic.specs.Parts.{Parts}
use Rattle.vx_pic.specs.Written.{SetUnit}
use Rattle.vx_frame.specs.declared.corner.Corner.{Corner}
use Rattle.vx_frame.specs.Bodies.{has_lmcs, is_chroma_scaled, alf_bodies}
use Rattle.vx_frame.specs.Rounds.{picture_at}
use Rattle.vx_frame.specs.Rules.{rules_of}
use Rattle.vx_frame.specs.Shapes.{of_lowest, frame_pps_shape, frame_sps_shape}
use Rattle.vx_frame.specs.Counts.{pps_slots}
use Rattle.vx_frame.specs.Verdict.{IsVerdict}
use Rattle.vx_frame.specs.inner.Geometry.{HasShapes, MakeFrame}
use Rattle.vx_merge.specs.declared.needed.RoundSets.{RoundSets}
use Rattle.vx_merge.specs.Needed.{Ids, TakeIds, lmcs_bodies, scaling_bodies}

-- The ids that the sets take.
abbrev pub ids_in : RoundSets → Ids
ids_in n = record { pps = n.pps_id; alf = n.alf.ids.items; lmcs = n.lmcs.ids.items; scaling = n.scaling.ids.items }

-- These are the sets that a round needs after sets that count as sent, with the ids that they take.
pub record AreNeeded (corners : List Corner) (level : Option ℕ) (round : List Parts) (frame : Numbers) (sent : List SetUnit) (n : RoundSets) : Type 0 where
  pub sps : sps_reshaped.IsReshapedSps (picture_at round 0).sps (frame_sps_shape corners round level) n.sps.now
  pub plain : List Item
  pub plain_is : pps_reshaped.IsReshapedPps (picture_at round 0).pps (frame_pps_shape corners round frame 0) plain
  pub pps : pps_reshaped.IsReshapedPps (picture_at round 0).pps (frame_pps_shape corners round frame n.pps_id) n.pps.now
  pub pps_id : n.pps_id < pps_slots
  pub alf : map (λ b. b.now) n.alf.bodies ≡ alf_bodies round
  pub lmcs : map (λ b. b.now) n.lmcs.bodies ≡ lmcs_bodies round
  pub scales : n.scales_chroma ≡ of_lowest has_lmcs is_chroma_scaled false round
  pub scaling : map (λ b. b.now) n.scaling.bodies ≡ scaling_bodies round
  pub taken : TakeIds round (picture_at round 0).kind.temporal_id sent plain (ids_in n)

-- What is known of a round when its headers are made.
pub record IsReady (level : Option ℕ) (round : List Parts) (frame : Numbers) (sent : List SetUnit) (n : RoundSets) : Type 0 where
  pub corners : List Corner
  pub same : length corners ≡ length round
  pub passes : IsVerdict (length corners) (rules_of corners round) None
  pub made : MakeFrame corners round frame
  pub shapes : HasShapes corners round frame
  pub needed : AreNeeded corners level round frame sent n

-- This is so for some such round.
abbrev pub IsSomeReady : List Parts → RoundSets → Type 0
IsSomeReady round n =
    (level : Option ℕ) × ((frame : Numbers) × ((sent : List SetUnit) × IsReady level round frame sent n))

-- This is so for some such round, with this layout as the frame.
abbrev pub IsReadyAt : List Parts → RoundSets → Numbers → Type 0
IsReadyAt round n frame = (level : Option ℕ) × ((sent : List SetUnit) × IsReady level round frame sent n)
