-- The frame of a round, which serves other rounds with the same sets. Our own.
use Rattle.std.specs.Prelude.{◌≡◌, ℕ, ◌==◌, Bool, false, cond, List, length, map, Option, Some, None, IfSome}
use Rattle.vx_bits.specs.declared.list.Item.{Item}
use Rattle.vx_layout.specs.declared.numbers.Numbers.{Numbers}
use Rattle.vx_sps.specs.Reshaped as sps_reshaped
use Rattle.vx_pps.specs.Reshaped as pps_reshaped
use Rattle.vx_pic.specs.Keys.{SetItems}
use Rattle.vx_pic.specs.Parts.{Parts}
use Rattle.vx_pic.specs.PictureLayout.{numbers_in}
use Rattle.vx_frame.specs.declared.corner.Corner.{Corner}
use Rattle.vx_frame.specs.declared.frame.Frame.{Frame}
use Rattle.vx_frame.specs.declared.frame.RenamedPps.{RenamedPps}
use Rattle.vx_frame.specs.declared.frame.RoundFrame.{RoundFrame}
use Rattle.vx_frame.specs.declared.frame.RoundFrame.TheVariants.{Kept, New}
use Rattle.vx_frame.specs.Corners.{AreCorners}
use Rattle.vx_frame.specs.Regions.{layouts_in}
use Rattle.vx_frame.specs.Rounds.{no_picture, picture_at}
use Rattle.vx_frame.specs.Rules.{rules_of}
use Rattle.vx_frame.specs.Shapes.{frame_pps_shape, frame_sps_shape}
use Rattle.vx_frame.specs.Verdict.{IsVerdict}
use Rattle.vx_frame.specs.inner.Geometry.{IsGeometryOf, IsRoundGeometry, MakeFrame}

-- ---- sets

-- A picture's sets and the layout that they give it, and nothing else of it.
abbrev pub sets_of : Parts → Parts
sets_of q = record no_picture { sps = q.sps; pps = q.pps; layout = q.layout }

-- The same of sets that are kept.
abbrev pub sets_in : SetItems → Parts
sets_in x = record no_picture { sps = x.sps; pps = x.pps; layout = numbers_in x.sps x.pps }

-- The pictures of two rounds have the same sets.
abbrev pub HaveSameSets : List Parts → List Parts → Type 0
HaveSameSets kept round = map sets_of kept ≡ map sets_of round

-- These are the sets of a round.
abbrev pub AreSetsOf : List Parts → List SetItems → Type 0
AreSetsOf round sources = map sets_in sources ≡ map sets_of round

abbrev pub HasSetsOf : List Parts → Frame → Type 0
HasSetsOf round f = AreSetsOf round f.sources.items

-- ---- what is made of them

-- An SPS for the frame of a round, at a level or at the highest of its pictures.
abbrev pub IsSpsFor : List Corner → List Parts → Option ℕ → List Item → Type 0
IsSpsFor corners round level items = sps_reshaped.IsReshapedSps (picture_at round 0).sps (frame_sps_shape corners round level) items

-- A PPS with an id for it.
abbrev pub IsPpsFor : List Corner → List Parts → Numbers → ℕ → List Item → Type 0
IsPpsFor corners round frame id items = pps_reshaped.IsReshapedPps (picture_at round 0).pps (frame_pps_shape corners round frame id) items

-- Geometry, layout, SPS, the PPS with the id 0, and the one with another id, if there is one, are those of a round.
pub record IsFrameFor (corners : List Corner) (level : Option ℕ) (round : List Parts) (f : Frame) : Type 0 where
  pub geometry : IsGeometryOf corners round f.geometry
  pub made : MakeFrame corners round f.geometry.numbers
  pub layout : f.layout ≡ f.geometry.numbers
  pub sps : IsSpsFor corners round level f.sps
  pub plain : IsPpsFor corners round f.geometry.numbers 0 f.plain
  pub renamed : IfSome f.renamed (λ r. IsPpsFor corners round f.geometry.numbers r.id r.pps)

-- And it was made of these sets.
pub record IsFrameOf (corners : List Corner) (level : Option ℕ) (round : List Parts) (f : Frame) : Type 0 where
  pub is : IsFrameFor corners level round f
  pub sets : HasSetsOf round f

-- It is that of a round that breaks no rule.
pub record IsUsedFor (corners : List Corner) (level : Option ℕ) (round : List Parts) (f : Frame) : Type 0 where
  pub are : AreCorners corners
  pub count : length corners ≡ length round
  pub passes : IsVerdict (length corners) (rules_of corners round) None
  pub is : IsFrameFor corners level round f

-- Its corners and its level aren't part of it.
abbrev pub IsSomeUsed : List Parts → Frame → Type 0
IsSomeUsed round f = (corners : List Corner) × ((level : Option ℕ) × IsUsedFor corners level round f)

-- Another serves for the round as it does, and was made of the same sets.
pub record ServesAs (round : List Parts) (f other : Frame) : Type 0 where
  pub sources : other.sources ≡ f.sources
  pub plain : other.plain ≡ f.plain
  pub used : (corners : List Corner) (level : Option ℕ) → IsUsedFor corners level round f → IsUsedFor corners level round other

-- ---- its PPS under an id

-- The one with another id than 0 has this id.
abbrev pub is_renamed : Option RenamedPps → ℕ → Bool
is_renamed None id = false
is_renamed (Some r) id = r.id == id

abbrev pub renamed_or : List Item → Option RenamedPps → List Item
renamed_or plain None = plain
renamed_or plain (Some r) = r.pps

abbrev pub pps_under : Frame → ℕ → List Item
pps_under f id = cond (id == 0) f.plain (renamed_or f.plain f.renamed)

-- The PPS with this id is there.
abbrev pub HasPps : List Parts → ℕ → Frame → Type 0
HasPps round id f = (corners : List Corner) (level : Option ℕ) → IsUsedFor corners level round f → IsPpsFor corners round f.geometry.numbers id (pps_under f id)

-- ---- from round to round

-- What is kept is the frame of some round that broke no rule, with its sets.
pub record IsKeptFrame (corners : List Corner) (level : Option ℕ) (f : Frame) : Type 0 where
  pub kept : List Parts
  pub sets : HasSetsOf kept f
  pub is : IsUsedFor corners level kept f

abbrev pub IsSomeKept : List Corner → Frame → Type 0
IsSomeKept corners f = (level : Option ℕ) × IsKeptFrame corners level f

-- A round with the same sets broke no rule.
pub record HavePassed (corners : List Corner) (round : List Parts) : Type 0 where
  pub kept : List Parts
  pub count : length corners ≡ length kept
  pub passes : IsVerdict (length corners) (rules_of corners kept) None
  pub same : HaveSameSets kept round

-- ---- what the rules on sets leave

-- The frame that was kept serves for the round, or the geometry is that of its frame.
abbrev pub IsRoundFrame : List Corner → Option ℕ → List Parts → RoundFrame → Type 0
IsRoundFrame corners level round (Kept f) = IsFrameOf corners level round f.value × HavePassed corners round
IsRoundFrame corners level round (New g) = IsRoundGeometry corners round g

abbrev pub IsSomeRound : Option ℕ → List Parts → RoundFrame → Type 0
IsSomeRound level round frame = (corners : List Corner) × IsRoundFrame corners level round frame

-- This holds if the frame was kept; otherwise the layouts are those of the pictures.
abbrev pub KnownWhereKept : Type 0 → List Parts → RoundFrame → Type 0
KnownWhereKept OfKept round (Kept f) = OfKept
KnownWhereKept OfKept round (New g) = g.layouts.items ≡ layouts_in round

-- A round with the same sets broke no rule, in regions with some corners.
abbrev pub SomePassed : List Parts → Type 0
SomePassed round = (corners : List Corner) × HavePassed corners round
