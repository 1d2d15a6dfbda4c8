-- The sets that are rewritten for the frame of a round make up a picture that is the frame. Our own.
use Rattle.std.specs.List.{AllByRecursion}
use Rattle.std.specs.Prelude.{◌≡◌, ℕ, ◌<◌, true, false, List, length, Option, None}
use Rattle.vx_bits.specs.declared.list.Item.{Item}
use Rattle.vx_layout.specs.declared.numbers.Numbers.{Numbers}
use Rattle.vx_sps.specs.Reshaped as sps_reshaped
use Rattle.vx_sps.specs.Subpictures.{is_filtered, is_treated, subpics_of}
use Rattle.vx_pps.specs.Reshaped as pps_reshaped
use Rattle.vx_sh.specs.Whole.{index_of}
use Rattle.vx_pic.specs.Parts.{Parts}
use Rattle.vx_pic.specs.PictureLayout.{MakeLayout, ids_of, numbers_in}
use Rattle.vx_pic.specs.Sets.{pps_id, referred_sps, same_size, sps_id}
use Rattle.vx_frame.specs.declared.corner.Corner.{Corner}
use Rattle.vx_frame.specs.Corners.{AreCorners}
use Rattle.vx_frame.specs.Rounds.{picture_at}
use Rattle.vx_frame.specs.Shapes.{IsFrame, frame_pps_shape, frame_sps_shape}
use Rattle.vx_frame.specs.Counts.{pps_slots}
use Rattle.vx_merge.specs.Merging.{Judges}
use Rattle.vx_again.specs.Sources.{IsSource}

-- The pictures of a round that stand in regions with these corners.
pub record IsReadyRound (corners : List Corner) (round : List Parts) : Type 0 where
  pub are : AreCorners corners
  pub same : length corners ≡ length round
  pub each : AllByRecursion IsSource round

-- The sets that are rewritten for its frame, the PPS with this id.
pub record AreFrameSets (corners : List Corner) (level : Option ℕ) (round : List Parts) (frame : Numbers) (id : ℕ) (sps pps : List Item) : Type 0 where
  pub low : id < pps_slots
  pub of_sps : sps_reshaped.IsReshapedSps (picture_at round 0).sps (frame_sps_shape corners round level) sps
  pub of_pps : pps_reshaped.IsReshapedPps (picture_at round 0).pps (frame_pps_shape corners round frame id) pps

-- They make up the frame of n sources: a subpicture for each, whose id is its index, treated as a picture and not filtered across.
pub record MakeTheFrame (n : ℕ) (frame : Numbers) (id : ℕ) (sps pps : List Item) : Type 0 where
  pub size : same_size sps pps ≡ true
  pub numbers : numbers_in sps pps ≡ frame
  pub made : MakeLayout sps pps
  pub count : subpics_of sps ≡ n
  pub ids : length (ids_of sps pps) ≡ n
  pub index : (k : ℕ) → k < n → index_of k (ids_of sps pps) ≡ k
  pub treated : (k : ℕ) → is_treated sps k ≡ true
  pub filtered : (k : ℕ) → is_filtered sps k ≡ false
  pub sps_id_is : sps_id sps ≡ 0
  pub pps_id_is : pps_id pps ≡ id
  pub referred : referred_sps pps ≡ 0

abbrev pub SetsMakeTheFrame : Type 0
SetsMakeTheFrame =
    (corners : List Corner) (level : Option ℕ) (round : List Parts) (frame : Numbers) (id : ℕ) (sps pps : List Item)
    → IsReadyRound corners round → Judges corners round None → IsFrame corners round frame
    → AreFrameSets corners level round frame id sps pps → MakeTheFrame (length round) frame id sps pps
