-- The regions of pictures that are read again: each is at its corner, and has the kinds and the decoding inputs of its source. Our own.
use Rattle.std.specs.List.{AllByRecursion}
use Rattle.std.specs.Prelude.{◌≡◌, ℕ, ◌*◌, true, false, List, length, map, slice_get, Option, Some}
use Rattle.vx_bits.specs.declared.list.Item.{Item}
use Rattle.vx_sps.specs.Set.{ctb_size_of}
use Rattle.vx_sps.specs.Subpictures.{is_filtered, is_treated, rect_of, subpics_of}
use Rattle.vx_pic.specs.H266.{AreOfH266}
use Rattle.vx_pic.specs.Inputs.{inputs_of}
use Rattle.vx_pic.specs.Readings.{Picture}
use Rattle.vx_pic.specs.Resident.{planned_of}
use Rattle.vx_pic.specs.Rules.{Readers}
use Rattle.vx_pic.specs.Written.{Plan}
use Rattle.vx_frame.specs.declared.corner.Corner.{Corner}
use Rattle.vx_again.specs.Streams.{AreWrittenSo}

-- ---- regions

-- Subpicture k has this upper left corner, in luma samples (H.266 7.4.3.4).
pub record StandsAt (sps : List Item) (k : ℕ) (corner : Corner) : Type 0 where
  pub left : (rect_of sps k).x * ctb_size_of sps ≡ corner.x
  pub top : (rect_of sps k).y * ctb_size_of sps ≡ corner.y

-- A picture has a subpicture for each corner, which stands there, treated as a picture and not filtered across.
pub record HasRegions (corners : List Corner) (q : Picture) : Type 0 where
  pub count : subpics_of q.begun.sps ≡ length corners
  pub place : (k : ℕ) (corner : Corner) → slice_get corners k ≡ Some corner → StandsAt q.begun.sps k corner
  pub treated : (k : ℕ) → is_treated q.begun.sps k ≡ true
  pub filtered : (k : ℕ) → is_filtered q.begun.sps k ≡ false

-- ---- their sources

-- Of the pictures `qs` subpicture k has the kinds and the decoding inputs of pictures of one subpicture.
pub record AreOfSource (k : ℕ) (ps qs : List Picture) : Type 0 where
  pub kinds : map (λ q. q.kind) qs ≡ map (λ p. p.kind) ps
  pub inputs : map (λ q. inputs_of q k) qs ≡ map (λ p. inputs_of p 0) ps

-- They are those of the merge of these streams, in regions with these corners: subpicture k is of stream k.
pub record AreOfMerge (corners : List Corner) (sources : List (List Picture)) (qs : List Picture) : Type 0 where
  pub regions : AllByRecursion (HasRegions corners) qs
  pub each : (k : ℕ) (ps : List Picture) → slice_get sources k ≡ Some ps → AreOfSource k ps qs

-- So it is with the pictures that are written for rounds of streams.
abbrev pub PlannedAreOfMerge : Type 0
PlannedAreOfMerge =
    (R : Readers) (corners : List Corner) (level : Option ℕ) (sources : List (List Picture)) (done : List Plan) → AreOfH266 R
    → AreWrittenSo R corners level sources done → AreOfMerge corners sources (planned_of done)
