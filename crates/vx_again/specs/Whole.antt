-- What is written for the rounds of several streams, as bytes, is read again as their merge, and each region can be extracted. Our own.
use Rattle.std.specs.List.{AllByRecursion}
use Rattle.std.specs.Prelude.{◌≡◌, ℕ, ◌≤◌, true, List, length, map, slice_get, All, Option, Some, None}
use Rattle.vx_annexb.specs.ByteStream.{source_limit}
use Rattle.vx_annexb.specs.Laws.{CanStand, written}
use Rattle.vx_sps.specs.Subpictures.{subpics_of}
use Rattle.vx_pic.specs.Bytes.{ArePictures}
use Rattle.vx_pic.specs.H266.{AreOfH266}
use Rattle.vx_pic.specs.Inputs.{inputs_of}
use Rattle.vx_pic.specs.Parts.{parts_of}
use Rattle.vx_pic.specs.Readings.{Picture, messages_of}
use Rattle.vx_pic.specs.Resident.{planned_of, units_written}
use Rattle.vx_pic.specs.Rules.{Readers}
use Rattle.vx_pic.specs.Sublayers.{KeepsStarts, at_most}
use Rattle.vx_pic.specs.Written.{Plan}
use Rattle.vx_extract.specs.Rules.{refusal_of}
use Rattle.vx_extract.specs.Written.{IsExtraction}
use Rattle.vx_frame.specs.declared.corner.Corner.{Corner}
use Rattle.vx_again.specs.Regions.{AreOfMerge}
use Rattle.vx_again.specs.Streams.{AreWrittenSo}

-- Region k of pictures can be extracted, up to a TemporalId, if no IRAP or GDR picture is left out (H.266 C.6). What is extracted is read
-- as pictures of one subpicture with the kinds and the decoding inputs of its source.
pub record IsExtractedAsSource (R : Readers) (k : ℕ) (ps qs : List Picture) : Type 0 where
  pub rules : AllByRecursion (λ q. refusal_of k 6 (parts_of q) ≡ None) qs
  pub again : (tid : ℕ) (level : Option ℕ) (bytes : List ℕ) → KeepsStarts tid ps
      → IsExtraction k level (map parts_of (at_most tid qs)) bytes
      → (rs : List Picture) × ArePictures R bytes true rs None × AllByRecursion (λ r. subpics_of r.begun.sps ≡ 1) rs
      × (map (λ r. inputs_of r 0) rs ≡ map (λ p. inputs_of p 0) (at_most tid ps))
      × (map (λ r. r.kind) rs ≡ map (λ p. p.kind) (at_most tid ps))

-- The bytes are read as these pictures, those of the merge of streams, whose regions can be extracted. The messages are those of stream 0,
-- and the bytes are no more than a source may have.
pub record IsReadAsMerge (R : Readers) (corners : List Corner) (sources : List (List Picture)) (bytes : List ℕ) (qs : List Picture) : Type 0 where
  pub read : ArePictures R bytes true qs None
  pub pictures : AreOfMerge corners sources qs
  pub regions : (k : ℕ) (ps : List Picture) → slice_get sources k ≡ Some ps → IsExtractedAsSource R k ps qs
  pub messages : (ps : List Picture) → slice_get sources 0 ≡ Some ps → map messages_of qs ≡ map messages_of ps
  pub short : length bytes ≤ source_limit

-- The units that are written can stand in a byte stream,
abbrev pub MergedUnitsCanStand : Type 0
MergedUnitsCanStand =
    (R : Readers) (corners : List Corner) (level : Option ℕ) (sources : List (List Picture)) (done : List Plan) → AreOfH266 R
    → AreWrittenSo R corners level sources done → All CanStand (units_written done)

-- and this is read again as the merge of the streams.
abbrev pub MergeIsReadAgain : Type 0
MergeIsReadAgain =
    (R : Readers) (corners : List Corner) (level : Option ℕ) (sources : List (List Picture)) (done : List Plan) → AreOfH266 R
    → AreWrittenSo R corners level sources done
    → IsReadAsMerge R corners sources (written (units_written done)) (planned_of done)
