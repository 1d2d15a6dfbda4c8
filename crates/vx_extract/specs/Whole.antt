-- What is written for a subpicture of a whole stream, or of its pictures up to a TemporalId, read again. Our own.
use Rattle.std.specs.List.{AllByRecursion}
use Rattle.std.specs.Prelude.{◌≡◌, ℕ, ◌<◌, true, List, [], map, All, Option, None}
use Rattle.vx_annexb.specs.Laws.{CanStand}
use Rattle.vx_sps.specs.Subpictures.{subpics_of}
use Rattle.vx_pic.specs.Readings.{Picture, messages_of}
use Rattle.vx_pic.specs.Parts.{parts_of}
use Rattle.vx_pic.specs.Inputs.{inputs_of}
use Rattle.vx_pic.specs.Written.{Plan}
use Rattle.vx_pic.specs.Resident.{units_written}
use Rattle.vx_pic.specs.Rules.{Readers}
use Rattle.vx_pic.specs.Streams.{ending_of, pictures_of, read_on}
use Rattle.vx_pic.specs.Sublayers.{KeepsStarts, at_most}
use Rattle.vx_pic.specs.Bytes.{ArePictures}
use Rattle.vx_pic.specs.H266.{AreOfH266}
use Rattle.vx_extract.specs.Written.{AreExtracted, IsExtraction}

-- The pictures `qs` are those of a subpicture of pictures: one for each, in order, of its kind and with its messages. Each has one
-- subpicture, whose slices have the decoding inputs of the target's.
pub record AreOfSubpicture (target : ℕ) (pictures qs : List Picture) : Type 0 where
  pub kinds : map (λ q. q.kind) qs ≡ map (λ p. p.kind) pictures
  pub messages : map messages_of qs ≡ map messages_of pictures
  pub alone : AllByRecursion (λ q. subpics_of q.begun.sps ≡ 1) qs
  pub inputs : map (λ q. inputs_of q 0) qs ≡ map (λ p. inputs_of p target) pictures

-- The written units have such pictures, no rule refuses one of them, and at their end no picture lacks a slice.
pub record UnitsAreOfSubpicture (R : Readers) (target : ℕ) (source : List Picture) (units : List (List ℕ)) : Type 0 where
  pub pictures : AreOfSubpicture target source (pictures_of R units)
  pub ends : ending_of (read_on R [] units) ≡ None

-- A subpicture can be written of the pictures up to a TemporalId (C.6): each of them has it, and no IRAP or GDR picture is left out. Up
-- to 6 these are all pictures.
pub record AreKeptWith (target tid : ℕ) (pictures : List Picture) : Type 0 where
  pub has : AllByRecursion (λ p. target < subpics_of p.begun.sps) (at_most tid pictures)
  pub starts : KeepsStarts tid pictures

-- So it is with those that are written for a subpicture of the pictures of a stream up to a TemporalId.
abbrev pub ExtractedUnitsReadAgain : Type 0
ExtractedUnitsReadAgain =
    (R : Readers) (units : List (List ℕ)) (target tid : ℕ) (level : Option ℕ) (done : List Plan) → AreOfH266 R
    → AreKeptWith target tid (pictures_of R units)
    → AreExtracted target level (map parts_of (at_most tid (pictures_of R units))) done
    → UnitsAreOfSubpicture R target (at_most tid (pictures_of R units)) (units_written done)

-- The bytes that are written of a stream, whose units can stand in one, have such pictures, and no rule refuses them.
abbrev pub ExtractionReadsAgain : Type 0
ExtractionReadsAgain =
    (R : Readers) (units : List (List ℕ)) (target tid : ℕ) (level : Option ℕ) (bytes : List ℕ) → AreOfH266 R → All CanStand units
    → AreKeptWith target tid (pictures_of R units)
    → IsExtraction target level (map parts_of (at_most tid (pictures_of R units))) bytes
    → (qs : List Picture) × ArePictures R bytes true qs None × AreOfSubpicture target (at_most tid (pictures_of R units)) qs
