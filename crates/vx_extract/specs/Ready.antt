-- The pictures of a stream: a subpicture of each that is kept can be written so that it is read again. Our own.
use Rattle.std.specs.List.{AllByRecursion}
use Rattle.std.specs.Prelude.{ℕ, ◌<◌, IsTrue, List, All}
use Rattle.vx_sei.specs.Sei.{is_carried}
use Rattle.vx_sps.specs.Subpictures.{subpics_of}
use Rattle.vx_pic.specs.Readings.{Picture, messages_of}
use Rattle.vx_pic.specs.Parts.{AreThere, parts_of}
use Rattle.vx_pic.specs.Sublayers.{at_most}
use Rattle.vx_pic.specs.Rules.{Readers}
use Rattle.vx_pic.specs.Streams.{pictures_of}
use Rattle.vx_pic.specs.H266.{AreOfH266}
use Rattle.vx_extract.specs.Written.{named_in}
use Rattle.vx_write.specs.Again.{HasReadableSets}
use Rattle.vx_extract.specs.Again.{IsReady}
use Rattle.vx_write.specs.InForce.{AreInForce}

-- The sets in force for each picture make up its layout.
abbrev pub PicturesAreInForce : Type 0
PicturesAreInForce = (R : Readers) (units : List (List ℕ)) → AreOfH266 R → AllByRecursion (λ p. AreInForce (parts_of p)) (pictures_of R units)

-- Its adaptation parameter sets can be written, those that slices name are there, and its messages are carried.
pub record HasItsReadings (p : Picture) : Type 0 where
  pub readable : HasReadableSets (parts_of p)
  pub there : (target : ℕ) → AreThere (parts_of p).bodies (named_in (parts_of p) target)
  pub carried : All (λ m. IsTrue (is_carried m.kind)) (messages_of p)

abbrev pub PicturesHaveTheirReadings : Type 0
PicturesHaveTheirReadings = (R : Readers) (units : List (List ℕ)) → AreOfH266 R → AllByRecursion HasItsReadings (pictures_of R units)

-- So a subpicture that each picture up to a TemporalId has can be written.
abbrev pub PicturesAreReady : Type 0
PicturesAreReady =
    (R : Readers) (target tid : ℕ) (units : List (List ℕ)) → AreOfH266 R
    → AllByRecursion (λ p. target < subpics_of p.begun.sps) (at_most tid (pictures_of R units))
    → AllByRecursion (IsReady target) (at_most tid (pictures_of R units))
