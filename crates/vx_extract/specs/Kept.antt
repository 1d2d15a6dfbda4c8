-- What decoding depends on is kept: the decoding inputs of the subpicture's slices, and the messages. Our own. The laws of this crate
-- state it.
use Rattle.std.specs.List.{AllByRecursion}
use Rattle.std.specs.Prelude.{◌≡◌, ℕ, ◌<◌, List, map, Option}
use Rattle.vx_bits.specs.declared.list.Item.{Item}
use Rattle.vx_layout.specs.Regions.{region_of}
use Rattle.vx_sps.specs.Subpictures.{subpics_of}
use Rattle.vx_pic.specs.Readings.{Picture, messages_of}
use Rattle.vx_pic.specs.Parts.{Parts, parts_of}
use Rattle.vx_pic.specs.Inputs.{body_of, inputs_of, place_in}
use Rattle.vx_pic.specs.Written.{Plan, Rests, planned}
use Rattle.vx_pic.specs.Resident.{planned_of, readings_of_plans}
use Rattle.vx_pic.specs.Rules.{Readers}
use Rattle.vx_pic.specs.Finished.{AreFinished}
use Rattle.vx_pic.specs.H266.{AreOfH266}
use Rattle.vx_extract.specs.Written.{AreExtracted, IsExtracted, named_in}
use Rattle.vx_extract.specs.Again.{AreRewritten, IsReady}
use Rattle.vx_write.specs.InForce.{AreInForce}

-- ---- places

-- A picture with these sets, and the region of its subpicture as the layout.
abbrev pub region_in : ℕ → Parts → (sps pps : List Item) → Parts
region_in target q sps pps = record q { sps = sps; pps = pps; layout = region_of q.layout target }

-- Under the rewritten sets a slice of the region has the place that it has in the subpicture.
abbrev pub RewrittenKeepPlaces : Type 0
RewrittenKeepPlaces =
    (target : ℕ) (level : Option ℕ) (q : Parts) (sps pps : List Item) (address : ℕ) → AreInForce q → target < subpics_of q.sps
    → AreRewritten target level q sps pps → place_in (region_in target q sps pps) 0 address ≡ place_in q target address

-- ---- adaptation parameter sets

-- Those that the slices of the subpicture name have the picture's bodies in the picture that is read again.
abbrev pub ExtractedKeepsBodies : Type 0
ExtractedKeepsBodies =
    (target : ℕ) (level : Option ℕ) (picture : Picture) (done : List Plan) (p : Plan) → IsReady target picture
    → IsExtracted target level (parts_of picture) done p
    → AllByRecursion (λ slot. body_of (parts_of (planned (readings_of_plans done) p)) slot.kind slot.id ≡ body_of (parts_of picture) slot.kind slot.id)
    (named_in (parts_of picture) target)

-- ---- pictures

-- The slices of the picture that is read again have the decoding inputs of the subpicture's slices,
abbrev pub ExtractedKeepsInputs : Type 0
ExtractedKeepsInputs =
    (target : ℕ) (level : Option ℕ) (picture : Picture) (done : List Plan) (p : Plan) → IsReady target picture
    → IsExtracted target level (parts_of picture) done p → inputs_of (planned (readings_of_plans done) p) 0 ≡ inputs_of picture target

-- and it has the picture's messages.
abbrev pub ExtractedKeepsMessages : Type 0
ExtractedKeepsMessages =
    (target : ℕ) (level : Option ℕ) (picture : Picture) (done : List Plan) (p : Plan) → Rests (readings_of_plans done)
    → IsExtracted target level (parts_of picture) done p → messages_of (planned (readings_of_plans done) p) ≡ messages_of picture

-- So it is with all pictures of a stream.
abbrev pub AllKeepInputs : Type 0
AllKeepInputs =
    (target : ℕ) (level : Option ℕ) (pictures : List Picture) (done : List Plan) → AllByRecursion (IsReady target) pictures
    → AreExtracted target level (map parts_of pictures) done
    → map (λ p. inputs_of p 0) (planned_of done) ≡ map (λ p. inputs_of p target) pictures

abbrev pub AllKeepMessages : Type 0
AllKeepMessages =
    (R : Readers) (target : ℕ) (level : Option ℕ) (pictures : List Picture) (done : List Plan) → AreOfH266 R → AreFinished R pictures
    → AllByRecursion (IsReady target) pictures → AreExtracted target level (map parts_of pictures) done
    → map messages_of (planned_of done) ≡ map messages_of pictures
