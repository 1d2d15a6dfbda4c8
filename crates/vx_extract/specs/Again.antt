-- What is written is read again: what the rewritten sets of a picture's subpicture make up. Our own. The laws of this crate state it.
use Rattle.std.specs.List.{AllByRecursion}
use Rattle.std.specs.Prelude.{◌≡◌, ℕ, ◌<◌, ◌≤◌, Bool, true, false, IsTrue, List, [], ◌∷◌, length, map, All, Option, Ok}
use Rattle.vx_bits.specs.declared.list.Item.{Item}
use Rattle.vx_layout.specs.Regions.{region_of}
use Rattle.vx_table.specs.Depends.{Agree}
use Rattle.vx_sei.specs.Sei.{is_carried}
use Rattle.vx_rpl.specs.HeaderLists.{lists_of}
use Rattle.vx_sps.specs.Depends as sps_kept
use Rattle.vx_sps.specs.Subpictures.{subpics_of, is_treated, is_filtered}
use Rattle.vx_sps.specs.Reshaped as sps_reshaped
use Rattle.vx_pps.specs.Reshaped as pps_reshaped
use Rattle.vx_pps.specs.Pps as pps_kept
use Rattle.vx_ph.specs.declared.header.PictureHeader.{PictureHeader}
use Rattle.vx_ph.specs.Depends.{all_of_sets}
use Rattle.vx_ph.specs.InForce.{in_force, structures}
use Rattle.vx_sh.specs.Elsewhere.{given}
use Rattle.vx_sh.specs.InForce.{slice_scope}
use Rattle.vx_pic.specs.Sets.{SliceHeader, sps_id, pps_id, referred_sps, same_size}
use Rattle.vx_pic.specs.PictureLayout.{MakeLayout, ids_of, numbers_in}
use Rattle.vx_pic.specs.Parts.{AreThere, Parts, parts_of}
use Rattle.vx_pic.specs.Readings.{Begun, Picture, is_whole, messages_of}
use Rattle.vx_pic.specs.Finished.{AreFinished, IsSoundPicture}
use Rattle.vx_pic.specs.Alike.{AlikeForCounts, AreAlike}
use Rattle.vx_pic.specs.Resident.{AllReadAgain, AreAllPlanned, planned_of}
use Rattle.vx_pic.specs.Written.{Plan}
use Rattle.vx_pic.specs.Rules.{Readers, picture_limit, picture_size}
use Rattle.vx_pic.specs.Whole.{HasAllInOrder}
use Rattle.vx_pic.specs.H266.{AreOfH266}
use Rattle.vx_extract.specs.Written.{AreExtracted, IsExtracted, named_in}
use Rattle.vx_extract.specs.Shapes.{id_in, sps_shape, pps_shape}
use Rattle.vx_write.specs.Again.{HasItsBodies, HasReadableSets, IsWholePlan, SendsItsSets, UnitsAreRead}
use Rattle.vx_write.specs.InForce.{AreInForce}

-- ---- the rewritten sets

-- The sets that are rewritten for a subpicture of a picture, at a level or at its own.
pub record AreRewritten (target : ℕ) (level : Option ℕ) (q : Parts) (sps pps : List Item) : Type 0 where
  pub of_sps : sps_reshaped.IsReshapedSps q.sps (sps_shape q target level) sps
  pub of_pps : pps_reshaped.IsReshapedPps q.pps (pps_shape q target) pps

-- They make up a picture that is the region of the subpicture: its one subpicture has the id, is treated as a picture, and isn't
-- filtered across.
pub record MakeRegion (target : ℕ) (q : Parts) (sps pps : List Item) : Type 0 where
  pub size : same_size sps pps ≡ true
  pub numbers : numbers_in sps pps ≡ region_of q.layout target
  pub made : MakeLayout sps pps
  pub ids : ids_of sps pps ≡ id_in q target ∷ []
  pub alone : subpics_of sps ≡ 1
  pub treated : is_treated sps 0 ≡ true
  pub filtered : is_filtered sps 0 ≡ false

abbrev pub RewrittenMakeRegion : Type 0
RewrittenMakeRegion =
    (target : ℕ) (level : Option ℕ) (q : Parts) (sps pps : List Item) → AreInForce q → target < subpics_of q.sps
    → AreRewritten target level q sps pps → MakeRegion target q sps pps

-- They have the ids of the sets that they replace.
pub record KeepIds (q : Parts) (sps pps : List Item) : Type 0 where
  pub of_sps : sps_id sps ≡ sps_id q.sps
  pub of_pps : pps_id pps ≡ pps_id q.pps
  pub referred : referred_sps pps ≡ referred_sps q.pps

abbrev pub RewrittenKeepIds : Type 0
RewrittenKeepIds =
    (target : ℕ) (level : Option ℕ) (q : Parts) (sps pps : List Item) → AreInForce q → target < subpics_of q.sps
    → AreRewritten target level q sps pps → KeepIds q sps pps

-- ---- what stays

-- Their kept fields are the source's.
pub record KeepFields (q : Parts) (sps pps : List Item) : Type 0 where
  pub of_sps : sps_kept.kept_sps_items sps ≡ sps_kept.kept_sps_items q.sps
  pub of_pps : pps_kept.kept_pps_items pps ≡ pps_kept.kept_pps_items q.pps

abbrev pub RewrittenKeepFields : Type 0
RewrittenKeepFields =
    (target : ℕ) (level : Option ℕ) (q : Parts) (sps pps : List Item) → AreInForce q → target < subpics_of q.sps
    → AreRewritten target level q sps pps → KeepFields q sps pps

-- All that a picture header or a slice header finds in them is the source's. That is: the structures of reference picture lists, and the
-- lists of a header; the numbers that picture headers depend on, and those that slice headers depend on.
pub record AgreeForHeaders (q : Parts) (sps pps : List Item) : Type 0 where
  pub same_structures : structures sps ≡ structures q.sps
  pub lists : (header : List Item)
      → lists_of (structures sps) (in_force sps pps) header ≡ lists_of (structures q.sps) (in_force q.sps q.pps) header
  pub sets : Agree all_of_sets (in_force q.sps q.pps) (in_force sps pps)
  pub slices : (nal_type : ℕ) (h : PictureHeader)
      → Agree given (slice_scope nal_type q.sps q.pps h (in_force q.sps q.pps)) (slice_scope nal_type sps pps h (in_force sps pps))

abbrev pub RewrittenAgree : Type 0
RewrittenAgree =
    (target : ℕ) (level : Option ℕ) (q : Parts) (sps pps : List Item) → AreInForce q → AreRewritten target level q sps pps
    → AgreeForHeaders q sps pps

-- ---- what is read under them

-- What comes before the slices of a picture, and of the subpicture with these sets.
abbrev pub begun_in : Parts → Begun
begun_in q = record {
  sps = q.sps;
  pps = q.pps;
  layout = q.layout;
  header = q.header.fields;
  temporal_id = q.kind.temporal_id;
  unit = q.unit;
}

abbrev pub begun_alone : ℕ → Parts → List Item → List Item → Begun
begun_alone target q sps pps = record {
  sps = sps;
  pps = pps;
  layout = region_of q.layout target;
  header = q.header.fields;
  temporal_id = q.kind.temporal_id;
  unit = q.unit;
}

-- A slice header of the one subpicture.
abbrev pub header_alone : SliceHeader → SliceHeader
header_alone h = record { fields = h.fields; subpic = 0; payload = h.payload }

-- The same units are read under the sets. The layout is the region; picture headers are read alike, or refused alike; and each slice of
-- the subpicture is read with the same fields, at the same place.
pub record ReadUnder (R : Readers) (target : ℕ) (q : Parts) (sps pps : List Item) : Type 0 where
  pub layout : R.layout sps pps ≡ Ok (region_of q.layout target)
  pub header : (inside : Bool) (rbsp : List ℕ) → R.header inside sps pps rbsp ≡ R.header inside q.sps q.pps rbsp
  pub slice : (nal_type : ℕ) (unit : List ℕ) (h : SliceHeader) → h.subpic ≡ target
      → R.slice nal_type (begun_in q) unit ≡ Ok h → R.slice nal_type (begun_alone target q sps pps) unit ≡ Ok (header_alone h)

abbrev pub RewrittenReadAlike : Type 0
RewrittenReadAlike =
    (R : Readers) (target : ℕ) (level : Option ℕ) (q : Parts) (sps pps : List Item) → AreOfH266 R → AreInForce q
    → target < subpics_of q.sps → AreRewritten target level q sps pps → ReadUnder R target q sps pps

-- ---- pictures of a stream

-- The units that are written for a whole picture that was read are read as the plan says.
abbrev pub ExtractedUnitsAreRead : Type 0
ExtractedUnitsAreRead =
    (R : Readers) (target : ℕ) (level : Option ℕ) (earlier : List Picture) (picture : Picture) (done : List Plan) (p : Plan)
    → AreOfH266 R → IsSoundPicture R earlier picture → is_whole picture ≡ true → AreInForce (parts_of picture)
    → target < subpics_of picture.begun.sps → IsExtracted target level (parts_of picture) done p → UnitsAreRead R p

-- They are all of a picture if that has all slices of its subpictures.
abbrev pub ExtractedIsWhole : Type 0
ExtractedIsWhole =
    (target : ℕ) (level : Option ℕ) (picture : Picture) (done : List Plan) (p : Plan) → HasAllInOrder picture
    → picture_size picture ≤ picture_limit → target < length picture.begun.layout.subpics
    → IsExtracted target level (parts_of picture) done p → IsWholePlan p

-- Of the sets that it needs those are sent that aren't resident.
abbrev pub ExtractedSendsItsSets : Type 0
ExtractedSendsItsSets =
    (target : ℕ) (level : Option ℕ) (q : Parts) (done : List Plan) (p : Plan) → (ex : IsExtracted target level q done p)
    → SendsItsSets ex.needed done p

-- These can be read again, and among them are all that the slices name.
abbrev pub ExtractedHasItsBodies : Type 0
ExtractedHasItsBodies =
    (target : ℕ) (level : Option ℕ) (q : Parts) (done : List Plan) (p : Plan) → AreInForce q → HasReadableSets q
    → AreThere q.bodies (named_in q target) → (ex : IsExtracted target level q done p) → HasItsBodies ex.needed p

-- Its header agrees with the picture's in all that counts depend on.
abbrev pub ExtractedIsAlike : Type 0
ExtractedIsAlike =
    (target : ℕ) (level : Option ℕ) (picture : Picture) (done : List Plan) (p : Plan)
    → IsExtracted target level (parts_of picture) done p → AlikeForCounts picture.begun p.begun

-- ---- all of them

-- What is known of a picture of a stream whose subpicture is written. There are the facts of its sets; it has the subpicture, and all
-- slices of each; its adaptation parameter sets can be written, and those that the subpicture's slices name are there; and its messages
-- are carried.
pub record IsReady (target : ℕ) (picture : Picture) : Type 0 where
  pub in_force : AreInForce (parts_of picture)
  pub has : target < subpics_of picture.begun.sps
  pub each : HasAllInOrder picture
  pub readable : HasReadableSets (parts_of picture)
  pub there : AreThere (parts_of picture).bodies (named_in (parts_of picture) target)
  pub carried : All (λ m. IsTrue (is_carried m.kind)) (messages_of picture)

-- The plans of what is written for whole pictures that were read are valid, so that it is read again, and have the counts of these
-- pictures.
abbrev pub ExtractedArePlanned : Type 0
ExtractedArePlanned =
    (R : Readers) (target : ℕ) (level : Option ℕ) (pictures : List Picture) (done : List Plan) → AreOfH266 R → AreFinished R pictures
    → AllByRecursion (IsReady target) pictures → AreExtracted target level (map parts_of pictures) done
    → AreAllPlanned R done × AreAlike pictures (planned_of done)

-- So their units are read, and the pictures are those that were written, all whole.
abbrev pub ExtractedReadsAgain : Type 0
ExtractedReadsAgain =
    (R : Readers) (target : ℕ) (level : Option ℕ) (pictures : List Picture) (done : List Plan) → AreOfH266 R → AreFinished R pictures
    → AllByRecursion (IsReady target) pictures → AreExtracted target level (map parts_of pictures) done → AllReadAgain R done
