-- That each picture that was read has what is required of a picture that is written. Laws on written pictures rely on it.
use Rattle.std.specs.Prelude.{◌≡◌, ℕ, ◌≤◌, true, false, List, [], ◌∷◌}
use Rattle.std.specs.List.{AllByRecursion}
use Rattle.vx_sei.specs.Sei.{spelled_length}
use Rattle.vx_pic.specs.Units.{has_header_inside}
use Rattle.vx_pic.specs.Sets.{sps_id, referred_sps, names_of}
use Rattle.vx_pic.specs.Readings.{Slice, Picture, messages_of, is_whole}
use Rattle.vx_pic.specs.Rules.{Readers, picture_size, picture_limit, message_limit}
use Rattle.vx_pic.specs.Streams.{pictures_of}
use Rattle.vx_pic.specs.Alike.{IsNext}
use Rattle.vx_pic.specs.Written.{AreInOrder, AreInForce, HeadReads, SliceReads}

module _ (R : Readers) where
  -- A picture after these, the latest first, with the slices so far.
  pub record IsSoundPicture (earlier : List Picture) (p : Picture) : Type 0 where
    pub first : Slice
    pub more : List Slice
    pub slices : p.slices ≡ first ∷ more
    -- The header was read from its PH unit, or from its only slice, and refers to its sets.
    pub head : HeadReads R p.begun.unit p.begun first
    pub refers : referred_sps p.begun.pps ≡ sps_id p.begun.sps
    pub outside : AllByRecursion (λ s. has_header_inside s.unit ≡ false) more
    -- Each slice was read under it, in the picture's order, and the sets that it names are in force.
    pub each : AllByRecursion (SliceReads R p.begun p.kind.nal_type) p.slices
    pub order : AreInOrder p.begun 0 p.slices
    pub bodies : AllByRecursion (λ s. AreInForce p.before (names_of p.begun.pps p.begun.header s.header)) p.slices
    pub size : picture_size p ≤ picture_limit
    pub messages : spelled_length (messages_of p) ≤ message_limit
    pub tid : p.kind.temporal_id ≡ p.begun.temporal_id
    pub next : IsNext earlier p.begun p.kind

  -- Whole pictures, the latest first.
  abbrev pub AreFinished : List Picture → Type 0
  AreFinished [] = Unit {0}
  AreFinished (p ∷ earlier) = IsSoundPicture earlier p × (is_whole p ≡ true) × AreFinished earlier

-- All pictures of units have these properties.
abbrev pub PicturesAreFinished : Type 0
PicturesAreFinished = (R : Readers) (units : List (List ℕ)) → AreFinished R (pictures_of R units)
